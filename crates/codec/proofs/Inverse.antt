-- Writing and reading are inverse: the bytes of the number that was read are the bytes, and the number read from a number's bytes is the number.
-- Assumes nothing.
use Prim.Native.Nat.{ℕ, zero, suc, ◌+◌, ◌*◌, ◌/◌, ◌%◌, ◌^◌, ◌≤◌, ◌<◌}
use native.Mathlib.Nat.{suc-mul, mul_comm, zero-mul, add-suc, pow-succ'}
use native.Mathlib.Omega.{arith}
use mathlib.Core.Path.{◌≡◌, refl, sym, ap, ◌∙◌, subst}
use mathlib.Core.List.{List, [], ◌∷◌, ◌++◌, append_assoc, append-nil}
use lib.ListN.{length, get_or, take, drop, length-append}
use lib.Seq.{drop-cons, take-add, drop-drop, get_or-append-add}
use Rattle.vector.specs.Lists.{table}
use Rattle.codec.specs.Little.{little, bytes_of, bytes_of_all}

-- a list of bytes, as a slice of u8 is one
abbrev pub Bytes : List ℕ → Type 0
Bytes s = (i : ℕ) → get_or s i 0 < 256

-- n numbers of k bytes each, from `at` on
abbrev pub numbers : ℕ → List ℕ → ℕ → ℕ → List ℕ
numbers k s at n = table (λ i. little k s (at + k * i)) n

pub bytes_of_all_append : (k : ℕ) (xs ys : List ℕ) → bytes_of_all k (xs ++ ys) ≡ bytes_of_all k xs ++ bytes_of_all k ys
unfolding bytes_of_all
bytes_of_all_append k [] ys = refl
bytes_of_all_append k (x ∷ xs) ys = ap (λ (l : List ℕ). bytes_of k x ++ l) (bytes_of_all_append k xs ys) ∙ sym (append_assoc (bytes_of k x) (bytes_of_all k xs) (bytes_of_all k ys))

pub bytes_of_all_one : (k x : ℕ) → bytes_of_all k (x ∷ []) ≡ bytes_of k x
unfolding bytes_of_all
bytes_of_all_one k x = append-nil (bytes_of k x)

-- ---- what was read, written again
low : (b l : ℕ) → b < 256 → (b + 256 * l) % 256 ≡ b
low b l h = omega arith

high : (b l : ℕ) → b < 256 → (b + 256 * l) / 256 ≡ l
high b l h = omega arith

pub written : (k : ℕ) (s : List ℕ) (at : ℕ) → Bytes s → at + k ≤ length s → bytes_of k (little k s at) ≡ take k (drop at s)
unfolding little bytes_of
written zero s at B h = refl
written (suc k) s at B h =
    rw (low (get_or s at 0) (little k s (suc at)) (B at), high (get_or s at 0) (little k s (suc at)) (B at), drop-cons s at 0 (omega arith), written k s (suc at) B (omega arith))

pub all_written : (k n : ℕ) (s : List ℕ) (at : ℕ) → Bytes s → at + n * k ≤ length s → bytes_of_all k (numbers k s at n) ≡ take (n * k) (drop at s)
unfolding table
all_written k zero s at B h = unfold bytes_of_all in rw (zero-mul k)
all_written k (suc n) s at B h =
    let e : suc n * k ≡ n * k + k = suc-mul n k in
    let f : at + k * n ≡ at + n * k = ap (λ (m : ℕ). at + m) (mul_comm k n) in
    bytes_of_all_append k (numbers k s at n) (little k s (at + k * n) ∷ [])
    ∙ rw (bytes_of_all_one k (little k s (at + k * n)), f, written k s (at + n * k) B (omega arith), all_written k n s at B (omega arith), e, take-add (n * k) k (drop at s), drop-drop (n * k) at s)

pub eight_lt : (s : List ℕ) (at : ℕ) → Bytes s → little 8 s at < 2 ^ 64
unfolding little
eight_lt s at B =
    let a = B at in
    let b = B (suc at) in
    let c = B (suc (suc at)) in
    let d = B (suc (suc (suc at))) in
    let e = B (suc (suc (suc (suc at)))) in
    let f = B (suc (suc (suc (suc (suc at))))) in
    let g = B (suc (suc (suc (suc (suc (suc at)))))) in
    let h = B (suc (suc (suc (suc (suc (suc (suc at))))))) in
    omega arith

-- ---- what was written, read again
pub length-bytes_of : (k x : ℕ) → length (bytes_of k x) ≡ k
unfolding bytes_of
length-bytes_of zero x = refl
length-bytes_of (suc k) x = ap suc (length-bytes_of k (x / 256))

pub length-bytes_of_all : (k : ℕ) (xs : List ℕ) → length (bytes_of_all k xs) ≡ length xs * k
unfolding bytes_of_all
length-bytes_of_all k [] = sym (zero-mul k)
length-bytes_of_all k (x ∷ xs) = length-append (bytes_of k x) (bytes_of_all k xs) ∙ omega (arith, length-bytes_of k x, length-bytes_of_all k xs, suc-mul (length xs) k)

-- reading past a front
pub little_past : (k : ℕ) (p q : List ℕ) (at : ℕ) → little k (p ++ q) (length p + at) ≡ little k q at
unfolding little
little_past zero p q at = refl
little_past (suc k) p q at =
    rw (get_or-append-add p q at 0) (ap (λ (n : ℕ). get_or q at 0 + 256 * n) (ap (little k (p ++ q)) (sym (add-suc (length p) at)) ∙ little_past k p q (suc at)))

whole : (x : ℕ) → x % 256 + 256 * (x / 256) ≡ x
whole x = omega arith

part_lt : (p x : ℕ) → x < 256 * p → x / 256 < p
part_lt p x h = omega arith

pub little_of : (k x : ℕ) (q : List ℕ) → x < 256 ^ k → little k (bytes_of k x ++ q) 0 ≡ x
unfolding little bytes_of
little_of zero x q h = omega arith
little_of (suc k) x q h =
    let r = bytes_of k (x / 256) ++ q in
    let l : x / 256 < 256 ^ k = part_lt (256 ^ k) x (subst (λ (n : ℕ). x < n) (pow-succ' 256 k) h) in
    ap (λ (n : ℕ). x % 256 + 256 * n) (little_past k (x % 256 ∷ []) r 0 ∙ little_of k (x / 256) q l) ∙ whole x

pub little_of_all : (k : ℕ) (xs q : List ℕ) (i : ℕ) → ((j : ℕ) → j < length xs → get_or xs j 0 < 256 ^ k) → i < length xs → little k (bytes_of_all k xs ++ q) (i * k) ≡ get_or xs i 0
unfolding bytes_of_all
little_of_all k [] q i B h = absurd (omega arith)
little_of_all k (x ∷ xs) q zero B h =
    ap (little k ((bytes_of k x ++ bytes_of_all k xs) ++ q)) (zero-mul k)
    ∙ ap (λ (l : List ℕ). little k l 0) (append_assoc (bytes_of k x) (bytes_of_all k xs) q)
    ∙ little_of k x (bytes_of_all k xs ++ q) (B 0 (omega arith))
little_of_all k (x ∷ xs) q (suc i) B h =
    let e : suc i * k ≡ length (bytes_of k x) + i * k = omega (arith, suc-mul i k, length-bytes_of k x) in
    ap (little k ((bytes_of k x ++ bytes_of_all k xs) ++ q)) e
    ∙ ap (λ (l : List ℕ). little k l (length (bytes_of k x) + i * k)) (append_assoc (bytes_of k x) (bytes_of_all k xs) q)
    ∙ little_past k (bytes_of k x) (bytes_of_all k xs ++ q) (i * k)
    ∙ little_of_all k xs q i (λ j l. B (suc j) (omega arith)) (omega arith)
