-- Text that is put after text, and numbers as their digits. Assumes nothing.
use Prim.Native.Nat.{ℕ, zero, suc, ◌+◌, ◌-◌, ◌*◌, ◌/◌, ◌%◌, ◌^◌, ◌≤◌, ◌<◌}
use mathlib.Core.Path.{◌≡◌, refl, sym, ap, subst, ◌∙◌}
use mathlib.Core.Bool.{Bool, true, false}
use mathlib.Core.List.{List, [], ◌∷◌, ◌++◌, append_assoc}
use native.Mathlib.Nat.{pow-suc, one-le-pow, mod-eq_of_lt, pow-le-pow_right}
use native.Mathlib.Omega.{arith}
use lib.Dec.{leb}
use lib.ListN.{length, take, drop, length-append}
use lib.Seq.{take_at, drop_at, drop-drop, length-take-le}
use borrow.Author.Tests.{lt-ltb, le-ltb, leb-true, leb-false}
use borrow.Rule.Slice.PartMut.{put_mid}
use lib.Ieee.{Float, binary64, to_bits}
use Rattle.io.specs.Counts.{IsPrefixLen}
use Rattle.io.specs.Digits.{hex_digit_ascii, last_digits, IsDigitCount}
use Rattle.text.specs.Lines.{decimal_up_to, decimal, hexadecimal, with_text}

-- what a copy into a part leaves
pub mid_text : (l v : List ℕ) (at k : ℕ) → k ≡ length v → put_mid at k l v ≡ with_text l at v
unfolding with_text
mid_text l v at k e =
    ap (λ (r : List ℕ). take at l ++ (v ++ r)) (drop-drop k at l ∙ ap (λ (n : ℕ). drop (at + n) l) e)
    ∙ sym (append_assoc (take at l) v (drop (at + length v) l))

-- the fewest digits are those with no zero in front
pub fewest : (k r n : ℕ) → r ≤ suc k → IsDigitCount 10 1 n r → last_digits 10 r n ≡ decimal_up_to k n
unfolding decimal_up_to
fewest k zero n h f = absurd (omega arith)
fewest zero (suc zero) n h f = rw (mod-eq_of_lt {n = n} {m = 10} f.1)
fewest (suc k) (suc zero) n h f = rw (mod-eq_of_lt {n = n} {m = 10} f.1, lt-ltb n 10 f.1)
fewest zero (suc (suc j)) n h f = absurd (omega arith)
fewest (suc k) (suc (suc j)) n h f =
    let least : 10 ^ suc j ≤ n = (let e₀ : suc (suc j) - 1 ≡ suc j = omega arith in subst (λ (k : ℕ). 10 ^ k ≤ n) e₀ (f.2 (omega arith))) in
    let e : 10 ^ suc j ≡ 10 ^ j * 10 = pow-suc 10 j in
    let e₂ : 10 ^ suc (suc j) ≡ 10 ^ suc j * 10 = pow-suc 10 (suc j) in
    let p : 1 ≤ 10 ^ j = one-le-pow j 10 (omega arith) in
    rw (le-ltb n 10 (omega arith))
    (ap (λ (l : List ℕ). l ++ (hex_digit_ascii (n % 10) ∷ []))
    (fewest k (suc j) (n / 10) (omega arith) (omega arith, omega (arith, f.1), λ g. let e₁ : suc j - 1 ≡ j = omega arith in subst (λ (i : ℕ). 10 ^ i ≤ n / 10) (sym e₁) (omega arith))))

-- they are no more than hold the number
pub few : (b l n r k : ℕ) → 0 < b → l ≤ k → n < b ^ k → IsDigitCount b l n r → r ≤ k
few b l n r k pos low fits f = go (leb r k) refl
  where
    go : (t : Bool) → leb r k ≡ t → r ≤ k
    go true e = leb-true r k e
    go false e =
        let more : k < r = leb-false r k e in
        let least : b ^ (r - 1) ≤ n = f.2 (omega arith) in
        absurd (omega (arith, pow-le-pow_right pos {i = k} {j = r - 1} (omega arith)))

-- what io::decimal and io::hex put
pub decimal_is : {bytes : List ℕ} {r n : ℕ} → r ≤ 20 → IsDigitCount 10 1 n r → bytes ≡ last_digits 10 r n → bytes ≡ decimal n
unfolding decimal
decimal_is {r = r} {n = n} h f d = d ∙ fewest 19 r n h f

pub hexadecimal_is : (r : ℕ) (x : Float) {bytes : List ℕ} → r ≡ 16 → bytes ≡ last_digits 16 r (to_bits binary64 x) → bytes ≡ hexadecimal x
unfolding hexadecimal
hexadecimal_is r x h d = d ∙ ap (λ (k : ℕ). last_digits 16 k (to_bits binary64 x)) h

-- text after text that is known
module _ (out known text : List ℕ) {o o' : List ℕ} {r : ℕ} (e : o ≡ with_text out 0 known) (h : r ≡ length known) (g : o' ≡ with_text o r text) where
  front : take r o ≡ known
  unfolding with_text
  front = ap (take r) e ∙ take_at known (drop (0 + length known) out) r (sym h)

  back : drop (r + length text) o ≡ drop (0 + length (known ++ text)) out
  unfolding with_text
  back =
      let k : 0 + length known + length text ≡ 0 + length (known ++ text) = omega (arith, length-append known text) in
      sym (drop-drop (length text) r o)
      ∙ ap (drop (length text)) (ap (drop r) e ∙ drop_at known (drop (0 + length known) out) r (sym h))
      ∙ drop-drop (length text) (0 + length known) out
      ∙ ap (λ (i : ℕ). drop i out) k

  pub after : o' ≡ with_text out 0 (known ++ text)
  unfolding with_text
  after = g ∙ ap (λ (l : List ℕ). l ++ text ++ drop (r + length text) o) front ∙ ap (λ (l : List ℕ). known ++ text ++ l) back

-- and the length so far
pub longer : (known text : List ℕ) (r r' : ℕ) → r ≡ length known → r' ≡ r + length text → r' ≡ length (known ++ text)
longer known text r r' h g = omega (arith, length-append known text)

pub counts : (r : ℕ) (o : List ℕ) → r ≤ length o → IsPrefixLen r o
counts r o h = (h, sym (length-take-le r o h))
