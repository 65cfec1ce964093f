-- A matrix that is given by its entries, two that agree at each entry, and a store at an entry. Assumes nothing.
use Prim.Native.Nat.{ℕ, zero, suc, ◌+◌, ◌*◌, ◌/◌, ◌%◌, ◌<◌, ◌≤◌}
use native.Mathlib.Numerals.{add-one}
use native.Mathlib.Nat.{suc-mul, zero-mul, mul-le-mul_right, div-add-mod', mod-lt, div-lt_iff_lt-mul}
use native.Mathlib.Omega.{arith}
use mathlib.Core.Path.{◌≡◌, sym, ap, ◌∙◌}
use mathlib.Core.Bool.{cond}
use mathlib.Core.List.{List, ◌++◌}
use lib.Dec.{eqb}
use lib.Arith.{digits_lt, digits_div, digits_mod}
use lib.ListN.{length, set, length-append, get_or-append}
use lib.Seq.{get_or-append-add, get_or-set_same, get_or-set_other, ext_get_or}
use lib.Ieee.{Float, nan}
use borrow.Author.Tests.{eqb-true, eqb-false}
use Rattle.float.proofs.Cases.{by}
use Rattle.vector.specs.Lists.{el, table}
use Rattle.vector.specs.Matrices.{entry, rows}
use Rattle.vector.proofs.Lists.{length-table, table_at}

-- where row i of r rows of n entries ends, and the next row starts
pub row_inside : (n r i : ℕ) → i < r → i * n + n ≤ r * n
row_inside n r i h = rw (← suc-mul) (mul-le-mul_right n h)

pub row_next : (n i : ℕ) → (i + 1) * n ≡ i * n + n
row_next n i = rw add-one (suc-mul i n)

pub length-rows : (f : ℕ → ℕ → Float) (n r : ℕ) → length (rows f n r) ≡ r * n
unfolding rows
length-rows f n zero = sym (zero-mul n)
length-rows f n (suc r) = length-append (rows f n r) (table (f r) n) ∙ (omega (arith, length-rows f n r, length-table (f r) n, suc-mul r n))

pub rows_at : (f : ℕ → ℕ → Float) (n r i j : ℕ) → i < r → j < n → entry n (rows f n r) i j ≡ f i j
unfolding rows
rows_at f n zero i j h k = absurd (omega arith)
rows_at f n (suc r) i j h k =
    by (eqb i r)
    (λ t. let e : i ≡ r = eqb-true i r t in
    let at : i * n + j ≡ length (rows f n r) + j = rw e (omega (arith, length-rows f n r)) in
    ap (el (rows f n r ++ table (f r) n)) at ∙ get_or-append-add (rows f n r) (table (f r) n) j nan ∙ table_at nan (f r) n j k ∙ ap (λ (z : ℕ). f z j) (sym e))
    (λ t. let l : i < r = omega (arith, eqb-false i r t) in
    get_or-append (rows f n r) (table (f r) n) nan (i * n + j) (omega (arith, length-rows f n r, digits_lt l k)) ∙ rows_at f n r i j l k)

-- two square matrices with the same entries
pub same_entries : (n : ℕ) (a b : List Float) → length a ≡ n * n → length b ≡ n * n → ((i j : ℕ) → i < n → j < n → entry n a i j ≡ entry n b i j) → a ≡ b
same_entries zero a b la lb e = ext_get_or nan a b (omega arith) (λ q h. absurd (omega (arith, zero-mul 0)))
same_entries (suc n) a b la lb e =
    ext_get_or nan a b (omega arith)
    (λ q h.
    let m = suc n in
    let l : q < m * m = omega arith in
    let s : q / m * m + q % m ≡ q = div-add-mod' q m in
    let r : entry m a (q / m) (q % m) ≡ entry m b (q / m) (q % m) = e (q / m) (q % m) ((div-lt_iff_lt-mul {k = m} (omega arith)).1 l) (mod-lt q {m = m} (omega arith)) in
    ap (el a) (sym s) ∙ r ∙ ap (el b) s)

-- distinct entries lie apart
pub same_row : (n r c i j : ℕ) → c < n → j < n → r * n + c ≡ i * n + j → r ≡ i
same_row n r c i j h k e = sym (digits_div r h) ∙ ap (λ (z : ℕ). z / n) e ∙ digits_div i k

pub same_column : (n r c i j : ℕ) → c < n → j < n → r * n + c ≡ i * n + j → c ≡ j
same_column n r c i j h k e = sym (digits_mod r h) ∙ ap (λ (z : ℕ). z % n) e ∙ digits_mod i k

-- a store at entry (i, j)
pub set-entry : (n : ℕ) (m : List Float) (i j r c : ℕ) (v : Float) → length m ≡ n * n → i < n → j < n → c < n
    → entry n (set m (i * n + j) v) r c ≡ cond (eqb r i) (cond (eqb c j) v (entry n m r c)) (entry n m r c)
set-entry n m i j r c v lm hi hj hc =
    by (eqb r i)
    (λ t. rw t
    (by (eqb c j)
    (λ u. rw u (rw (eqb-true r i t, eqb-true c j u) (get_or-set_same m (i * n + j) v nan (omega (arith, digits_lt hi hj)))))
    (λ u. rw u (get_or-set_other m (i * n + j) (r * n + c) v nan (λ q. eqb-false c j u (same_column n r c i j hc hj q))))))
    (λ t. rw t (get_or-set_other m (i * n + j) (r * n + c) v nan (λ q. eqb-false r i t (same_row n r c i j hc hj q))))
