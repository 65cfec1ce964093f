-- Lists that are given by their elements, tests of each element, and loops that make or test one more. Assumes nothing.
use Rattle.std.proofs.lemmas.Grind.{common_steps}
use Prim.Native.Nat.{ℕ, zero, suc, ◌+◌, ◌<◌, ◌≤◌}
use native.Mathlib.Numerals.{add-one}
use native.Mathlib.Omega.{arith}
use mathlib.Core.Path.{◌≡◌, refl, sym, ap, ◌∙◌}
use mathlib.Core.Bool.{Bool, true, false, ◌&&◌}
use mathlib.Core.List.{List, [], ◌∷◌, ◌++◌, append_assoc}
use lib.Dec.{eqb}
use lib.ListN.{length, get_or, set, take, drop, replicate, length-append, length-replicate, get_or-replicate, get_or-append}
use lib.Seq.{get_or_at, set_at, drop-cons, ext_get_or}
use lib.Ieee.{Float}
use lib.Ieee.Scale.{finite}
use borrow.Author.Tests.{eqb-true, eqb-false}
use Rattle.float.proofs.Cases.{by, and_no, and_no_right, and_left, and_right}
use Rattle.std.specs.List.{list_all}
use Rattle.std.proofs.lemmas.List.Folds.{list_all_more}
use Rattle.vector.specs.Lists.{el, table, every, all_finite}

-- ---- table
module _ {A : Type 0} where
  pub length-table : (f : ℕ → A) (n : ℕ) → length (table f n) ≡ n
  unfolding table
  length-table f zero = refl
  length-table f (suc n) = length-append (table f n) (f n ∷ []) ∙ (omega (arith, length-table f n))

  pub table_at : (d : A) (f : ℕ → A) (n j : ℕ) → j < n → get_or (table f n) j d ≡ f j
  unfolding table
  table_at d f zero j h = absurd (omega arith)
  table_at d f (suc n) j h =
      by (eqb j n)
      (λ t. let e : j ≡ n = eqb-true j n t in rw e (get_or_at (table f n) (f n) [] d n (length-table f n)))
      (λ t. let k : j < n = omega (arith, eqb-false j n t) in
      get_or-append (table f n) (f n ∷ []) d j (omega (arith, length-table f n)) ∙ table_at d f n j k)

  -- a list is that of its own elements
  pub table_own : (d : A) (x : List A) (n : ℕ) → length x ≡ n → table (λ j. get_or x j d) n ≡ x
  table_own d x n h =
      let f : ℕ → A = λ j. get_or x j d in
      ext_get_or d (table f n) x (length-table f n ∙ sym h) (λ i k. table_at d f n i (omega (arith, length-table f n)))

  -- elements that agree make one list
  pub table_same : (f g : ℕ → A) (n : ℕ) → ((j : ℕ) → j < n → f j ≡ g j) → table f n ≡ table g n
  unfolding table
  table_same f g zero h = refl
  table_same f g (suc n) h = rw (table_same f g n (λ j k. h j (omega arith)), h n (omega arith))

  pub table-replicate : (v : A) (n : ℕ) → table (λ j. v) n ≡ replicate n v
  table-replicate v n =
      ext_get_or v (table (λ j. v) n) (replicate n v) (length-table (λ j. v) n ∙ sym (length-replicate n v))
      (λ i k. let h : i < n = omega (arith, length-table (λ j. v) n) in table_at v (λ j. v) n i h ∙ sym (get_or-replicate n i v v h))

  pub one_made : (f : ℕ → A) (i : ℕ) (x made : List A) {v : A} → i < length x → made ≡ table f i ++ drop i x → v ≡ f i → set made i v ≡ table f (i + 1) ++ drop (i + 1) x
  unfolding table
  one_made f i x made {v} h e k =
      rw (e, add-one, drop-cons x i v)
      (set_at (table f i) (get_or x i v) (drop (suc i) x) v i (length-table f i) ∙ rw (k, append_assoc))

  -- what is not made yet is as it was
  pub not_made : (d : A) (f : ℕ → A) (i j : ℕ) (x made : List A) → i ≤ j → made ≡ table f i ++ drop i x → get_or made j d ≡ get_or x j d
  not_made d f i j x made h e = grind (arith, common_steps, length-table)

-- ---- every
pub every_none : (p : ℕ → Bool) → every 0 p ≡ true
unfolding every
every_none p = refl

-- one more test
pub every_next : (p : ℕ → Bool) (i : ℕ) → every (i + 1) p ≡ (every i p && p i)
unfolding every
every_next p i = rw add-one refl

-- one more turn of a loop that goes on while the tests hold
pub every_still : (p : ℕ → Bool) (i : ℕ) → every i p ≡ true → p i ≡ true → every (i + 1) p ≡ true
unfolding every
every_still p i e h = rw add-one (rw (e, h))

-- and that stops at one that does not
pub every_stop : (p : ℕ → Bool) (n i : ℕ) → i < n → p i ≡ false → every n p ≡ false
unfolding every
every_stop p zero i h e = absurd (omega arith)
every_stop p (suc n) i h e =
    by (eqb i n)
    (λ t. let q : i ≡ n = eqb-true i n t in and_no_right (every n p) (rw q at e))
    (λ t. and_no (p n) (every_stop p n i (omega (arith, eqb-false i n t)) e))

pub every_at : (p : ℕ → Bool) (n i : ℕ) → every n p ≡ true → i < n → p i ≡ true
unfolding every
every_at p zero i e h = absurd (omega arith)
every_at p (suc n) i e h =
    by (eqb i n)
    (λ t. let q : i ≡ n = eqb-true i n t in rw q (and_right (every n p) (p n) e))
    (λ t. every_at p n i (and_left (every n p) (p n) e) (omega (arith, eqb-false i n t)))

pub every_of : (p : ℕ → Bool) (n : ℕ) → ((i : ℕ) → i < n → p i ≡ true) → every n p ≡ true
unfolding every
every_of p zero h = refl
every_of p (suc n) h = rw (every_of p n (λ i l. h i (omega arith)), h n (omega arith))

pub every_same : (p q : ℕ → Bool) (n : ℕ) → ((i : ℕ) → i < n → p i ≡ q i) → every n p ≡ every n q
unfolding every
every_same p q zero h = refl
every_same p q (suc n) h = rw (every_same p q n (λ i l. h i (omega arith)), h n (omega arith))

-- std's word for the same test of a whole list
every_front : {A : Type 0} (p : A → Bool) (x : List A) (d : A) (i : ℕ) → i ≤ length x → every i (λ j. p (get_or x j d)) ≡ list_all p (take i x)
unfolding every
every_front p x d zero h = refl
every_front p x d (suc i) h =
    ap (λ (b : Bool). b && p (get_or x i d)) (every_front p x d i (omega arith)) ∙ sym (list_all_more p x i d (omega arith)) ∙ rw add-one refl

pub every_all : {A : Type 0} (p : A → Bool) (x : List A) (d : A) → every (length x) (λ j. p (get_or x j d)) ≡ list_all p x
every_all p x d = grind (arith, common_steps, every_front)

-- ---- each element is finite
pub finite_at : (x : List Float) (i : ℕ) → all_finite x ≡ true → i < length x → finite (el x i) ≡ true
unfolding all_finite
finite_at x i e h = every_at (λ j. finite (el x j)) (length x) i e h

-- ---- an element that is there, whatever stands for one that is not
pub get_d_default : {A : Type 0} (l : List A) (i : ℕ) (d e : A) → i < length l → get_or l i d ≡ get_or l i e
get_d_default [] i d e h = absurd (omega arith)
get_d_default (a ∷ l) zero d e h = refl
get_d_default (a ∷ l) (suc i) d e h = get_d_default l i d e (omega arith)
