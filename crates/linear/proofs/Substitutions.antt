-- The substitutions row by row: what one more row adds. Assumes nothing.
use Prim.Native.Nat.{ℕ, zero, suc, ◌+◌, ◌-◌, ◌*◌, ◌<◌, ◌≤◌}
use native.Mathlib.Numerals.{add-one}
use native.Mathlib.Omega.{arith}
use mathlib.Core.Path.{◌≡◌, refl, sym, ap, ◌∙◌}
use mathlib.Core.List.{List, [], ◌∷◌}
use lib.ListN.{length, take, drop, set, length-set, drop_of_length-le}
use lib.Seq.{get_or-take, get_or-drop, take-suc-set, drop-cons, drop-set-lt, get_or-set_same}
use lib.Ieee.{Float, nan}
use borrow.Author.Tests.{lt-ltb, le-ltb}
use Rattle.float.specs.Operators.{◌⊖◌, ◌⊗◌, ◌⊘◌}
use Rattle.vector.specs.Lists.{el}
use Rattle.linear.specs.Substitution.{lower, upper, less_products, forward_substitution, back_substitution}

-- ---- products
-- only the first k factors are read
pub products_same : (l l' y y' : ℕ → Float) (b : Float) (k : ℕ) → ((j : ℕ) → j < k → l j ≡ l' j) → ((j : ℕ) → j < k → y j ≡ y' j) → less_products l y b k ≡ less_products l' y' b k
unfolding less_products
products_same l l' y y' b zero p q = refl
products_same l l' y y' b (suc k) p q =
    let r : less_products l y b k ≡ less_products l' y' b k = products_same l l' y y' b k (λ j h. p j (omega arith)) (λ j h. q j (omega arith)) in
    let s : l k ≡ l' k = p k (omega arith) in
    let t : y k ≡ y' k = q k (omega arith) in
    cc

module _ (f x : List Float) (at first : ℕ) (b : Float) where
  -- b less the products from `first` on and before `column`
  abbrev pub Less : ℕ → Float
  Less column = less_products (λ j. el f (at + (first + j))) (λ j. el x (first + j)) b (column - first)

  pub less_none : b ≡ Less first
  unfolding less_products
  less_none = let z : first - first ≡ 0 = omega arith in rw z

  pub less_more : (column : ℕ) {v : Float} → first ≤ column → v ≡ Less column → v ⊖ el f (at + column) ⊗ el x column ≡ Less (column + 1)
  unfolding less_products
  less_more column {v} h e =
      let z : column + 1 - first ≡ suc (column - first) = omega arith in
      let w : first + (column - first) ≡ column = omega arith in
      rw (z, w, e)

-- ---- forward
pub forward_none : (l : ℕ → ℕ → Float) (x : List Float) → 0 < length x → take 1 x ≡ forward_substitution l (el x) 1
unfolding forward_substitution less_products
forward_none l [] h = absurd (omega arith)
forward_none l (a ∷ x) h = refl

-- v has the products of row i
pub forward_more : (m x x₀ : List Float) (n i : ℕ) {v : Float} → i < n → length x ≡ n
    → take i x ≡ forward_substitution (lower n m) (el x₀) i → el x i ≡ el x₀ i → v ≡ Less m x (i * n) 0 (el x i) i
    → take (i + 1) (set x i v) ≡ forward_substitution (lower n m) (el x₀) (i + 1)
unfolding forward_substitution
forward_more m x x₀ n i {v} h lx done here e =
    let y = forward_substitution (lower n m) (el x₀) i in
    let z : i - 0 ≡ i = omega arith in
    let ev : v ≡ less_products (lower n m i) (el y) (el x₀ i) i =
    e
    ∙ ap (less_products (λ j. el m (i * n + (0 + j))) (λ j. el x (0 + j)) (el x i)) z
    ∙ products_same (λ j. el m (i * n + (0 + j))) (lower n m i) (λ j. el x (0 + j)) (el y) (el x i) i
    (λ j q. let o : 0 + j ≡ j = omega arith in rw (o, lt-ltb j i q))
    (λ j q. let o : 0 + j ≡ j = omega arith in rw o (sym (get_or-take i x j nan q) ∙ ap (λ (l : List Float). el l j) done))
    ∙ ap (λ (b : Float). less_products (lower n m i) (el y) b i) here in
    rw add-one (take-suc-set x i v (omega arith) ∙ (cc))

-- ---- back
back_suc : (n : ℕ) (u : ℕ → ℕ → Float) (y : ℕ → Float) (k r : ℕ) → n - suc k ≡ r
    → back_substitution n u y (suc k) ≡ (less_products (λ j. u r (r + 1 + j)) (el (back_substitution n u y k)) (y r) k ⊘ u r r) ∷ back_substitution n u y k
unfolding back_substitution
back_suc n u y k r e = rw e

-- no row yet
pub back_none : (n : ℕ) (u : ℕ → ℕ → Float) (x : List Float) (y : ℕ → Float) → length x ≡ n → drop n x ≡ back_substitution n u y (n - n)
unfolding back_substitution
back_none n u x y h = let z : n - n ≡ 0 = omega arith in rw z (drop_of_length-le x {i = n} (omega arith))

-- one more row: v has the products of row r with the unknowns from row i on
pub back_more : (m x : List Float) (y : ℕ → Float) (n r i : ℕ) {v : Float} → i ≡ r + 1 → i ≤ n → length x ≡ n
    → drop i x ≡ back_substitution n (upper n m) y (n - i) → el x r ≡ y r → v ≡ Less m x (r * n) (r + 1) (el x r) n
    → drop r (set x r (v ⊘ el m (r * n + r))) ≡ back_substitution n (upper n m) y (n - r)
back_more m x y n r i {v} e h lx done here ev =
    let q = n - i in
    let old = back_substitution n (upper n m) y q in
    let d = el m (r * n + r) in
    let w = v ⊘ d in
    let vs : v ≡ less_products (λ j. upper n m r (r + 1 + j)) (el old) (y r) q =
    ev
    ∙ ap (λ (z : ℕ). Less m x (r * n) z (el x r) n) (sym e)
    ∙ products_same (λ j. el m (r * n + (i + j))) (λ j. upper n m r (r + 1 + j)) (λ j. el x (i + j)) (el old) (el x r) q
    (λ j z. rw (e, le-ltb (r + 1 + j) r (omega arith)))
    (λ j z. sym (get_or-drop i x j nan) ∙ ap (λ (l : List Float). el l j) done)
    ∙ ap (λ (b : Float). less_products (λ j. upper n m r (r + 1 + j)) (el old) b q) here in
    let diagonal : d ≡ upper n m r r = rw (le-ltb r r (omega arith)) in
    let up : suc r ≡ i = omega arith in
    let tail : drop (suc r) (set x r w) ≡ old = drop-set-lt (suc r) x r w (omega arith) ∙ ap (λ (z : ℕ). drop z x) up ∙ done in
    let head : el (set x r w) r ≡ w = get_or-set_same x r w nan (omega arith) in
    let count : suc q ≡ n - r = omega arith in
    drop-cons (set x r w) r nan (simp length-set (omega arith))
    ∙ ap (λ (z : Float). z ∷ drop (suc r) (set x r w)) head
    ∙ ap (λ (l : List Float). w ∷ l) tail
    ∙ ap (λ (z : Float). (z ⊘ d) ∷ old) vs
    ∙ ap (λ (z : Float). (less_products (λ j. upper n m r (r + 1 + j)) (el old) (y r) q ⊘ z) ∷ old) diagonal
    ∙ sym (back_suc n (upper n m) y q r (omega arith))
    ∙ ap (back_substitution n (upper n m) y) count
