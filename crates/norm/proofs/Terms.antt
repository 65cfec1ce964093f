-- Sums that are finite have finite terms only; and a number of components is a double. Assumes nothing.
use mathlib.Core.Path.{◌≡◌, refl, sym, ap, ◌∙◌}
use Prim.Native.Nat.{ℕ, ◌+◌, ◌^◌, ◌≤◌}
use native.Mathlib.Numerals.{add-one}
use native.Mathlib.Omega.{arith}
use mathlib.Core.Bool.{Bool, true, ◌&&◌}
use mathlib.Core.List.{List}
use lib.Dec.{T, le→leb}
use lib.IntN.{pos}
use lib.ListN.{length}
use lib.Ieee.{Float, binary64, in_float}
use lib.Ieee.Scale.{finite}
use Rattle.float.specs.Operators.{◌⊕◌, ◌⊗◌, ◌⊘◌}
use Rattle.float.proofs.Cases.{and_left, and_right}
use Rattle.float.proofs.Finite.{finite_sum, finite_product, finite_quotient}
use Rattle.vector.specs.Lists.{el, every, all_finite}
use Rattle.vector.proofs.Lists.{every_none, every_next, every_still}
use Rattle.norm.specs.ErrorNorm.{scale, ratio, sum_of_squares}

-- the number of components is a double
pub small_exact : (n : ℕ) → n ≤ 32 → T (in_float binary64 (pos n))
unfolding in_float
small_exact n h = le→leb n (2 ^ 53) (omega (arith, h))

-- the first k components are finite
abbrev pub first_finite : List Float → ℕ → Bool
first_finite x k = every k (λ j. finite (el x j))

pub all_of_them : (x : List Float) (n : ℕ) → n ≡ length x → first_finite x n ≡ all_finite x
unfolding all_finite
all_of_them x n e = rw e refl

pub none_finite : (x : List Float) → first_finite x 0 ≡ true
none_finite x = every_none (λ j. finite (el x j))

-- one more term of each sum
pub squares_more : (e : List Float) (i : ℕ) (s c : Float) → (finite s ≡ true → first_finite e i ≡ true) → finite (s ⊕ (el e i ⊘ c) ⊗ (el e i ⊘ c)) ≡ true → first_finite e (i + 1) ≡ true
squares_more e i s c before h =
    let q = el e i ⊘ c in
    let p = finite_sum s (q ⊗ q) h in
    every_still (λ j. finite (el e j)) i (before p.0) (finite_quotient (el e i) c (finite_product q q p.1).0)

pub values_more : (y z : List Float) (i : ℕ) (v : Float) → (finite v ≡ true → (first_finite y i ≡ true) × (first_finite z i ≡ true)) → finite (v ⊕ (el y i ⊕ el z i)) ≡ true
    → (first_finite y (i + 1) ≡ true) × (first_finite z (i + 1) ≡ true)
values_more y z i v before h =
    let p = finite_sum v (el y i ⊕ el z i) h in
    let q = finite_sum (el y i) (el z i) p.1 in
    let b = before p.0 in
    (every_still (λ j. finite (el y j)) i b.0 q.0, every_still (λ j. finite (el z j)) i b.1 q.1)

pub norm_more : (a r : Float) (y z e : List Float) (i : ℕ) (s c : Float) → (first_finite y i ≡ true → first_finite z i ≡ true → s ≡ sum_of_squares (ratio a r y z e) i)
    → (finite (el y i) ≡ true → finite (el z i) ≡ true → c ≡ scale a r (el y i) (el z i))
    → first_finite y (i + 1) ≡ true → first_finite z (i + 1) ≡ true → s ⊕ (el e i ⊘ c) ⊗ (el e i ⊘ c) ≡ sum_of_squares (ratio a r y z e) (i + 1)
unfolding sum_of_squares ratio
norm_more a r y z e i s c before now h l =
    let k : (first_finite y i && finite (el y i)) ≡ true = sym (every_next (λ j. finite (el y j)) i) ∙ h in
    let m : (first_finite z i && finite (el z i)) ≡ true = sym (every_next (λ j. finite (el z j)) i) ∙ l in
    let p = before (and_left (first_finite y i) _ k) (and_left (first_finite z i) _ m) in
    let q = now (and_right (first_finite y i) _ k) (and_right (first_finite z i) _ m) in
    rw add-one (rw (p, q) refl)

-- both sums, when every component has entered
pub all_tested : (y z e : List Float) (s v : Float) {n : ℕ} → n ≡ length y → length z ≡ length y → length e ≡ length y
    → (finite s ≡ true → first_finite e n ≡ true) → (finite v ≡ true → (first_finite y n ≡ true) × (first_finite z n ≡ true)) → finite (s ⊕ v) ≡ true
    → (all_finite y ≡ true) × (all_finite z ≡ true) × (all_finite e ≡ true)
all_tested y z e s v k l m f g h =
    let p = finite_sum s v h in
    let q = g p.1 in
    (sym (all_of_them y _ k) ∙ q.0, sym (all_of_them z _ (k ∙ sym l)) ∙ q.1, sym (all_of_them e _ (k ∙ sym m)) ∙ f p.0)

pub all_squared : (y z : List Float) (x : ℕ → Float) (s : Float) {n : ℕ} → n ≡ length y → length z ≡ length y → (first_finite y n ≡ true → first_finite z n ≡ true → s ≡ sum_of_squares x n)
    → all_finite y ≡ true → all_finite z ≡ true → s ≡ sum_of_squares x (length y)
all_squared y z x s k l f h g = f (all_of_them y _ k ∙ h) (all_of_them z _ (k ∙ sym l) ∙ g) ∙ ap (sum_of_squares x) k
