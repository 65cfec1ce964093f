-- Where factorize succeeds no pivot is 0: the threshold is a number and not below 0. So every entry of L is at most 1 in magnitude where the columns stay
-- finite. Assumes nothing.
use Prim.Native.Nat.{ℕ, zero, suc, ◌<◌, ◌≤◌}
use native.Mathlib.Omega.{arith}
use mathlib.Core.Path.{◌≡◌, refl, ap, ◌∙◌}
use mathlib.Core.Bool.{Bool, true, false, cond, not, ◌&&◌}
use mathlib.Core.List.{List}
use lib.IntN.{pos}
use lib.Dec.{eqb}
use lib.ListN.{length}
use lib.Ieee.{Float, binary64, is_nan, le, eq, round, of_int, of_bits}
use lib.Ieee.Scale.{finite}
use borrow.Author.Tests.{eqb-true, eqb-false}
use Rattle.float.specs.Operators.{◌⊗◌, 𝟎, 𝟏}
use Rattle.float.specs.Constants.{epsilon}
use Rattle.float.specs.Methods.{abs}
use Rattle.float.proofs.Cases.{by, never, told_no, told_yes, and_left, and_right, or_left, or_right}
use Rattle.float.proofs.Zeros.{negative, abs_plain, max_plain, round_sign, mul_plain}
use Rattle.float.proofs.Numbers.{finite_product, product_number, zero_le}
use Rattle.vector.specs.Lists.{el, every}
use Rattle.vector.specs.Matrices.{entry}
use Rattle.vector.proofs.Lists.{every_stop}
use Rattle.std.specs.Prelude.{Result, Ok, Err, ⊤}
use Rattle.stepping.specs.declared.Refusal.{Refusal}
use Rattle.stepping.specs.declared.Refusal.TheVariants.{Singular}
use Rattle.stepping.specs.Refusals.{first_of, unless_refused}
use Rattle.linear.specs.Elimination.{largest, scale, threshold, unusable, eliminated, pivot_of, pivot_magnitude, steps_done}
use Rattle.linear.specs.Substitution.{lower}
use Rattle.linear.specs.Calls.{outcome, raw_of, elimination_of, factorize_tests, factorize_of}
use Rattle.linear.proofs.Triangular.{lower_small}

-- ---- the threshold
-- a dimension is a double above 0
abbrev Counts : ℕ → Bool
Counts n = finite (of_int binary64 (pos (suc n))) && not (eq (of_int binary64 (pos (suc n))) 𝟎)

all_count : every 32 Counts ≡ true
unfolding every of_int round eq of_bits
all_count = refl

counts : (n : ℕ) → n < 32 → Counts n ≡ true
counts n h = by (Counts n) (λ t. t) (λ t. never all_count (every_stop Counts 32 n h t))

epsilon-finite : finite epsilon ≡ true
unfolding of_bits
epsilon-finite = refl

threshold_number : (n : ℕ) (x : Float) → n < 32 → finite x ≡ true → is_nan (threshold (suc n) x) ≡ false
unfolding threshold
threshold_number n x h f =
    let c = counts n h in
    let y = of_int binary64 (pos (suc n)) in
    product_number (epsilon ⊗ x) y (finite_product epsilon x epsilon-finite f) (and_left (finite y) (not (eq y 𝟎)) c) (told_no refl (and_right (finite y) (not (eq y 𝟎)) c))

epsilon_plain : negative epsilon ≡ false
unfolding of_bits
epsilon_plain = refl

count_plain : (n : ℕ) → negative (of_int binary64 (pos n)) ≡ false
unfolding of_int
count_plain n = round_sign binary64 false n 1

threshold_plain : (n : ℕ) (x : Float) → negative x ≡ false → negative (threshold n x) ≡ false
unfolding threshold
threshold_plain n x h = mul_plain (epsilon ⊗ x) (of_int binary64 (pos n)) (mul_plain epsilon x epsilon_plain h) (count_plain n)

largest_plain : (a : List Float) (k : ℕ) → negative (largest a k) ≡ false
unfolding largest
largest_plain a zero = unfold of_bits in refl
largest_plain a (suc k) = max_plain (largest a k) (abs (el a k)) (largest_plain a k) (abs_plain (el a k))

-- ---- the pivots of the steps that are done
module _ (n : ℕ) (t : Float) (a : List Float) where
  abbrev Goes : ℕ → Bool
  Goes k = not (unusable (pivot_magnitude n a k) t)

  done_most : (k : ℕ) → steps_done n t a k ≤ k
  unfolding steps_done
  done_most zero = omega arith
  done_most (suc k) = by (eqb (steps_done n t a k) k && Goes k) (λ h. rw h (omega arith)) (λ h. rw h (omega (arith, done_most k)))

  done_goes : (g : ℕ) → steps_done n t a g ≡ g → (k : ℕ) → k < g → Goes k ≡ true
  unfolding steps_done
  done_goes zero e k h = absurd (omega arith)
  done_goes (suc g) e k h =
      let r = steps_done n t a g in
      by (eqb r g && Goes g)
      (λ q. by (eqb k g)
      (λ u. ap Goes (eqb-true k g u) ∙ and_right (eqb r g) (Goes g) q)
      (λ u. done_goes g (eqb-true r g (and_left (eqb r g) (Goes g) q)) k (omega (arith, eqb-false k g u))))
      (λ q. let w : r ≡ suc g = (rw q at e) in absurd (omega (arith, done_most g)))

-- ---- what the answer tells
answered : (b : Bool) → ◌≡◌ {A = Result ⊤ Refusal} (cond b (Ok tt) (Err Singular)) (Ok tt) → b ≡ true
answered true h = refl
answered false h = cc

module _ (n : ℕ) (a : List Float) (p : List ℕ) (e : (raw_of n a p).answer ≡ Ok tt) where
  usable : unusable (scale a) 𝟎 ≡ false
  unfolding raw_of
  usable = by (unusable (scale a) 𝟎) (λ u. let z = (rw u at e) in absurd (cc)) (λ u. u)

  scale-finite : finite (scale a) ≡ true
  unfolding unusable
  scale-finite = told_yes refl (or_left (not (finite (scale a))) (le (scale a) 𝟎) usable)

  all_done : steps_done n (threshold n (scale a)) a n ≡ n
  unfolding raw_of elimination_of
  all_done = let k = steps_done n (threshold n (scale a)) a n in eqb-true k n (answered (eqb k n) (rw usable at e))

raw_answered : (n : ℕ) (a : List Float) (p : List ℕ) → (factorize_of n a p).answer ≡ Ok tt → (raw_of n a p).answer ≡ Ok tt
unfolding factorize_of unless_refused
raw_answered n a p e = passed (first_of (factorize_tests n a p)) e
  where
    passed : (k : Result ⊤ Refusal) → (unless_refused (λ refusal. outcome (Err refusal) a p) k (raw_of n a p)).answer ≡ Ok tt → (raw_of n a p).answer ≡ Ok tt
    passed (Ok x) h = h
    passed (Err refusal) h = cc

module _ (n : ℕ) (a : List Float) (p : List ℕ) (l : n < 32) (e : (factorize_of (suc n) a p).answer ≡ Ok tt) where
  abbrev N : ℕ
  N = suc n

  abbrev t : Float
  t = threshold N (scale a)

  pub pivot_some : (k : ℕ) → k < N → eq (entry N (eliminated N a k) (pivot_of N a k) k) 𝟎 ≡ false
  pivot_some k h =
      let r = raw_answered N a p e in
      let x = entry N (eliminated N a k) (pivot_of N a k) k in
      let g : le (abs x) t ≡ false = unfold unusable in or_right (not (finite (abs x))) (le (abs x) t) (told_no refl (done_goes N t a N (all_done N a p r) k h)) in
      by (eq x 𝟎)
      (λ q. never (zero_le x t q (threshold_plain N (scale a) (unfold scale in largest_plain a (length a))) (threshold_number n (scale a) l (scale-finite N a p r))) g)
      (λ q. q)

  -- Where the columns stay finite from the diagonal down, no entry of L exceeds 1 in magnitude.
  pub factored_small : ((k : ℕ) → k < N → (r : ℕ) → k ≤ r → r < N → finite (entry N (eliminated N a k) r k) ≡ true)
      → (i j : ℕ) → i < N → j < N → le (abs (lower N (eliminated N a N) i j)) 𝟏 ≡ true
  factored_small c = lower_small N a (λ k h. record { column = c k h; pivot = pivot_some k h })
