-- What factorize and solve answer and leave, for every input. Definitions only.
use Rattle.std.specs.Prelude.{ℕ, ◌*◌, ◌<◌, ◌≤◌, ◌≡◌, Bool, cond, not, ◌&&◌, List, [], ◌∷◌, ltb, leb, eqb, length, get_or, Float, Result, Ok, Err, ⊤}
use Rattle.float.specs.Operators.{𝟎}
use Rattle.vector.specs.Lists.{every}
use Rattle.vector.specs.Parts.{puts}
use Rattle.stepping.specs.declared.Refusal.{Refusal}
use Rattle.stepping.specs.declared.Refusal.TheVariants.{Dimension, Singular, PivotRange}
use Rattle.stepping.specs.Refusals.{Test, ◌when◌, first_of, unless_refused, finite_test}
use Rattle.linear.specs.Elimination.{scale, threshold, unusable, eliminated, pivot_of, steps_done}
use Rattle.linear.specs.Substitution.{solution}

-- n is from 1 to 32, and the lengths are those of an n by n matrix and of its pivots
unfoldable pub square : ℕ → List Float → List ℕ → Bool
square n m p = ltb 0 n && (leb n 32 && (eqb (length m) (n * n) && eqb (length p) n))

-- ---- factorize
pub record Outcome : Type 0 where
  pub answer : Result ⊤ Refusal
  pub matrix : List Float
  pub pivots : List ℕ

abbrev pub outcome : Result ⊤ Refusal → List Float → List ℕ → Outcome
outcome r m p = record { answer = r; matrix = m; pivots = p }

-- what k steps leave of the matrix a and the pivots p: the pivots of later steps are as they were
abbrev pub after : ℕ → List Float → List ℕ → ℕ → Result ⊤ Refusal → Outcome
after n a p k r = outcome r (eliminated n a k) (puts p 0 (pivot_of n a) k)

-- the elimination with pivots above t: 6 where a step finds none
unfoldable pub elimination_of : ℕ → Float → List Float → List ℕ → Outcome
elimination_of n t a p = let k = steps_done n t a n in after n a p k (cond (eqb k n) (Ok tt) (Err Singular))

-- raw factorize: 6 before the first step where the scale is not finite or is 0
unfoldable pub raw_of : ℕ → List Float → List ℕ → Outcome
raw_of n a p = cond (unusable (scale a) 𝟎) (outcome (Err Singular) a p) (elimination_of n (threshold n (scale a)) a p)

abbrev pub factorize_tests : ℕ → List Float → List ℕ → List Test
factorize_tests n a p = (Dimension when not (square n a p)) ∷ finite_test a ∷ []

unfoldable pub factorize_of : ℕ → List Float → List ℕ → Outcome
factorize_of n a p = unless_refused (λ refusal. outcome (Err refusal) a p) (first_of (factorize_tests n a p)) (raw_of n a p)

-- ---- solve
-- the sizes fit, and each pivot is a row
pub record Solvable (n : ℕ) (f : List Float) (p : List ℕ) (b : List Float) : Type 0 where
  pub some : 0 < n
  pub small : n ≤ 32
  pub factors : length f ≡ n * n
  pub pivots : length p ≡ n
  pub rhs : length b ≡ n
  pub within : (k : ℕ) → k < n → get_or p k 0 < n

pub record Solved : Type 0 where
  pub answer : Result ⊤ Refusal
  pub rhs : List Float

abbrev pub solved : Result ⊤ Refusal → List Float → Solved
solved r x = record { answer = r; rhs = x }

abbrev pub solve_tests : ℕ → List Float → List ℕ → List Float → List Test
solve_tests n f p b =
    (Dimension when not (square n f p && eqb (length b) n)) ∷ (PivotRange when not (every n (λ k. ltb (get_or p k 0) n))) ∷ []

unfoldable pub solve_of : ℕ → List Float → List ℕ → List Float → Solved
solve_of n f p b = unless_refused (λ refusal. solved (Err refusal) b) (first_of (solve_tests n f p b)) (solved (Ok tt) (solution n f p b))
