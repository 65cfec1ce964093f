-- What the exported calls on matrices and vectors hand out: the refusal's number, 0 for none, beside the memory that they leave. Definitions only.
use Rattle.std.specs.Prelude.{ℕ, cond, List, Float, Err}
use Rattle.stepping.specs.declared.Refusal.TheVariants.{Dimension}
use Rattle.stepping.specs.Refusals.{number_of}
use Rattle.linear.specs.Calls.{Outcome, outcome, square, raw_of, Solved}
use Rattle.dense.specs.Interpolation as dense

pub record Handed : Type 0 where
  pub number : ℕ
  pub matrix : List Float
  pub pivots : List ℕ

abbrev pub handed : ℕ → List Float → List ℕ → Handed
handed k m p = record { number = k; matrix = m; pivots = p }

abbrev pub numbered : Outcome → Handed
numbered o = handed (number_of o.answer) o.matrix o.pivots

-- raw factorize, and 1 where the sizes do not fit
unfoldable pub raw_tested : ℕ → List Float → List ℕ → Outcome
raw_tested n m p = cond (square n m p) (raw_of n m p) (outcome (Err Dimension) m p)

-- the same for one vector
pub record HandedVector : Type 0 where
  pub number : ℕ
  pub vector : List Float

abbrev pub vector_handed : ℕ → List Float → HandedVector
vector_handed k x = record { number = k; vector = x }

abbrev pub numbered_solution : Solved → HandedVector
numbered_solution s = vector_handed (number_of s.answer) s.rhs

abbrev pub numbered_output : dense.Outcome → HandedVector
numbered_output o = vector_handed (number_of o.answer) o.output
