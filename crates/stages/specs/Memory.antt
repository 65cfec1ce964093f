-- The stages on the lent work: each function takes the work and gives it with one part written. What is written is Method's. Definitions only.
use Rattle.std.specs.Prelude.{ℕ, ◌+◌, ◌*◌, List, Float}
use Rattle.float.specs.Operators.{◌⊕◌, ◌⊗◌}
use Rattle.vector.specs.Lists.{el}
use Rattle.vector.specs.Parts.{part, puts}
use Rattle.linear.specs.Substitution.{solution}
use Rattle.linear.specs.Calls.{Outcome, raw_of}
use Rattle.tableau.specs.Tableau.{Tableau, b_of}
use Rattle.stages.specs.Layout.{candidate_at, error_at, stage_state_at, time_partial_at, linear_rhs_at, jacobian_at, factors_at, stage_at, rhs_stage_at}
use Rattle.stages.specs.Method.{stage_state, right_hand_side, stage_matrix, stage_value, error_weight}

-- component k of the vector that starts at `at`
abbrev pub component : List Float → ℕ → ℕ → Float
component w at k = el w (at + k)

-- component k of stage j
abbrev pub stage_in : ℕ → List Float → ℕ → ℕ → Float
stage_in n w j k = el w (stage_at n j + k)

-- the state of stage i, for the accepted state
unfoldable pub with_stage_state : ℕ → Tableau → List Float → ℕ → List Float → List Float
with_stage_state n t state i w = puts w (stage_state_at n) (stage_state t i (stage_in n w) (el state)) n

-- the right-hand side of stage i for the step h
unfoldable pub with_right_hand_side : ℕ → ℕ → Tableau → ℕ → Float → List Float → List Float
with_right_hand_side n s t i h w =
    puts w (linear_rhs_at n) (right_hand_side t h i (stage_in n w) (component w (rhs_stage_at n s i)) (component w (time_partial_at n))) n

-- the solution in place of the right-hand side
unfoldable pub with_solution : ℕ → List ℕ → List Float → List Float
with_solution n pivots w = puts w (linear_rhs_at n) (el (solution n (part (factors_at n) (n * n) w) pivots (part (linear_rhs_at n) n w))) n

-- stage i from the solution
unfoldable pub with_stage : ℕ → Tableau → ℕ → Float → List Float → List Float
with_stage n t i h w = puts w (stage_at n i) (stage_value t h (component w (linear_rhs_at n))) n

-- stage i from its derivative: right-hand side, solution, stage
unfoldable pub with_stage_solved : ℕ → ℕ → Tableau → List ℕ → ℕ → Float → List Float → List Float
with_stage_solved n s t pivots i h w = with_stage n t i h (with_solution n pivots (with_right_hand_side n s t i h w))

-- c times stage i added to the vector at `at`
unfoldable pub with_added : ℕ → ℕ → Float → ℕ → List Float → List Float
with_added n at c i w = puts w at (λ k. component w at k ⊕ c ⊗ stage_in n w i k) n

-- stage i added to the candidate, then to the error
unfoldable pub with_stage_added : ℕ → Tableau → ℕ → List Float → List Float
with_stage_added n t i w = with_added n (error_at n) (error_weight t i) i (with_added n (candidate_at n) (b_of t i) i w)

-- the matrix of the stages, where its factors will be
unfoldable pub with_matrix : ℕ → Tableau → Float → List Float → List Float
with_matrix n t h w = puts w (factors_at n) (el (stage_matrix t h n (part (jacobian_at n) (n * n) w))) (n * n)

-- the elimination of the matrix, as far as it came, with the pivots
abbrev pub elimination_in : ℕ → List ℕ → List Float → Outcome
elimination_in n pivots w = raw_of n (part (factors_at n) (n * n) w) pivots

unfoldable pub with_factors : ℕ → List ℕ → List Float → List Float
with_factors n pivots w = puts w (factors_at n) (el (elimination_in n pivots w).matrix) (n * n)
