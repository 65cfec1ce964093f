-- What the stages write keeps the length of the work, and an elimination that of the pivots, whatever the values are. Assumes nothing.
use Prim.Native.Nat.{ℕ}
use mathlib.Core.Path.{◌≡◌, ◌∙◌}
use mathlib.Core.List.{List}
use lib.ListN.{length}
use lib.Ieee.{Float}
use Rattle.vector.proofs.Stores.{length-puts}
use Rattle.linear.proofs.Lengths.{raw_pivots}
use Rattle.tableau.specs.Tableau.{Tableau}
use Rattle.stages.specs.Memory.{with_stage_state, with_right_hand_side, with_solution, with_stage, with_stage_solved, with_added, with_stage_added, with_matrix, elimination_in, with_factors}

pub length_stage_state : (n : ℕ) (t : Tableau) (state : List Float) (i : ℕ) (w : List Float) → length (with_stage_state n t state i w) ≡ length w
unfolding with_stage_state
length_stage_state n t state i w = length-puts w _ _ n

length_right_hand_side : (n s : ℕ) (t : Tableau) (i : ℕ) (h : Float) (w : List Float) → length (with_right_hand_side n s t i h w) ≡ length w
unfolding with_right_hand_side
length_right_hand_side n s t i h w = length-puts w _ _ n

length_solution : (n : ℕ) (pivots : List ℕ) (w : List Float) → length (with_solution n pivots w) ≡ length w
unfolding with_solution
length_solution n pivots w = length-puts w _ _ n

length_stage : (n : ℕ) (t : Tableau) (i : ℕ) (h : Float) (w : List Float) → length (with_stage n t i h w) ≡ length w
unfolding with_stage
length_stage n t i h w = length-puts w _ _ n

pub length_stage_solved : (n s : ℕ) (t : Tableau) (pivots : List ℕ) (i : ℕ) (h : Float) (w : List Float) → length (with_stage_solved n s t pivots i h w) ≡ length w
unfolding with_stage_solved
length_stage_solved n s t pivots i h w = length_stage n t i h _ ∙ length_solution n pivots _ ∙ length_right_hand_side n s t i h w

length_added : (n at : ℕ) (c : Float) (i : ℕ) (w : List Float) → length (with_added n at c i w) ≡ length w
unfolding with_added
length_added n at c i w = length-puts w _ _ n

pub length_stage_added : (n : ℕ) (t : Tableau) (i : ℕ) (w : List Float) → length (with_stage_added n t i w) ≡ length w
unfolding with_stage_added
length_stage_added n t i w = length_added n _ _ i _ ∙ length_added n _ _ i w

pub length_matrix : (n : ℕ) (t : Tableau) (h : Float) (w : List Float) → length (with_matrix n t h w) ≡ length w
unfolding with_matrix
length_matrix n t h w = length-puts w _ _ _

pub length_factors : (n : ℕ) (pivots : List ℕ) (w : List Float) → length (with_factors n pivots w) ≡ length w
unfolding with_factors
length_factors n pivots w = length-puts w _ _ _

pub length_pivots : (n : ℕ) (pivots : List ℕ) (w : List Float) → length (elimination_in n pivots w).pivots ≡ length pivots
length_pivots n pivots w = raw_pivots n _ pivots
