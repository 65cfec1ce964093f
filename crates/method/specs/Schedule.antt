-- Which evaluations a step asks for, in which order, and what is tested between them. The first test that holds ends the step with its refusal.
-- Definitions only.
use Rattle.std.specs.Prelude.{ℕ, zero, suc, true, false, not, cond, List, [], ◌∷◌, ◌++◌, Float, Option, Some, None, Result, Ok, Err, is_ok}
use Rattle.std.specs.Float.Ieee.{eq}
use Rattle.std.specs.Float.Ieee.Scale.{finite}
use Rattle.float.specs.Operators.{𝟎}
use Rattle.vector.specs.Lists.{el}
use Rattle.linear.specs.Calls.{raw_of}
use Rattle.time_difference.specs.Policy.{probes}
use Rattle.tableau.specs.Tableau.{stages_of}
use Rattle.stepping.specs.declared.Refusal.{Refusal}
use Rattle.stepping.specs.declared.Refusal.TheVariants.{NonFinite, TimeResolution, Singular}
use Rattle.stepping.specs.Refusals.{Test, ◌when◌}
use Rattle.stepping.specs.Refusals as refusals
use Rattle.stages.specs.Method.{stage_time}
use Rattle.attempts.specs.declared.Ask.{Ask}
use Rattle.attempts.specs.declared.Ask.TheVariants.{Derivative, Jacobian, TimePartial, FirstProbe, SecondProbe, Column, Stage}
use Rattle.differentiation.specs.Differences.{rise}
use Rattle.refusals.specs.Answers.{Request, kind_of}
use Rattle.method.specs.Step.{Attempted, Evaluated, matrix, state_of, reused, derivative_of, stage_of, stages, candidate, error, probed_state, Caches, evaluated}

-- an evaluation that is asked for, at a time and a state, or a test
pub data Item : Type 0 where
  evaluate : Ask → Float → List Float → Item
  test : Test → Item

-- 2 where a component is not finite
abbrev pub finite_test : List Float → Item
finite_test x = test (refusals.finite_test x)

-- what is asked for where it is not cached
unfoldable pub unless_cached : {A : Type 0} → Option A → List Item → List Item
unless_cached (Some x) items = []
unless_cached None items = items

module _ (p : Attempted) (e : Evaluated) where
  unfoldable pub derivative_items : List Item
  derivative_items = evaluate Derivative p.t p.y ∷ finite_test e.f₀ ∷ []

  -- ---- the Jacobian

  -- column k, where it is probed: 5 where rounding left no rise
  unfoldable pub column_items : ℕ → List Item
  column_items k =
      let z = probed_state p e.f₀ k in
      finite_test z
      ∷ test (TimeResolution when eq (rise (el p.y k)) 𝟎)
      ∷ evaluate (Column k) p.t z
      ∷ finite_test (p.answer (Column k) p.t z)
      ∷ []

  -- columns k, .., k + r - 1
  unfoldable pub columns_items : ℕ → ℕ → List Item
  columns_items k zero = []
  columns_items k (suc r) = column_items k ++ columns_items (suc k) r

  unfoldable pub jacobian_items : List Item
  jacobian_items = cond p.host_jacobian (evaluate Jacobian p.t p.y ∷ []) (columns_items 0 p.n) ++ (finite_test e.J ∷ [])

  -- ---- the time partial

  unfoldable pub probe_items : Result (Float × Option Float) Refusal → List Item
  probe_items (Err refusal) = test (refusal when true) ∷ []
  probe_items (Ok (a, None)) = evaluate FirstProbe a p.y ∷ finite_test (p.answer FirstProbe a p.y) ∷ []
  probe_items (Ok (a, Some b)) =
      evaluate FirstProbe a p.y
      ∷ finite_test (p.answer FirstProbe a p.y)
      ∷ evaluate SecondProbe b p.y
      ∷ finite_test (p.answer SecondProbe b p.y)
      ∷ []

  unfoldable pub partial_items : List Item
  partial_items =
      cond p.host_time_partial (evaluate TimePartial p.t p.y ∷ []) (probe_items (probes p.policy p.t p.h))
      ++ (finite_test e.fₜ ∷ [])

  -- ---- the matrix, and 6 where the elimination finds no pivot

  unfoldable pub matrix_items : List Item
  matrix_items = finite_test (matrix p e) ∷ test (Singular when not (is_ok (raw_of p.n (matrix p e) []).answer)) ∷ []

  -- ---- the stages

  -- the derivative of stage i, u being the stages before it, unless it is reused
  unfoldable pub stage_derivative_items : ℕ → List Float → List Item
  stage_derivative_items i u =
      let time = stage_time p.tableau p.t p.h i in
      cond (reused p e i) []
      (test (NonFinite when not (finite time)) ∷ evaluate (Stage i) time (state_of p e i u) ∷ finite_test (derivative_of p e i u) ∷ [])

  unfoldable pub stage_items : ℕ → List Item
  stage_items i = let u = stages p e i in finite_test (state_of p e i u) ∷ (stage_derivative_items i u ++ (finite_test (stage_of p e i u) ∷ []))

  -- stages i, .., i + r - 1
  unfoldable pub stages_items : ℕ → ℕ → List Item
  stages_items i zero = []
  stages_items i (suc r) = stage_items i ++ stages_items (suc i) r

  unfoldable pub end_items : List Item
  end_items = finite_test (candidate p e) ∷ finite_test (error p e) ∷ []

-- the whole step
unfoldable pub schedule : Attempted → Caches → List Item
schedule p c =
    let e = evaluated p c in
    unless_cached c.derivative (derivative_items p e)
    ++ (unless_cached c.differentiation (jacobian_items p e ++ partial_items p e)
    ++ (matrix_items p e ++ (stages_items p e 0 (stages_of p.tableau) ++ end_items p e)))

-- ---- what is asked for, and the refusal in which it ends, if a test holds

unfoldable pub asks_for : List Item → List Request
asks_for [] = []
asks_for (evaluate a time state ∷ items) = record { kind = kind_of a; time = time; state = state } ∷ asks_for items
asks_for (test (refusal when true) ∷ items) = []
asks_for (test (refusal when false) ∷ items) = asks_for items

unfoldable pub ends_in : List Item → Option Refusal
ends_in [] = None
ends_in (evaluate a time state ∷ items) = ends_in items
ends_in (test (refusal when true) ∷ items) = Some refusal
ends_in (test (refusal when false) ∷ items) = ends_in items
