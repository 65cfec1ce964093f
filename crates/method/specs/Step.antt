-- One step of a Rosenbrock method (Hairer and Wanner, Solving Ordinary Differential Equations II, 2nd edition, IV.7; by element in stages/specs/Method) for
-- y' = f(t, y): from the time t and the state y, of n components, by the step h. The system of each stage is solved by the elimination of Golub and
-- Van Loan (linear/specs). Vectors are lists of their components, matrices lists of their entries by rows. Definitions only.
use Rattle.std.specs.Prelude.{ℕ, zero, suc, Bool, true, false, cond, ◌&&◌, List, [], ◌++◌, eqb, Float, Option, Some, None, Result, Ok, Err, unwrap_or}
use Rattle.std.specs.Float.Ieee.{eq}
use Rattle.float.specs.Operators.{◌⊖◌, 𝟎}
use Rattle.vector.specs.Lists.{el, table}
use Rattle.vector.specs.Matrices.{entry, rows}
use Rattle.stepping.specs.declared.Refusal.{Refusal}
use Rattle.linear.specs.Elimination.{eliminated, pivot_of}
use Rattle.linear.specs.Substitution.{solution}
use Rattle.time_difference.specs.declared.TimeDifferencePolicy.{TimeDifferencePolicy}
use Rattle.time_difference.specs.Policy.{probes}
use Rattle.time_difference.specs.Probes.{partial}
use Rattle.tableau.specs.Tableau.{Tableau, stages_of, c_of}
use Rattle.attempts.specs.declared.Ask.{Ask}
use Rattle.attempts.specs.declared.Ask.TheVariants.{Derivative, Jacobian, TimePartial, FirstProbe, SecondProbe, Column, Stage}
use Rattle.stages.specs.Method.{stage_state, stage_time, right_hand_side, stage_matrix, stage_value, new_state, error_of}
use Rattle.differentiation.specs.Differences.{rise, probe_state, quotient}

-- the derivative, its Jacobian and its time partial, as functions of time and state
pub record Problem : Type 0 where
  pub f : Float → List Float → List Float
  pub J : Float → List Float → List Float
  pub fₜ : Float → List Float → List Float

-- What a host answers where it is asked for a, at a time and a state: the Jacobian, the time partial, or, to every other ask, the derivative. A step makes
-- each ask at most once, so these are also the answers of a host that is no function of time and state, as of one that counts its calls.
abbrev pub Answers : Type 0
Answers = Ask → Float → List Float → List Float

-- a step that is attempted; the host supplies the Jacobian and the time partial, or they are probed, as the policy says for the latter
pub record Attempted : Type 0 where
  pub answer : Answers
  pub tableau : Tableau
  pub policy : TimeDifferencePolicy
  pub n : ℕ
  pub t : Float
  pub h : Float
  pub y : List Float
  pub host_jacobian : Bool
  pub host_time_partial : Bool

-- the derivative, the Jacobian and the time partial at (t, y)
pub record Evaluated : Type 0 where
  pub f₀ : List Float
  pub J : List Float
  pub fₜ : List Float

-- ---- the stages

module _ (p : Attempted) (e : Evaluated) where
  -- the matrix of every stage, and the solution of a stage's system
  unfoldable pub matrix : List Float
  matrix = stage_matrix p.tableau p.h p.n e.J

  unfoldable pub solve : List Float → List Float
  solve b = let n = p.n in solution n (eliminated n matrix n) (table (pivot_of n matrix) n) b

  -- the state at which stage i is evaluated, u being the stages before it
  unfoldable pub state_of : ℕ → List Float → List Float
  state_of i u = table (stage_state p.tableau i (entry p.n u) (el p.y)) p.n

  -- the derivative there; in the first stage it is f₀ itself where c is a zero
  unfoldable pub reused : ℕ → Bool
  reused i = eqb i 0 && eq (c_of p.tableau 0) 𝟎

  unfoldable pub derivative_of : ℕ → List Float → List Float
  derivative_of i u = cond (reused i) e.f₀ (p.answer (Stage i) (stage_time p.tableau p.t p.h i) (state_of i u))

  -- stage i, u being the stages before it
  unfoldable pub stage_of : ℕ → List Float → List Float
  stage_of i u =
      let b = table (right_hand_side p.tableau p.h i (entry p.n u) (el (derivative_of i u)) (el e.fₜ)) p.n in
      table (stage_value p.tableau p.h (el (solve b))) p.n

  -- the first i stages, and the derivatives at them
  unfoldable pub stages : ℕ → List Float
  stages zero = []
  stages (suc i) = let u = stages i in u ++ stage_of i u

  unfoldable pub derivatives : ℕ → List Float
  derivatives zero = []
  derivatives (suc i) = derivatives i ++ derivative_of i (stages i)

  -- the new state and the component error, after all s stages
  unfoldable pub candidate : List Float
  candidate = let s = stages_of p.tableau in table (new_state p.tableau (entry p.n (stages s)) (el p.y) s) p.n

  unfoldable pub error : List Float
  error = let s = stages_of p.tableau in table (error_of p.tableau (entry p.n (stages s)) s) p.n

-- ---- the Jacobian and the time partial, from the host or by differences

module _ (p : Attempted) (f₀ : List Float) where
  -- the state with component k risen
  unfoldable pub probed_state : ℕ → List Float
  probed_state k = table (probe_state k (el p.y)) p.n

  unfoldable pub probed_jacobian : List Float
  probed_jacobian = rows (λ i k. quotient (rise (el p.y k)) (el (p.answer (Column k) p.t (probed_state k))) (el f₀) i) p.n p.n

  -- from one probe or two; there is none where the policy refuses
  unfoldable pub probed_partial : Result (Float × Option Float) Refusal → List Float
  probed_partial (Ok (a, None)) = table (λ k. partial false (el f₀ k) (el (p.answer FirstProbe a p.y) k) 𝟎 (a ⊖ p.t) 𝟎) p.n
  probed_partial (Ok (a, Some b)) =
      table (λ k. partial true (el f₀ k) (el (p.answer FirstProbe a p.y) k) (el (p.answer SecondProbe b p.y) k) (a ⊖ p.t) (b ⊖ p.t)) p.n
  probed_partial (Err refusal) = []

  unfoldable pub jacobian_at : List Float
  jacobian_at = cond p.host_jacobian (p.answer Jacobian p.t p.y) probed_jacobian

  unfoldable pub partial_at : List Float
  partial_at = cond p.host_time_partial (p.answer TimePartial p.t p.y) (probed_partial (probes p.policy p.t p.h))

-- ---- what is cached of them from an earlier attempt

pub record Differentiation : Type 0 where
  pub J : List Float
  pub fₜ : List Float

pub record Caches : Type 0 where
  pub derivative : Option (List Float)
  pub differentiation : Option Differentiation

module _ (p : Attempted) (c : Caches) where
  unfoldable pub derivative_at : List Float
  derivative_at = unwrap_or c.derivative (p.answer Derivative p.t p.y)

  unfoldable pub differentiation_at : Differentiation
  differentiation_at = unwrap_or c.differentiation (record { J = jacobian_at p derivative_at; fₜ = partial_at p derivative_at })

  unfoldable pub evaluated : Evaluated
  evaluated = record { f₀ = derivative_at; J = differentiation_at.J; fₜ = differentiation_at.fₜ }
