-- Ten cases at the edge, a row each, with its words beside it. Each row is a statement about the definition that the call's contract cites, for all
-- that its line leaves open. `fin false m e` is m times 2 to the e. Definitions only.
use Rattle.std.specs.Prelude.{ℕ, ◌≡◌, Bool, true, false, not, ◌&&◌, List, [], ◌∷◌, pos, negsuc, Float, None, Some, Ok, Err}
use Rattle.std.specs.Float.{fin, inf}
use Rattle.std.specs.Float.Ieee.{lt, le}
use Rattle.float.specs.Operators.{𝟎, 𝟏}
use Rattle.float.specs.Methods.{abs}
use Rattle.stepping.specs.declared.Refusal.TheVariants.{Direction, Singular, Configuration, MinimumStep}
use Rattle.stepping.specs.Refusals.{◌when◌, first_of, unless_refused}
use Rattle.stepping.specs.Time.{endpoint_step}
use Rattle.time_difference.specs.declared.TimeDifferencePolicy.{TimeDifferencePolicy}
use Rattle.time_difference.specs.Policy.{default_policy, refusal, probes}
use Rattle.time_difference.specs.Policy as policy
use Rattle.linear.specs.Calls as lu
use Rattle.dense.specs.Segment.{segment}
use Rattle.dense.specs.Interpolation as dense
use Rattle.settings.specs.declared.ControllerConfig.{ControllerConfig}
use Rattle.settings.specs.Constants.{fifth, ten}
use Rattle.proposal.specs.declared.StepDecision.{StepDecision}
use Rattle.proposal.specs.Rules.{next_step}
use Rattle.controller.specs.declared.AdaptiveController.{AdaptiveController}
use Rattle.controller.specs.declared.Assessment.TheVariants.{Decision}
use Rattle.controller.specs.declared.Assessed.{Assessed}
use Rattle.controller.specs.Assess.{sound, usable, refused, rejected_state, controller_of, assess}

-- ---- the numbers

abbrev pub zero : Float
zero = fin false 0 (pos 0)

abbrev pub one : Float
one = fin false 1 (pos 0)

abbrev pub minus_one : Float
minus_one = fin true 1 (pos 0)

abbrev pub two : Float
two = fin false 1 (pos 1)

abbrev pub three : Float
three = fin false 3 (pos 0)

abbrev pub four : Float
four = fin false 1 (pos 2)

abbrev pub five : Float
five = fin false 5 (pos 0)

abbrev pub 2⁻⁵¹ : Float
2⁻⁵¹ = fin false 1 (negsuc 50)

abbrev pub 2⁻⁵⁰ : Float
2⁻⁵⁰ = fin false 1 (negsuc 49)

abbrev pub 2⁻¹⁰⁷⁴ : Float
2⁻¹⁰⁷⁴ = fin false 1 (negsuc 1073)

-- ---- what a row speaks of

-- diag(x, y)
abbrev pub diag : Float → Float → List Float
diag x y = x ∷ zero ∷ zero ∷ y ∷ []

abbrev pub decided : Bool → Float → StepDecision
decided accepted next = record { accepted = accepted; forced = false; next_step = next }

-- what assess leaves and answers where it rejects the step
abbrev pub rejecting : AdaptiveController → Float → Assessed
rejecting k next = record { controller = controller_of k.config (rejected_state k.state next); answer = Decision (decided false next) }

-- error 1 at a step h of the controller k, with the product p
pub record Ninth (k : AdaptiveController) (h p : Float) : Type 0 where
  -- a decision accepts just where accept_equal is set, and is not forced
  pub only : (d : StepDecision) → (assess k h 𝟏 p).answer ≡ Decision d → (d.accepted ≡ k.config.accept_equal) × (d.forced ≡ false)
  -- the whole answer, where settings, past errors and step are valid: that decision, but for a next step that is not finite or is 0, or a rejected
  -- one that would not shrink
  pub answers : sound k ≡ true → usable h ≡ true
      → let equal = k.config.accept_equal in
      let next = next_step k.config k.state h 𝟏 p in
      (assess k h 𝟏 p).answer ≡ unless_refused (refused 𝟏)
      (first_of ((Configuration when not (usable next)) ∷ (MinimumStep when not equal && le (abs h) (abs next)) ∷ []))
      (Decision (decided equal next))

-- factors 0.2 to 5, caps above 0.2, steps 0 to 10
pub record Tenth (c : ControllerConfig) : Type 0 where
  pub least_factor : c.minimum_factor ≡ fifth
  pub largest_factor : c.maximum_factor ≡ five
  pub cap : lt fifth c.rejection_maximum ≡ true
  pub repeated_cap : (cap : Float) → c.repeated_rejection_maximum ≡ Some cap → lt fifth cap ≡ true
  pub least_step : abs c.minimum_step ≡ 𝟎
  pub largest_step : c.maximum_step ≡ ten

-- ---- the rows

-- ★1 LU of diag(1, 2⁻⁵¹): 6. Whatever the pivots held: the first step is done, and the second pivot is as it was.
abbrev pub Star1 : Type 0
Star1 = (p q : ℕ) → lu.factorize_of 2 (diag one 2⁻⁵¹) (p ∷ q ∷ []) ≡ lu.outcome (Err Singular) (diag one 2⁻⁵¹) (0 ∷ q ∷ [])

-- ★2 of diag(1, 2⁻⁵⁰): accepted.
abbrev pub Star2 : Type 0
Star2 = (p q : ℕ) → lu.factorize_of 2 (diag one 2⁻⁵⁰) (p ∷ q ∷ []) ≡ lu.outcome (Ok tt) (diag one 2⁻⁵⁰) (0 ∷ 1 ∷ [])

-- ★3 of the 1 by 1 matrix 2⁻¹⁰⁷⁴: accepted.
abbrev pub Star3 : Type 0
Star3 = (p : ℕ) → lu.factorize_of 1 (2⁻¹⁰⁷⁴ ∷ []) (p ∷ []) ≡ lu.outcome (Ok tt) (2⁻¹⁰⁷⁴ ∷ []) (0 ∷ [])

-- ★4 endpoint_step(0, 1, 2): 1.
abbrev pub Star4 : Type 0
Star4 = endpoint_step zero one two ≡ Ok one

-- ★5 (0, 1, −1): 4.
abbrev pub Star5 : Type 0
Star5 = endpoint_step zero one minus_one ≡ Err Direction

-- ★6 (0, 0, −1): 0.
abbrev pub Star6 : Type 0
Star6 = endpoint_step zero zero minus_one ≡ Ok zero

-- ★7 probes at time 0, step 2⁻¹⁰⁷⁴: first 2⁻¹⁰⁷⁴, no second. At every policy that is not refused and has no bound within the step, and the default
-- policy is one.
abbrev pub Star7 : Type 0
Star7 = ((p : TimeDifferencePolicy) → refusal p zero 2⁻¹⁰⁷⁴ ≡ Ok tt → policy.endpoint p.bounds 2⁻¹⁰⁷⁴ ≡ 2⁻¹⁰⁷⁴ → probes p zero 2⁻¹⁰⁷⁴ ≡ Ok (2⁻¹⁰⁷⁴, None))
    × (probes default_policy zero 2⁻¹⁰⁷⁴ ≡ Ok (2⁻¹⁰⁷⁴, None))

-- ★8 segment 0 to 2, states 1 and 3, corrections 2 and 4, time 1: 3. Whatever the output held.
abbrev pub Star8 : Type 0
Star8 = (x : Float) → dense.interpolate (segment zero two (one ∷ []) (three ∷ []) (two ∷ four ∷ []) 2) one (x ∷ []) ≡ dense.outcome (Ok tt) (three ∷ [])

-- ★9 error 1, step above the minimum: accepted only with accept_equal. Whatever settings, state, step and product.
abbrev pub Star9 : Type 0
Star9 = (k : AdaptiveController) (h p : Float) → lt k.config.minimum_step (abs h) ≡ true → Ninth k h p

-- ★10 error infinite, step 1, factors 0.2 to 5, caps above 0.2, steps 0 to 10: rejected, next 0.2. Whatever the other valid settings, the valid past
-- errors, the rest of the state and the product.
abbrev pub Star10 : Type 0
Star10 = (k : AdaptiveController) (p : Float) → sound k ≡ true → Tenth k.config → assess k 𝟏 (inf false) p ≡ rejecting k fifth

-- ---- the table

pub record Starred : Type 0 where
  pub star_1 : Star1
  pub star_2 : Star2
  pub star_3 : Star3
  pub star_4 : Star4
  pub star_5 : Star5
  pub star_6 : Star6
  pub star_7 : Star7
  pub star_8 : Star8
  pub star_9 : Star9
  pub star_10 : Star10
