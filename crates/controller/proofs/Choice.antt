-- Where assess is not refused no maximum or minimum of its is of two zeros: each has one side that is no zero, the caps and the floor by the settings,
-- the largest double by itself. And its number is that of the first test that holds, and the
-- settings stay. Assumes nothing.
use mathlib.Core.Path.{◌≡◌, refl}
use mathlib.Core.Bool.{true, false}
use Rattle.std.specs.Prelude.{Result, Ok, Err, ⊤, Some}
use lib.Ieee.{Float, eq, of_bits}
use Rattle.float.specs.Operators.{𝟎}
use Rattle.float.proofs.Cases.{and_left}
use Rattle.stepping.specs.declared.Refusal.{Refusal}
use Rattle.stepping.specs.declared.Refusal.TheVariants as refusal
use Rattle.stepping.specs.declared.Refusal.TheVariants.{Dimension, NonFinite, UnsupportedTableau, Direction, TimeResolution, Singular, Configuration, Tolerance, FirstStep, SegmentData, OutsideTimeSpan, TableauFile, PivotRange, PendingCandidate, NoCandidate, NoRequest, AttemptOpen, HostFailure}
use Rattle.stepping.specs.Refusals as refusals
use Rattle.stepping.specs.Refusals.{first_of, unless_refused, number_of}
use Rattle.settings.specs.Constants.{largest}
use Rattle.settings.specs.Valid.{valid_settings, valid_errors}
use Rattle.settings.proofs.Ranges.{ranges, positive_no_zero, fraction_no_zero}
use Rattle.proposal.specs.declared.StepDecision.{StepDecision}
use Rattle.proposal.specs.Rules.{decision}
use Rattle.controller.specs.declared.AdaptiveController.{AdaptiveController}
use Rattle.controller.specs.declared.Assessment.{Assessment}
use Rattle.controller.specs.declared.Assessment.TheVariants.{Decision, Refused, MinimumStep}
use Rattle.controller.specs.Assess.{sound, assess_tests, refused, assessment, number, controller_of, after, assess}

module _ (k : AdaptiveController) (s : sound k ≡ true) where
  valid : valid_settings k.config ≡ true
  unfolding sound
  valid = and_left (valid_settings k.config) (valid_errors k.state.accepted_errors) s

  pub rejection_no_zero : eq k.config.rejection_maximum 𝟎 ≡ false
  rejection_no_zero = fraction_no_zero k.config.rejection_maximum (ranges k.config valid).rejection

  pub repeated_no_zero : (cap : Float) → k.config.repeated_rejection_maximum ≡ Some cap → eq cap 𝟎 ≡ false
  repeated_no_zero cap h = fraction_no_zero cap ((ranges k.config valid).repeated cap h)

  pub acceptance_no_zero : eq k.config.rejected_acceptance_maximum 𝟎 ≡ false
  acceptance_no_zero = positive_no_zero k.config.rejected_acceptance_maximum (ranges k.config valid).acceptance

  pub floor_no_zero : eq k.config.error_history_floor 𝟎 ≡ false
  floor_no_zero = positive_no_zero k.config.error_history_floor (ranges k.config valid).floor

pub largest_no_zero : eq largest 𝟎 ≡ false
unfolding eq of_bits
largest_no_zero = refl

-- ---- the number that an answer carries
refused-number : (err : Float) (r : Refusal) → number (refused err r) ≡ refusals.number r
unfolding refused number
refused-number err Dimension = refl
refused-number err NonFinite = refl
refused-number err UnsupportedTableau = refl
refused-number err Direction = refl
refused-number err TimeResolution = refl
refused-number err Singular = refl
refused-number err Configuration = refl
refused-number err Tolerance = refl
refused-number err FirstStep = refl
refused-number err SegmentData = refl
refused-number err OutsideTimeSpan = refl
refused-number err TableauFile = refl
refused-number err PivotRange = refl
refused-number err PendingCandidate = refl
refused-number err NoCandidate = refl
refused-number err refusal.MinimumStep = refl
refused-number err NoRequest = refl
refused-number err AttemptOpen = refl
refused-number err HostFailure = refl

number_of_either : (err : Float) (d : StepDecision) (r : Result ⊤ Refusal) → number (unless_refused (refused err) r (Decision d)) ≡ number_of r
unfolding unless_refused number number_of
number_of_either err d (Ok x) = refl
number_of_either err d (Err k) = refused-number err k

pub number_of_first : (k : AdaptiveController) (h err p : Float)
    → number (assessment k h err p) ≡ number_of (first_of (assess_tests k h err (decision k.config k.state h err p)))
unfolding assessment
number_of_first k h err p = let d = decision k.config k.state h err p in number_of_either err d (first_of (assess_tests k h err d))

-- assess leaves the settings as they were
settings_after : (k : AdaptiveController) (err : Float) (a : Assessment) → (after k err a).config ≡ k.config
unfolding after controller_of
settings_after k err (Decision d) = refl
settings_after k err (Refused r) = refl
settings_after k err (MinimumStep e) = refl

pub settings_kept : (k : AdaptiveController) (h err p : Float) → (assess k h err p).controller.config ≡ k.config
unfolding assess
settings_kept k h err p = settings_after k err (assessment k h err p)
