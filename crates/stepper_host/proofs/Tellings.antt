-- What the readers' exports hand out, from what the readers told. Assumes nothing.
use mathlib.Core.Path.{◌≡◌, refl, ap, ◌∙◌}
use mathlib.Core.List.{List}
use lib.Ieee.{Float}
use Rattle.std.specs.Prelude.{Result, Ok, Err}
use Rattle.stepping.specs.declared.Refusal.{Refusal}
use Rattle.stepping.specs.declared.Refusal.TheVariants.{Dimension, NonFinite, UnsupportedTableau, Direction, TimeResolution, Singular, Configuration, Tolerance, FirstStep, SegmentData, OutsideTimeSpan, TableauFile, PivotRange, PendingCandidate, NoCandidate, MinimumStep, NoRequest, AttemptOpen, HostFailure}
use Rattle.stepping.specs.Refusals as stepping
use Rattle.stepping.specs.Refusals.{number_of}
use Rattle.statistics.specs.declared.StepStatistics.{StepStatistics}
use Rattle.refusals.specs.Answers.{Lent, Answer}
use Rattle.readers.specs.declared.Kind.TheVariants.{Derivative, Jacobian, TimePartial}
use Rattle.readers.specs.declared.Told.{Told}
use Rattle.readers.specs.declared.Told.TheVariants.{Number, State, Part, Absent, Statistics, AskedAtState, AskedAtPart}
use Rattle.readers.specs.Telling.{reply_of, tells, copied, counters_told}
use Rattle.stepper_host.specs.declared.StatisticsAnswer.{StatisticsAnswer}
use Rattle.stepper_host.specs.Readings.{number_asked, of_told, kind_asked, in_order, numbered, told_by, counters_of, of_statistics, replied, statistics_handed, copy_handed, copy_as_numbers}

-- each number is one refusal's
numbered_back : (k : Refusal) → numbered (stepping.number k) ≡ k
unfolding stepping.number in_order numbered
numbered_back Dimension = refl
numbered_back NonFinite = refl
numbered_back UnsupportedTableau = refl
numbered_back Direction = refl
numbered_back TimeResolution = refl
numbered_back Singular = refl
numbered_back Configuration = refl
numbered_back Tolerance = refl
numbered_back FirstStep = refl
numbered_back SegmentData = refl
numbered_back OutsideTimeSpan = refl
numbered_back TableauFile = refl
numbered_back PivotRange = refl
numbered_back PendingCandidate = refl
numbered_back NoCandidate = refl
numbered_back MinimumStep = refl
numbered_back NoRequest = refl
numbered_back AttemptOpen = refl
numbered_back HostFailure = refl

-- the counters apart, the numbers tell what they were made from
pub same_again : (t : Result Told Refusal) → of_told (told_by (of_told t)) ≡ of_told t
unfolding number_asked of_told kind_asked told_by
same_again (Err k) = ap (λ (j : Refusal). of_told (Err j)) (numbered_back k)
same_again (Ok (Number v)) = refl
same_again (Ok State) = refl
same_again (Ok (Part at count)) = refl
same_again (Ok Absent) = refl
same_again (Ok (Statistics t)) = refl
same_again (Ok (AskedAtState Derivative time)) = refl
same_again (Ok (AskedAtState Jacobian time)) = refl
same_again (Ok (AskedAtState TimePartial time)) = refl
same_again (Ok (AskedAtPart Derivative time at count)) = refl
same_again (Ok (AskedAtPart Jacobian time at count)) = refl
same_again (Ok (AskedAtPart TimePartial time at count)) = refl

module _ (m : Lent) where
  pub back : (t : Result Told Refusal) → tells (told_by (of_told t)) m ≡ tells t m
  unfolding number_asked of_told kind_asked told_by reply_of tells
  back (Err k) = ap (λ (j : Refusal). tells (Err j) m) (numbered_back k)
  back (Ok (Number v)) = refl
  back (Ok State) = refl
  back (Ok (Part at count)) = refl
  back (Ok Absent) = refl
  back (Ok (Statistics t)) = refl
  back (Ok (AskedAtState Derivative time)) = refl
  back (Ok (AskedAtState Jacobian time)) = refl
  back (Ok (AskedAtState TimePartial time)) = refl
  back (Ok (AskedAtPart Derivative time at count)) = refl
  back (Ok (AskedAtPart Jacobian time at count)) = refl
  back (Ok (AskedAtPart TimePartial time at count)) = refl

  counted : (t : Result Told Refusal) (c : StepStatistics) → counters_told t c ≡ c → of_statistics t ≡ statistics_handed (tells t m) c
  unfolding counters_of number_of of_statistics replied statistics_handed reply_of tells counters_told
  counted (Err k) c h = refl
  counted (Ok (Number v)) c h = refl
  counted (Ok State) c h = refl
  counted (Ok (Part at count)) c h = refl
  counted (Ok Absent) c h = refl
  counted (Ok (Statistics t)) c h = λ i. record { statistics = h i; number = 0 }
  counted (Ok (AskedAtState k time)) c h = refl
  counted (Ok (AskedAtPart k time at count)) c h = refl

  pub counters_handed : (t : Result Told Refusal) (c : StepStatistics) (r : StatisticsAnswer) (a : Answer) → r ≡ of_statistics t → (tells t m ≡ a) × (counters_told t c ≡ c) → r ≡ statistics_handed a c
  counters_handed t c r a e h = e ∙ counted t c h.1 ∙ ap (λ (z : Answer). statistics_handed z c) h.0

  pub copying : (t : Result Told Refusal) (old state : List Float) → copy_handed (number_of t) (copied t old state) ≡ copy_as_numbers (tells t m) old state
  unfolding number_of copy_as_numbers tells copied
  copying (Err k) old state = refl
  copying (Ok t) old state = refl
