-- What is handed to the host for what a reader tells: numbers that say its kind, a value, and a place in the lent memory. Definitions only.
use Rattle.std.specs.Prelude.{ℕ, ◌≡◌, ◌-◌, cond, List, [], ◌∷◌, eqb, get_or, Float, Result, Ok, Err}
use Rattle.float.specs.Operators.{𝟎}
use Rattle.stepping.specs.declared.Refusal.{Refusal}
use Rattle.stepping.specs.declared.Refusal.TheVariants as refusals
use Rattle.stepping.specs.Refusals.{number_of}
use Rattle.stepping.specs.Refusals as stepping
use Rattle.statistics.specs.declared.StepStatistics.{StepStatistics}
use Rattle.refusals.specs.Answers.{Lent, Reply, number, vector, absent, request, statistics, Answer, refused, asked, shown, told, done}
use Rattle.statistics.specs.Counters.{no_statistics}
use Rattle.readers.specs.declared.Kind.{Kind}
use Rattle.readers.specs.declared.Kind.TheVariants.{Derivative, Jacobian, TimePartial}
use Rattle.readers.specs.declared.Told.{Told}
use Rattle.readers.specs.declared.Told.TheVariants.{Number, State, Part, Absent, Statistics, AskedAtState, AskedAtPart}
use Rattle.readers.specs.Telling.{tells}
use Rattle.stepper_host.specs.declared.ReadingAnswer.{ReadingAnswer}
use Rattle.stepper_host.specs.declared.StatisticsAnswer.{StatisticsAnswer}

-- ---- a reading

unfoldable pub number_asked : Kind → ℕ
number_asked Derivative = 1
number_asked Jacobian = 2
number_asked TimePartial = 3

unfoldable pub of_told : Result Told Refusal → ReadingAnswer
unfolding number_asked
of_told (Err refusal) = record { kind = 0; number = stepping.number refusal; asked = 0; value = 𝟎; at = 0; count = 0 }
of_told (Ok (Number v)) = record { kind = 1; number = 0; asked = 0; value = v; at = 0; count = 0 }
of_told (Ok State) = record { kind = 2; number = 0; asked = 0; value = 𝟎; at = 0; count = 0 }
of_told (Ok (Part at count)) = record { kind = 3; number = 0; asked = 0; value = 𝟎; at = at; count = count }
of_told (Ok Absent) = record { kind = 4; number = 0; asked = 0; value = 𝟎; at = 0; count = 0 }
of_told (Ok (AskedAtState k time)) = record { kind = 5; number = 0; asked = number_asked k; value = time; at = 0; count = 0 }
of_told (Ok (AskedAtPart k time at count)) = record { kind = 6; number = 0; asked = number_asked k; value = time; at = at; count = count }
of_told (Ok (Statistics t)) = record { kind = 7; number = 0; asked = 0; value = 𝟎; at = 0; count = 0 }

-- the same backwards
unfoldable pub kind_asked : ℕ → Kind
kind_asked k = cond (eqb k 1) Derivative (cond (eqb k 2) Jacobian TimePartial)

-- the refusals from number 1 on
unfoldable pub in_order : List Refusal
in_order =
    refusals.Dimension
    ∷ refusals.NonFinite
    ∷ refusals.UnsupportedTableau
    ∷ refusals.Direction
    ∷ refusals.TimeResolution
    ∷ refusals.Singular
    ∷ refusals.Configuration
    ∷ refusals.Tolerance
    ∷ refusals.FirstStep
    ∷ refusals.SegmentData
    ∷ refusals.OutsideTimeSpan
    ∷ refusals.TableauFile
    ∷ refusals.PivotRange
    ∷ refusals.PendingCandidate
    ∷ refusals.NoCandidate
    ∷ refusals.MinimumStep
    ∷ refusals.NoRequest
    ∷ refusals.AttemptOpen
    ∷ refusals.HostFailure
    ∷ []

unfoldable pub numbered : ℕ → Refusal
numbered k = get_or in_order (k - 1) refusals.HostFailure

unfoldable pub told_by : ReadingAnswer → Result Told Refusal
unfolding kind_asked
told_by r =
    cond (eqb r.kind 1) (Ok (Number r.value))
    (cond (eqb r.kind 2) (Ok State)
    (cond (eqb r.kind 3) (Ok (Part r.at r.count))
    (cond (eqb r.kind 4) (Ok Absent)
    (cond (eqb r.kind 5) (Ok (AskedAtState (kind_asked r.asked) r.value))
    (cond (eqb r.kind 6) (Ok (AskedAtPart (kind_asked r.asked) r.value r.at r.count))
    (cond (eqb r.kind 7) (Ok (Statistics no_statistics)) (Err (numbered r.number))))))))

-- the numbers tell the answer of the memory that is lent, and no other number stands beside them
abbrev pub HandsOut : ReadingAnswer → Lent → Answer → Type 0
HandsOut r m a = (tells (told_by r) m ≡ a) × (r ≡ of_told (told_by r))

-- ---- the counters, 0 where none are told, and a refusal's number, 0 for none

unfoldable pub counters_of : Result Told Refusal → StepStatistics
counters_of (Ok (Number v)) = no_statistics
counters_of (Ok State) = no_statistics
counters_of (Ok (Part at count)) = no_statistics
counters_of (Ok Absent) = no_statistics
counters_of (Ok (Statistics t)) = t
counters_of (Ok (AskedAtState k time)) = no_statistics
counters_of (Ok (AskedAtPart k time at count)) = no_statistics
counters_of (Err refusal) = no_statistics

unfoldable pub of_statistics : Result Told Refusal → StatisticsAnswer
of_statistics t = record { statistics = counters_of t; number = number_of t }

-- the record's counters, where the definitions tell them
unfoldable pub replied : Reply → StepStatistics → StepStatistics
replied statistics t = t
replied (number v) t = no_statistics
replied (vector v) t = no_statistics
replied absent t = no_statistics
replied (request r) t = no_statistics

abbrev handing : StepStatistics → ℕ → StatisticsAnswer
handing t k = record { statistics = t; number = k }

unfoldable pub statistics_handed : Answer → StepStatistics → StatisticsAnswer
unfolding replied
statistics_handed (told r) t = handing (replied r t) 0
statistics_handed (refused refusal) t = handing no_statistics (stepping.number refusal)
statistics_handed (asked r) t = handing no_statistics 0
statistics_handed (shown v) t = handing no_statistics 0
statistics_handed done t = handing no_statistics 0

-- ---- a copy

pub record CopyHanded : Type 0 where
  pub number : ℕ
  pub output : List Float

abbrev pub copy_handed : ℕ → List Float → CopyHanded
copy_handed k l = record { number = k; output = l }

-- a refusal leaves the output as it was
unfoldable pub copy_as_numbers : Answer → List Float → List Float → CopyHanded
copy_as_numbers (refused refusal) old state = copy_handed (stepping.number refusal) old
copy_as_numbers (told r) old state = copy_handed 0 state
copy_as_numbers (asked r) old state = copy_handed 0 state
copy_as_numbers (shown v) old state = copy_handed 0 state
copy_as_numbers done old state = copy_handed 0 state
