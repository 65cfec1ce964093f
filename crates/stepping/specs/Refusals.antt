-- Why a call is refused: the numbers that hosts in other languages are told, and how a call's tests decide between them. Definitions only.
use Rattle.std.specs.Prelude.{ℕ, Bool, not, cond, List, [], ◌∷◌, Float, Result, Ok, Err, ⊤}
use Rattle.vector.specs.Lists.{all_finite}
use Rattle.stepping.specs.declared.Refusal.{Refusal}
use Rattle.stepping.specs.declared.Refusal.TheVariants.{Dimension, NonFinite, UnsupportedTableau, Direction, TimeResolution, Singular, Configuration, Tolerance, FirstStep, SegmentData, OutsideTimeSpan, TableauFile, PivotRange, PendingCandidate, NoCandidate, MinimumStep, NoRequest, AttemptOpen, HostFailure}

unfoldable pub number : Refusal → ℕ
-- because of the input
number Dimension = 1
number NonFinite = 2
number UnsupportedTableau = 3
number Direction = 4
number TimeResolution = 5
number Singular = 6
number Configuration = 7
number Tolerance = 8
number FirstStep = 9
number SegmentData = 10
number OutsideTimeSpan = 11
number TableauFile = 12
number PivotRange = 13
-- because of the state
number PendingCandidate = 14
number NoCandidate = 15
number MinimumStep = 16
number NoRequest = 17
number AttemptOpen = 18
number HostFailure = 19

-- 0 where nothing is refused
unfoldable pub number_of : {A : Type 0} → Result A Refusal → ℕ
unfolding number
number_of (Ok x) = 0
number_of (Err refusal) = number refusal

-- a test, and why a call is refused where it holds
pub data Test : Type 0 where
  ◌when◌ : Refusal → Bool → Test

infix 20 ◌when◌
-- refused by the first test that holds, and passed where none does
unfoldable pub first_of : List Test → Result ⊤ Refusal
first_of [] = Ok tt
first_of ((refusal when b) ∷ rest) = cond b (Err refusal) (first_of rest)

-- what the tests passed, or what is answered where they refuse
unfoldable pub unless_refused : {A : Type 0} → (Refusal → A) → Result ⊤ Refusal → A → A
unless_refused refused (Ok x) answer = answer
unless_refused refused (Err refusal) answer = refused refusal

-- 2: a number that is not finite
abbrev pub finite_test : List Float → Test
finite_test values = NonFinite when not (all_finite values)
