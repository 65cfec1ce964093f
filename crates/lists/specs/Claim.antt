-- What is claimed of every list of calls. Definitions only.
use Rattle.std.specs.Prelude.{◌≡◌, ℕ, List, ◌∷◌, ◌++◌, map, length, drop, Float, Ok}
use Rattle.stepping.specs.Refusals.{first_of}
use Rattle.time_difference.specs.declared.TimeDifferencePolicy.{TimeDifferencePolicy}
use Rattle.refusals.specs.Answers.{Lent, lending, done}
use Rattle.refusals.specs.Tests.{fit_tests}
use Rattle.rosenbrock.specs.Stepper.{Call, reset, read, System, needed, trimmed, stepped, make, made}
use Rattle.rosenbrock.specs.Readers.{Query}
use Rattle.lists.specs.Run.{after, accepted_in, run}
use Rattle.lists.specs.Book.{accounts, fed, opened}

-- Two steppers that differ in counters and in doubles beyond the needed work alone.
pub record Same (y z : System) : Type 0 where
  pub fixed : y.stepper.fixed ≡ z.stepper.fixed
  pub progress : y.stepper.progress ≡ z.stepper.progress
  pub memory : trimmed (needed y.stepper.fixed) y.lent ≡ trimmed (needed z.stepper.fixed) z.lent

-- y, a stepper that was just reset, and a new one, made with the list's file and policy, the reset's time and state, and memory that it is lent
pub record Indistinguishable (file : List ℕ) (policy : TimeDifferencePolicy) (time : Float) (lent : Lent) (y : System) (rest : List Call) : Type 0 where
  pub new : System
  -- the making is not refused
  pub is_made : make file policy time lent ≡ made new
  -- record but for counters, state, needed work and pivots are equal
  pub same : Same y new
  -- so are accepted time and state
  pub begins : accepted_in y ≡ accepted_in new
  -- and all that is seen after each later call
  pub goes_on : run y rest ≡ run new rest

pub record Holds (file : List ℕ) (policy : TimeDifferencePolicy) (time : Float) (lent : Lent) (y : System) (calls : List Call) : Type 0 where
  -- after each call the accepted time and state are the book's, which is told of the answers only whether they refuse, and the step views
  pub by_the_book : map (λ s. s.accepted) (run y calls) ≡ accounts (opened time lent.state) calls (map (λ s. fed s.answer) (run y calls))
  -- after each reset that was not refused the stepper is indistinguishable from a new one, whatever the new one's work and pivots held
  pub after_reset : (before rest : List Call) (time' : Float) (state' work' : List Float) (pivots' : List ℕ) → calls ≡ before ++ (reset time' state' ∷ rest)
      → (stepped (reset time' state') (after y before)).answer ≡ done
      → length work' ≡ length lent.work
      → length pivots' ≡ length lent.pivots
      → Indistinguishable file policy time' (lending state' work' pivots') (stepped (reset time' state') (after y before)).system rest

-- the one theorem: for every making that is not refused and every list of calls
abbrev pub EveryList : Type 0
EveryList = (file : List ℕ) (policy : TimeDifferencePolicy) (time : Float) (lent : Lent) (y : System) → make file policy time lent ≡ made y → (calls : List Call)
    → Holds file policy time lent y calls

-- ---- beside it

-- in a list the first tests never refuse: record and memory fit after every call
abbrev pub AlwaysFits : Type 0
AlwaysFits = (file : List ℕ) (policy : TimeDifferencePolicy) (time : Float) (lent : Lent) (y : System) → make file policy time lent ≡ made y → (calls : List Call)
    → let z = after y calls in first_of (fit_tests z.stepper.fixed z.stepper.progress (trimmed (needed z.stepper.fixed) z.lent)) ≡ Ok tt

-- whatever record and memory are: a call leaves the work beyond the needed length as it was, and every length
pub record Untouched (y z : System) : Type 0 where
  pub tail : drop (needed y.stepper.fixed) z.lent.work ≡ drop (needed y.stepper.fixed) y.lent.work
  pub of_work : length z.lent.work ≡ length y.lent.work
  pub of_pivots : length z.lent.pivots ≡ length y.lent.pivots

abbrev pub TailUntouched : Type 0
TailUntouched = (c : Call) (y : System) → Untouched y (stepped c y).system

-- a reader changes nothing
abbrev pub ReadersChangeNothing : Type 0
ReadersChangeNothing = (q : Query) (y : System) → (stepped (read q) y).system ≡ y
