-- What of that which an attempt asked for comes with a call, and what is cached after the calls of a list: the derivative at the accepted state, and the
-- Jacobian with the time partial there. It is told from the calls and their answers, what was asked before them, and the lent memory. Definitions only.
use Rattle.std.specs.Prelude.{ℕ, ◌≡◌, Bool, true, false, not, ◌&&◌, ◌||◌, cond, List, [], ◌∷◌, Float, Option, Some, None, Result, Ok, Err}
use Rattle.std.specs.Float.Ieee.{eq}
use Rattle.float.specs.Operators.{𝟎}
use Rattle.vector.specs.Lists.{all_finite}
use Rattle.vector.specs.Parts.{part}
use Rattle.stepping.specs.declared.Refusal.{Refusal}
use Rattle.time_difference.specs.declared.TimeDifferencePolicy.{TimeDifferencePolicy}
use Rattle.time_difference.specs.Policy.{probes}
use Rattle.stages.specs.Layout.{time_partial_at}
use Rattle.attempts.specs.declared.Memo.{Memo}
use Rattle.attempts.specs.declared.Ask.{Ask}
use Rattle.attempts.specs.declared.Ask.TheVariants.{Derivative, TimePartial, FirstProbe, SecondProbe}
use Rattle.refusals.specs.Requests.{ask_of}
use Rattle.refusals.specs.Answers.{Lent}
use Rattle.refusals.specs.Tests.{supply_tests}
use Rattle.rosenbrock.specs.Stepper.{Call, supply, accept, inject_derivative, reset, System, stepped, make, made}
use Rattle.lists.specs.Run.{after}
use Rattle.lists.specs.Accepting.{is_done}
use Rattle.lists.specs.Opening.{memory, pass}

-- ---- what was asked is supplied

-- a supply passes all its tests, and its values are finite
unfoldable pub supplies : Call → System → Bool
supplies (supply file values) y = pass (supply_tests y.stepper.fixed file values y.stepper.progress (memory y)) && all_finite values
supplies c y = false

-- what an open attempt waits for
abbrev pub awaited : System → Ask
awaited y = ask_of y.stepper.progress.request y.stepper.progress.stage

unfoldable pub is_derivative : Ask → Bool
is_derivative Derivative = true
is_derivative a = false

unfoldable pub has_second : Result (Float × Option Float) Refusal → Bool
has_second (Ok (first, Some second)) = true
has_second (Ok (first, None)) = false
has_second (Err refusal) = false

-- the time partial of the open attempt is taken from two probes, not from one
unfoldable pub two_probes : System → Bool
two_probes y = let x = y.stepper.progress in has_second (probes y.stepper.fixed.policy x.time x.step)

-- the last that is asked for a time partial: the host's, or the derivative at the last probe
unfoldable pub is_last_of_partial : Bool → Ask → Bool
is_last_of_partial two TimePartial = true
is_last_of_partial two FirstProbe = not two
is_last_of_partial two SecondProbe = true
is_last_of_partial two a = false

-- the time partial in the memory that a call leaves
abbrev pub partial_left : Call → System → List Float
partial_left c y = let n = y.stepper.fixed.n in part (time_partial_at n) n (memory (stepped c y).system).work

unfoldable pub derivative_came : Call → System → Bool
derivative_came c y = supplies c y && is_derivative (awaited y)

-- The time partial came, and is finite. It comes after the Jacobian, which was finite, or it would not have been asked for.
unfoldable pub partial_came : Call → System → Bool
partial_came c y = supplies c y && (is_last_of_partial (two_probes y) (awaited y) && all_finite (partial_left c y))

-- ---- what is cached

pub record Caches : Type 0 where
  -- the derivative at the accepted time and state
  pub derivative : Bool
  -- the Jacobian and the time partial there
  pub differentiation : Bool

abbrev pub none_cached : Caches
none_cached = record { derivative = false; differentiation = false }

-- An accept over a step other than 0 moves away from where they were taken, and a reset begins anew. A derivative that is injected stands alone.
unfoldable pub cached_after : Caches → Call → System → Caches
cached_after k (supply file values) y =
    let c = supply file values in
    record { derivative = k.derivative || derivative_came c y; differentiation = k.differentiation || partial_came c y }
cached_after k (accept form) y = cond (is_done (stepped (accept form) y).answer && not (eq y.stepper.progress.step 𝟎)) none_cached k
cached_after k (inject_derivative derivative) y =
    cond (is_done (stepped (inject_derivative derivative) y).answer) (record { derivative = true; differentiation = false }) k
cached_after k (reset time state) y = cond (is_done (stepped (reset time state) y).answer) none_cached k
cached_after k c y = k

-- after the calls of a list
unfoldable pub cached : Caches → System → List Call → Caches
cached k y [] = k
cached k y (c ∷ cs) = cached (cached_after k c y) (stepped c y).system cs

-- ---- the law

-- the record has these caches
pub record CachedAs (k : Caches) (memo : Memo) : Type 0 where
  pub derivative : memo.derivative_valid ≡ k.derivative
  pub differentiation : memo.differentiation_valid ≡ k.differentiation
  -- the Jacobian and the time partial only beside the derivative
  pub beside : k.differentiation ≡ true → k.derivative ≡ true

-- for every making that is not refused and every list of calls
abbrev pub EveryCache : Type 0
EveryCache = (file : List ℕ) (policy : TimeDifferencePolicy) (time : Float) (lent : Lent) (y : System) → make file policy time lent ≡ made y
    → (calls : List Call)
    → CachedAs (cached none_cached y calls) (after y calls).stepper.progress.memo
