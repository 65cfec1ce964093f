-- What the counters count. The events of a call are told from the call and its arguments, its answer, what was asked and cached before it, and the lent
-- memory. Definitions only.
use Rattle.std.specs.Prelude.{ℕ, ◌+◌, ◌*◌, ◌-◌, ◌^◌, ◌≡◌, min, Bool, true, false, not, ◌&&◌, ◌||◌, cond, List, [], ◌∷◌, Float}
use Rattle.std.specs.Float.Ieee.{eq}
use Rattle.float.specs.Operators.{𝟎}
use Rattle.vector.specs.Lists.{all_finite}
use Rattle.vector.specs.Parts.{part}
use Rattle.stepping.specs.declared.Refusal.TheVariants.{Singular}
use Rattle.time_difference.specs.declared.TimeDifferencePolicy.{TimeDifferencePolicy}
use Rattle.tableau.specs.Tableau.{c_of}
use Rattle.tableau.specs.File.{tableau_of}
use Rattle.stages.specs.Layout.{jacobian_at}
use Rattle.stages.specs.Method.{stage_matrix}
use Rattle.attempts.specs.declared.Ask.{Ask}
use Rattle.attempts.specs.declared.Ask.TheVariants.{Stage}
use Rattle.refusals.specs.Answers.{Lent, Kind, derivative, Answer, refused, asked}
use Rattle.statistics.specs.Counters.{no_statistics}
use Rattle.statistics.specs.declared.StepStatistics.{StepStatistics}
use Rattle.rosenbrock.specs.Stepper.{Call, attempt, attempt_to, supply, accept, reject, System, stepped, make, made}
use Rattle.lists.specs.Run.{after}
use Rattle.lists.specs.Accepting.{is_done}
use Rattle.lists.specs.Opening.{memory, opens}
use Rattle.lists.specs.Caching.{supplies, awaited, derivative_came, partial_came, Caches, none_cached, cached_after, cached}

-- ---- requests and decisions

unfoldable pub of_derivative : Kind → Bool
of_derivative derivative = true
of_derivative kind = false

unfoldable pub asks_derivative : Answer → Bool
asks_derivative (asked r) = of_derivative r.kind
asks_derivative a = false

unfoldable pub is_accept : Call → Bool
is_accept (accept form) = true
is_accept c = false

unfoldable pub is_reject : Call → Bool
is_reject (reject form) = true
is_reject c = false

unfoldable pub is_stage : Ask → Bool
is_stage (Stage i) = true
is_stage a = false

unfoldable pub is_singular : Answer → Bool
is_singular (refused Singular) = true
is_singular a = false

-- the tableau's file that a call is handed
unfoldable pub file_of : Call → List ℕ
file_of (attempt file step jacobian partial) = file
file_of (attempt_to file endpoint proposal jacobian partial) = file
file_of (supply file values) = file
file_of c = []

-- ---- what is at hand in a call, where k is cached before it

module _ (k : Caches) (c : Call) (y : System) where
  -- the effective step of the attempt that the call opened or goes on with
  abbrev step : Float
  step = (stepped c y).system.stepper.progress.step

  -- the derivative at the accepted state: it is cached as an attempt over a step other than 0 opens, or it comes
  unfoldable pub derivative_at_hand : Bool
  derivative_at_hand = cond (opens c y) (not (eq step 𝟎) && k.derivative) (derivative_came c y)

  -- the Jacobian and the time partial, too: they are cached, or the last of them comes
  unfoldable pub differentiation_at_hand : Bool
  differentiation_at_hand = (derivative_at_hand && k.differentiation) || partial_came c y

  -- the matrix of the stages, from the Jacobian in the memory
  unfoldable pub matrix : List Float
  matrix = let n = y.stepper.fixed.n in stage_matrix (tableau_of (file_of c)) step n (part (jacobian_at n) (n * n) (memory y).work)

  unfoldable pub reaches_matrix : Bool
  reaches_matrix = differentiation_at_hand && all_finite matrix

  -- The first stage takes the derivative at the accepted state where its c is a zero, and nothing is asked for it: it is solved where the matrix has
  -- factors.
  unfoldable pub solves_first_at_once : Bool
  solves_first_at_once = reaches_matrix && (not (is_singular (stepped c y).answer) && eq (c_of (tableau_of (file_of c)) 0) 𝟎)

-- ---- the events of a call

pub record Events : Type 0 where
  pub attempt_opened : Bool
  -- by whatever request
  pub derivative_asked : Bool
  pub step_accepted : Bool
  pub step_rejected : Bool
  -- the derivative is at hand, and Jacobian and time partial are not cached
  pub jacobian_wanted : Bool
  -- Jacobian and time partial are at hand, and the matrix of the stages has finite entries only
  pub matrix_reached : Bool
  -- the derivative at a stage came, or the first stage needs none
  pub stage_solved : Bool

unfoldable pub events : Caches → Call → System → Events
events k c y =
    let answer = (stepped c y).answer in
    record {
      attempt_opened = opens c y;
      derivative_asked = asks_derivative answer;
      step_accepted = is_accept c && is_done answer;
      step_rejected = is_reject c && is_done answer;
      jacobian_wanted = derivative_at_hand k c y && not k.differentiation;
      matrix_reached = reaches_matrix k c y;
      stage_solved = (supplies c y && is_stage (awaited y)) || solves_first_at_once k c y;
    }

-- those of the calls of a list
unfoldable pub all_events : Caches → System → List Call → List Events
all_events k y [] = []
all_events k y (c ∷ cs) = events k c y ∷ all_events (cached_after k c y) (stepped c y).system cs

-- how many of them are such
unfoldable pub number : (Events → Bool) → List Events → ℕ
number such [] = 0
number such (e ∷ es) = cond (such e) 1 0 + number such es

-- ---- the law

-- 64 bits
abbrev pub largest : ℕ
largest = 2 ^ 64 - 1

-- a counter after so many more events: it stays at the largest value
abbrev pub saturating_sum : ℕ → ℕ → ℕ
saturating_sum old more = min (old + more) largest

-- over these events the counters t have become u
pub record GoesOn (es : List Events) (t u : StepStatistics) : Type 0 where
  pub attempts : u.attempts ≡ saturating_sum t.attempts (number (λ e. e.attempt_opened) es)
  pub rhs_evaluations : u.rhs_evaluations ≡ saturating_sum t.rhs_evaluations (number (λ e. e.derivative_asked) es)
  pub accepted_steps : u.accepted_steps ≡ saturating_sum t.accepted_steps (number (λ e. e.step_accepted) es)
  pub rejected_steps : u.rejected_steps ≡ saturating_sum t.rejected_steps (number (λ e. e.step_rejected) es)
  pub jacobian_evaluations : u.jacobian_evaluations ≡ saturating_sum t.jacobian_evaluations (number (λ e. e.jacobian_wanted) es)
  pub factorizations : u.factorizations ≡ saturating_sum t.factorizations (number (λ e. e.matrix_reached) es)
  pub linear_solves : u.linear_solves ≡ saturating_sum t.linear_solves (number (λ e. e.stage_solved) es)

pub record CountersTell (y : System) (before calls : List Call) : Type 0 where
  -- a making sets all counters to 0
  pub begins : y.stepper.statistics ≡ no_statistics
  -- and from any point of a list on they count; a reset leaves them
  pub goes_on : let z = after y before in
      GoesOn (all_events (cached none_cached y before) z calls) z.stepper.statistics (after z calls).stepper.statistics

-- for every making that is not refused, and every list of calls after any others
abbrev pub EveryCounter : Type 0
EveryCounter = (file : List ℕ) (policy : TimeDifferencePolicy) (time : Float) (lent : Lent) (y : System) → make file policy time lent ≡ made y
    → (before calls : List Call)
    → CountersTell y before calls
