-- What a call that is refused leaves, whatever record, memory and arguments are. Definitions only.
use Rattle.std.specs.Prelude.{◌≡◌, Bool, true, false, ◌&&◌, ◌||◌}
use Rattle.stepping.specs.declared.Refusal.{Refusal}
use Rattle.stepping.specs.declared.Refusal.TheVariants.{NonFinite, Direction, TimeResolution, Singular, HostFailure}
use Rattle.refusals.specs.Requests.{is_open}
use Rattle.refusals.specs.Answers.{refused}
use Rattle.statistics.specs.Counters.{one_more}
use Rattle.rosenbrock.specs.Stepper.{Call, System, stepped}
use Rattle.lists.specs.Claim.{Untouched}
use Rattle.lists.specs.Opening.{opens}

-- the refusals in which an attempt can end: 2, 4, 5, 6 and 19
unfoldable pub ends_attempts : Refusal → Bool
ends_attempts NonFinite = true
ends_attempts Direction = true
ends_attempts TimeResolution = true
ends_attempts Singular = true
ends_attempts HostFailure = true
ends_attempts refusal = false

-- the refusal closes an attempt: one was open, or the call opened it, and an attempt can end so
unfoldable pub closes : Refusal → Call → System → Bool
closes k c y = ends_attempts k && (is_open y.stepper.progress.request || opens c y)

-- z is y with its attempt closed, which the call opened or not
pub record Closed (opened : Bool) (y z : System) : Type 0 where
  -- nothing is asked, and no candidate is pending
  pub request : z.stepper.progress.request ≡ 0
  pub stage : z.stepper.progress.stage ≡ 0
  -- an attempt is counted as it opens, and it is neither an accepted nor a rejected step
  pub attempts : z.stepper.statistics.attempts ≡ one_more opened y.stepper.statistics.attempts
  pub accepted_steps : z.stepper.statistics.accepted_steps ≡ y.stepper.statistics.accepted_steps
  pub rejected_steps : z.stepper.statistics.rejected_steps ≡ y.stepper.statistics.rejected_steps
  -- n, s and the policy, the time and the state are as before
  pub fixed : z.stepper.fixed ≡ y.stepper.fixed
  pub time : z.stepper.progress.time ≡ y.stepper.progress.time
  pub state : z.lent.state ≡ y.lent.state
  -- and so is the work beyond the needed length
  pub untouched : Untouched y z

-- a call c that the stepper y refuses
pub record Refuses (k : Refusal) (c : Call) (y : System) : Type 0 where
  -- nothing changes: neither the record nor a number of the memory
  pub unchanged : closes k c y ≡ false → (stepped c y).system ≡ y
  pub closed : closes k c y ≡ true → Closed (opens c y) y (stepped c y).system

abbrev pub EveryRefusal : Type 0
EveryRefusal = (c : Call) (y : System) (k : Refusal) → (stepped c y).answer ≡ refused k → Refuses k c y
