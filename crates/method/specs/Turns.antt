-- An attempt for a host of which nothing is supposed: it need be no function of time and state. It is known by the calls that it makes while a request
-- stands; the values that it supplies, call after call, are what the step is made of. Definitions only.
use Rattle.std.specs.Prelude.{◌≡◌, ℕ, suc, ◌+◌, ◌-◌, ◌*◌, Bool, true, false, not, cond, ◌&&◌, List, [], ◌∷◌, eqb, length, get_or, Float, Option, Some, None, is_some, Result, Ok, Err, is_ok}
use Rattle.std.specs.Float.Ieee.{eq}
use Rattle.float.specs.Operators.{◌⊕◌, 𝟎}
use Rattle.vector.specs.Lists.{el, table}
use Rattle.stepping.specs.declared.Refusal.{Refusal}
use Rattle.stepping.specs.declared.Refusal.TheVariants.{HostFailure}
use Rattle.stepping.specs.Refusals.{first_of}
use Rattle.stepping.specs.Time.{endpoint_step}
use Rattle.time_difference.specs.Policy.{probes}
use Rattle.tableau.specs.Tableau.{c_of}
use Rattle.attempts.specs.declared.Ask.{Ask}
use Rattle.attempts.specs.declared.Ask.TheVariants.{Derivative, Jacobian, TimePartial, FirstProbe, SecondProbe, Column, Stage}
use Rattle.attempts.specs.Attempt.{wanted}
use Rattle.refusals.specs.declared.Fixed.{Fixed}
use Rattle.refusals.specs.declared.Progress.{Progress}
use Rattle.refusals.specs.Answers.{Lent, Request, Kind, derivative, jacobian, time_partial, Answer, refused, asked, shown, told, done}
use Rattle.refusals.specs.Tests.{file_tests, attempt_tests, step_tests}
use Rattle.rosenbrock.specs.Stepper.{Call, attempt, attempt_to, supply, fail, accept, reject, inject_derivative, reset, read, System, Next, needed, trimmed, stepped}
use Rattle.method.specs.Step.{Answers, Attempted, Caches}
use Rattle.method.specs.Conversation.{requests_of, answer_of, caches_in, attempted_with}

-- ---- the order of a step's requests: for the derivative, for the Jacobian or its columns, for the time partial or its probes, for the stages, less what
-- is cached

unfoldable pub probe_count : Result (Float × Option Float) Refusal → ℕ
probe_count (Ok (a, None)) = 1
probe_count (Ok (a, Some b)) = 2
probe_count (Err refusal) = 0

module _ (p : Attempted) (c : Caches) where
  -- how many come before
  unfoldable pub before_jacobian : ℕ
  before_jacobian = cond (is_some c.derivative) 0 1

  unfoldable pub before_partial : ℕ
  before_partial = before_jacobian + cond p.host_jacobian 1 p.n

  unfoldable pub before_stages : ℕ
  before_stages =
      cond (is_some c.differentiation) before_jacobian
      (before_partial + cond p.host_time_partial 1 (probe_count (probes p.policy p.t p.h)))

  -- the place of each, from 0; none is for the first stage where its c is a zero
  unfoldable pub place : Ask → ℕ
  place Derivative = 0
  place Jacobian = before_jacobian
  place (Column k) = before_jacobian + k
  place TimePartial = before_partial
  place FirstProbe = before_partial
  place SecondProbe = suc before_partial
  place (Stage i) = before_stages + cond (eq (c_of p.tableau 0) 𝟎) (i - 1) i

-- the answers are vs, in that order, each of as many values as are asked for: a supply of another length is refused, and answers nothing
unfoldable pub in_turn : ℕ → (Ask → ℕ) → List (List Float) → Answers
in_turn n place vs a t y = table (el (get_or vs (place a) [])) (wanted n a)

-- the step of an attempt whose requests they answer; the order is the same whatever is answered
unfoldable pub attempted_from : Fixed → List ℕ → List (List Float) → Float → Bool → Bool → Progress → Lent → Attempted
attempted_from fx file vs step host_J host_fₜ x m =
    let order = place (attempted_with fx file (λ a t y. []) step host_J host_fₜ x m) (caches_in fx x m) in
    attempted_with fx file (in_turn fx.n order vs) step host_J host_fₜ x m

-- ---- what the host does while a request stands

pub data Turn : Type 0 where
  -- it supplies values, as many as are asked for, with the attempt's file
  supplies : List Float → Turn
  -- it reports that it cannot
  fails : Turn
  -- it makes another call
  calls : Call → Turn

unfoldable pub answers_in : List Turn → List (List Float)
answers_in [] = []
answers_in (supplies v ∷ ts) = v ∷ answers_in ts
answers_in (fails ∷ ts) = answers_in ts
answers_in (calls c ∷ ts) = answers_in ts

-- how many values a request asks for
unfoldable pub values_for : ℕ → Kind → ℕ
values_for n derivative = n
values_for n jacobian = n * n
values_for n time_partial = n

-- a call that neither answers a request of that kind nor reports a failure; a supply of another length, or with a file that is refused, is one
unfoldable pub beside : Fixed → Kind → Call → Bool
beside fx kind (attempt file step host_jacobian host_time_partial) = true
beside fx kind (attempt_to file endpoint proposal host_jacobian host_time_partial) = true
beside fx kind (supply file values) = not (is_ok (first_of (file_tests fx.s file)) && eqb (length values) (values_for fx.n kind))
beside fx kind fail = false
beside fx kind (accept form) = true
beside fx kind (reject form) = true
beside fx kind (inject_derivative values) = true
beside fx kind (reset time state) = true
beside fx kind (read query) = true

-- a refusal, or what a reader tells
unfoldable pub refused_or_told : Answer → Bool
refused_or_told (refused refusal) = true
refused_or_told (told reply) = true
refused_or_told (asked r) = false
refused_or_told (shown view) = false
refused_or_told done = false

-- a call that does nothing: the record and the memory are as they were
pub record Idle (c : Call) (y : System) : Type 0 where
  pub answer : Answer
  pub is_idle : refused_or_told answer ≡ true
  pub leaves : stepped c y ≡ record { system = y; answer = answer }

-- a report of failure: the attempt is closed, and all else is as it was
unfoldable pub closed : System → Next
closed y =
    record {
      system =
          record {
            stepper = record y.stepper { progress = record y.stepper.progress { request = 0; stage = 0 } };
            lent = y.lent;
          };
      answer = refused HostFailure;
    }

-- What the host does after a call that left `next`. It is asked for just rs, in this order, and supplies its answer to each; until it does, the request
-- stands. A failure that it reports closes the attempt. Any other call leaves all as it was. The last supply answers `last`.
unfoldable pub Exchange : List ℕ → List Turn → List Request → Next → Answer → Type 0
Exchange file [] [] next last = next.answer ≡ last
Exchange file [] (r ∷ rs) next last = next.answer ≡ asked r
Exchange file (t ∷ ts) [] next last = next.answer ≡ last
Exchange file (supplies v ∷ ts) (r ∷ rs) next last =
    (next.answer ≡ asked r)
    × (length v ≡ values_for next.system.stepper.fixed.n r.kind → Exchange file ts rs (stepped (supply file v) next.system) last)
Exchange file (fails ∷ ts) (r ∷ rs) next last = (next.answer ≡ asked r) × (stepped fail next.system ≡ closed next.system)
Exchange file (calls c ∷ ts) (r ∷ rs) next last =
    (next.answer ≡ asked r)
    × (beside next.system.stepper.fixed r.kind c ≡ true → Idle c next.system × Exchange file ts (r ∷ rs) next last)

-- ---- the claim

-- After an attempt that opens, whatever the host does, it is asked for exactly the evaluations of the step that its answers make, in order, less what is
-- cached, and is shown exactly that step, or the attempt ends in the refusal of the first test that holds.
abbrev pub AttemptIsStepOfItsAnswers : Type 0
AttemptIsStepOfItsAnswers = (file : List ℕ) (step : Float) (host_J host_fₜ : Bool) (y : System) (turns : List Turn)
    → let fx = y.stepper.fixed in
    let x = y.stepper.progress in
    let m = trimmed (needed fx) y.lent in
    let p = attempted_from fx file (answers_in turns) step host_J host_fₜ x m in
    let c = caches_in fx x m in
    first_of (attempt_tests fx file x m) ≡ Ok tt
    → first_of (step_tests step x) ≡ Ok tt
    → Exchange file turns (requests_of p (x.time ⊕ step) c) (stepped (attempt file step host_J host_fₜ) y) (answer_of p (x.time ⊕ step) c)

-- an attempt_to whose step endpoint_step gives is the attempt by that step
abbrev pub AttemptToIsAttempt : Type 0
AttemptToIsAttempt = (file : List ℕ) (endpoint proposal step : Float) (host_J host_fₜ : Bool) (y : System)
    → endpoint_step y.stepper.progress.time endpoint proposal ≡ Ok step
    → stepped (attempt_to file endpoint proposal host_J host_fₜ) y ≡ stepped (attempt file step host_J host_fₜ) y
