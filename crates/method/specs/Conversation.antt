-- An attempt whose requests are answered by f, J and fₜ, and what is claimed of it. Definitions only.
use Rattle.std.specs.Prelude.{◌≡◌, ℕ, ◌*◌, Bool, cond, ◌&&◌, List, [], ◌∷◌, eqb, length, replicate, Float, Option, Some, None, Ok}
use Rattle.std.specs.Bool.{then_some}
use Rattle.std.proofs.Math.Option as logic
use Rattle.std.specs.Float.Ieee.{eq}
use Rattle.float.specs.Operators.{◌⊕◌, ◌⊖◌, 𝟎}
use Rattle.vector.specs.Parts.{part}
use Rattle.stepping.specs.declared.Refusal.{Refusal}
use Rattle.stepping.specs.Refusals.{first_of}
use Rattle.tableau.specs.Tableau.{present, stages_of}
use Rattle.tableau.specs.File.{tableau_of}
use Rattle.stages.specs.Layout.{current_at, time_partial_at, jacobian_at}
use Rattle.refusals.specs.declared.Fixed.{Fixed}
use Rattle.refusals.specs.declared.Progress.{Progress}
use Rattle.refusals.specs.Answers.{Lent, Request, Kind, derivative, jacobian, time_partial, kind_of, View, Answer, refused, asked, shown}
use Rattle.refusals.specs.Tests.{attempt_tests, step_tests}
use Rattle.rosenbrock.specs.Stepper.{attempt, supply, System, Next, needed, trimmed, stepped}
use Rattle.method.specs.Step.{Problem, Answers, Attempted, Caches, Evaluated, evaluated, stages, derivatives, candidate, error}
use Rattle.method.specs.Schedule.{schedule, asks_for, ends_in}

-- ---- the conversation

-- the host's answer to a request
unfoldable pub answer_to : Problem → Kind → Float → List Float → List Float
answer_to p derivative t y = p.f t y
answer_to p jacobian t y = p.J t y
answer_to p time_partial t y = p.fₜ t y

-- After a call that left `next` the host is asked for just these evaluations, in this order, and supplies each of them; the last call answers `last`.
unfoldable pub Conversation : List ℕ → Problem → List Request → Next → Answer → Type 0
Conversation file p [] next last = next.answer ≡ last
Conversation file p (r ∷ rs) next last =
    (next.answer ≡ asked r) × Conversation file p rs (stepped (supply file (answer_to p r.kind r.time r.state)) next.system) last

-- ---- the step that is shown

module _ (p : Attempted) (end : Float) where
  -- only for the embedded estimator with btilde
  unfoldable pub shown_error : List Float → logic.Option (List Float)
  shown_error x = let counts = p.tableau.counts in cond (eqb counts.estimator 0 && present counts) (logic.some x) logic.none

  unfoldable pub step_view : Evaluated → View
  step_view e =
      record {
        previous = p.y;
        start = p.t;
        end = end;
        candidate = candidate p e;
        error = shown_error (error p e);
        stages = stages p e (stages_of p.tableau);
        rhs_stages = derivatives p e (stages_of p.tableau);
        jacobian = e.J;
        time_partial = e.fₜ;
      }

  -- at the step 0 the candidate is the state
  unfoldable pub rest_view : View
  rest_view =
      record {
        previous = p.y;
        start = p.t;
        end = end;
        candidate = p.y;
        error = shown_error (replicate p.n 𝟎);
        stages = [];
        rhs_stages = [];
        jacobian = [];
        time_partial = [];
      }

  unfoldable pub last_answer : Option Refusal → Evaluated → Answer
  last_answer (Some refusal) e = refused refusal
  last_answer None e = shown (step_view e)

  -- what is asked for, and the last answer: at the step 0 nothing is asked
  unfoldable pub requests_of : Caches → List Request
  requests_of c = cond (eq p.h 𝟎) [] (asks_for (schedule p c))

  unfoldable pub answer_of : Caches → Answer
  answer_of c = cond (eq p.h 𝟎) (shown rest_view) (last_answer (ends_in (schedule p c)) (evaluated p c))

-- ---- the claim

-- f, J and fₜ give n, n² and n numbers
pub record Sized (n : ℕ) (p : Problem) : Type 0 where
  pub of_f : (t : Float) (y : List Float) → length (p.f t y) ≡ n
  pub of_J : (t : Float) (y : List Float) → length (p.J t y) ≡ n * n
  pub of_fₜ : (t : Float) (y : List Float) → length (p.fₜ t y) ≡ n

-- what the record and the work have cached
unfoldable pub caches_in : Fixed → Progress → Lent → Caches
caches_in fx x m =
    let n = fx.n in
    record {
      derivative = then_some x.memo.derivative_valid (part (current_at n) n m.work);
      differentiation =
          then_some x.memo.differentiation_valid
          (record { J = part (jacobian_at n) (n * n) m.work; fₜ = part (time_partial_at n) n m.work });
    }

-- the step that an attempt with the step handed over is about: its h is the effective step
abbrev pub attempted_with : Fixed → List ℕ → Answers → Float → Bool → Bool → Progress → Lent → Attempted
attempted_with fx file answer step host_J host_fₜ x m =
    record {
      answer = answer;
      tableau = tableau_of file;
      policy = fx.policy;
      n = fx.n;
      t = x.time;
      h = (x.time ⊕ step) ⊖ x.time;
      y = m.state;
      host_jacobian = host_J;
      host_time_partial = host_fₜ;
    }

-- where f, J and fₜ answer, whatever else was asked
unfoldable pub attempted_by : Fixed → List ℕ → Problem → Float → Bool → Bool → Progress → Lent → Attempted
attempted_by fx file problem step host_J host_fₜ x m = attempted_with fx file (λ a. answer_to problem (kind_of a)) step host_J host_fₜ x m

-- An attempt that opens and whose requests are answered by f, J and fₜ asks for exactly the evaluations of its step, in order, less what is cached,
-- and shows exactly that step, or ends in the refusal of the first test that holds.
abbrev pub AttemptIsStep : Type 0
AttemptIsStep = (file : List ℕ) (problem : Problem) (step : Float) (host_J host_fₜ : Bool) (y : System)
    → let fx = y.stepper.fixed in
    let x = y.stepper.progress in
    let m = trimmed (needed fx) y.lent in
    let p = attempted_by fx file problem step host_J host_fₜ x m in
    let c = caches_in fx x m in
    first_of (attempt_tests fx file x m) ≡ Ok tt
    → first_of (step_tests step x) ≡ Ok tt
    → Sized fx.n problem
    → Conversation file problem (requests_of p (x.time ⊕ step) c) (stepped (attempt file step host_J host_fₜ) y) (answer_of p (x.time ⊕ step) c)
