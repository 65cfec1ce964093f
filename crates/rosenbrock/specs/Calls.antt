-- Each call on the record and the needed memory. No call reads a counter: it hands back what is to be counted. Definitions only.
use Rattle.std.specs.Prelude.{ℕ, Bool, true, false, List, length, replicate, Float, Result, Ok, Err}
use Rattle.float.specs.Operators.{◌⊕◌, 𝟎}
use Rattle.vector.specs.Lists.{el}
use Rattle.vector.specs.Parts.{puts}
use Rattle.stepping.specs.declared.Refusal.{Refusal}
use Rattle.stepping.specs.declared.Refusal.TheVariants.{HostFailure}
use Rattle.stepping.specs.Refusals.{Test, first_of, unless_refused}
use Rattle.stepping.specs.Time.{endpoint_step}
use Rattle.tableau.specs.File.{tableau_of}
use Rattle.stages.specs.Layout.{current_at}
use Rattle.attempts.specs.declared.Memo.{Memo}
use Rattle.attempts.specs.Marks.{Counted}
use Rattle.attempts.specs.Marks.{with_caches, nothing_counted, one_attempt, one_accepted, one_rejected}
use Rattle.attempts.specs.Attempt.{Given, given, Scratch, scratch, Stopped, start, resume}
use Rattle.refusals.specs.declared.Fixed.{Fixed}
use Rattle.refusals.specs.declared.Progress.{Progress}
use Rattle.refusals.specs.Requests.{ask_of, request_after, stage_after}
use Rattle.refusals.specs.Answers.{Lent, lending, Answer, refused, done, candidate_of, answer_of}
use Rattle.phases.specs.Phases.{setting_by, opening, memo_accepted, fresh}
use Rattle.refusals.specs.Tests.{attempt_tests, step_tests, supply_tests, fail_tests, decision_tests, inject_tests, reset_tests}

-- what a call leaves
pub record Out : Type 0 where
  pub progress : Progress
  pub lent : Lent
  pub counted : Counted
  pub answer : Answer

-- a refusal that changes nothing
unfoldable pub refusal : Progress → Lent → Refusal → Out
refusal x m r = record { progress = x; lent = m; counted = nothing_counted; answer = refused r }

-- the first test that holds refuses; else it goes on
unfoldable pub guarded : List Test → Progress → Lent → Out → Out
guarded tests x m o = unless_refused (refusal x m) (first_of tests) o

-- ---- an open attempt

-- what it reads
unfoldable pub given_by : Fixed → List ℕ → Progress → Lent → Given
given_by fx file x m = given (setting_by fx x) (tableau_of file) m.state

-- what it may change, with what the call has counted so far
unfoldable pub scratch_by : Counted → Progress → Lent → Scratch
scratch_by c x m = scratch (record { memo = x.memo; counted = c }) m.work m.pivots

-- the record where it stopped
unfoldable pub progress_after : Progress → Memo → ℕ → ℕ → Progress
progress_after x memo request stage =
    record {
      time = x.time;
      step = x.step;
      end = x.end;
      host_jacobian = x.host_jacobian;
      host_time_partial = x.host_time_partial;
      request = request;
      stage = stage;
      memo = memo;
    }

unfoldable pub settle : Fixed → Progress → Lent → Stopped → Out
settle fx x m r =
    let marks = r.stop.marks in
    let ending = r.stop.ending in
    let x' = progress_after x marks.memo (request_after ending) (stage_after ending) in
    let m' = lending m.state r.work r.pivots in
    record { progress = x'; lent = m'; counted = marks.counted; answer = answer_of fx x' m' ending }

-- ---- attempt, attempt_to

unfoldable pub opened : Fixed → List ℕ → Progress → Lent → Out
opened fx file x m = settle fx x m (start (given_by fx file x m) (scratch_by one_attempt x m))

-- from 14 on
unfoldable pub attempt_by : Fixed → List ℕ → Float → Bool → Bool → Progress → Lent → Out
attempt_by fx file step jacobian partial x m = guarded (step_tests step x) x m (opened fx file (opening step jacobian partial x) m)

unfoldable pub attempt_of : Fixed → List ℕ → Float → Bool → Bool → Progress → Lent → Out
attempt_of fx file step jacobian partial x m = guarded (attempt_tests fx file x m) x m (attempt_by fx file step jacobian partial x m)

-- endpoint_step comes before 14
unfoldable pub towards : Result Float Refusal → Fixed → List ℕ → Bool → Bool → Progress → Lent → Out
towards (Ok step) fx file jacobian partial x m = attempt_by fx file step jacobian partial x m
towards (Err r) fx file jacobian partial x m = refusal x m r

unfoldable pub attempt_to_of : Fixed → List ℕ → Float → Float → Bool → Bool → Progress → Lent → Out
attempt_to_of fx file endpoint proposal jacobian partial x m =
    guarded (attempt_tests fx file x m) x m (towards (endpoint_step x.time endpoint proposal) fx file jacobian partial x m)

-- ---- supply, fail

unfoldable pub supply_of : Fixed → List ℕ → List Float → Progress → Lent → Out
supply_of fx file values x m =
    guarded (supply_tests fx file values x m) x m
    (settle fx x m (resume (given_by fx file x m) (ask_of x.request x.stage) values (scratch_by nothing_counted x m)))

-- the attempt is closed, and nothing else changes
unfoldable pub failed : Progress → Lent → Out
failed x m = record { progress = progress_after x x.memo 0 0; lent = m; counted = nothing_counted; answer = refused HostFailure }

unfoldable pub fail_of : Fixed → Progress → Lent → Out
fail_of fx x m = guarded (fail_tests fx x m) x m (failed x m)

-- ---- accept, reject

unfoldable pub accepted : Fixed → Progress → Lent → Out
accepted fx x m =
    record {
      progress =
          record {
            time = x.time ⊕ x.step;
            step = x.step;
            end = x.end;
            host_jacobian = x.host_jacobian;
            host_time_partial = x.host_time_partial;
            request = 0;
            stage = 0;
            memo = memo_accepted x;
          };
      lent = lending (candidate_of fx m) m.work m.pivots;
      counted = one_accepted;
      answer = done;
    }

unfoldable pub accept_of : Fixed → Progress → Lent → Out
accept_of fx x m = guarded (decision_tests fx x m) x m (accepted fx x m)

unfoldable pub rejected : Progress → Lent → Out
rejected x m = record { progress = progress_after x x.memo 0 0; lent = m; counted = one_rejected; answer = done }

unfoldable pub reject_of : Fixed → Progress → Lent → Out
reject_of fx x m = guarded (decision_tests fx x m) x m (rejected x m)

-- ---- inject_derivative, reset

-- the derivative holds, and the differentiation no longer does
unfoldable pub injected : Fixed → List Float → Progress → Lent → Out
injected fx derivative x m =
    record {
      progress = progress_after x (with_caches true false x.memo) x.request x.stage;
      lent = lending m.state (puts m.work (current_at fx.n) (el derivative) fx.n) m.pivots;
      counted = nothing_counted;
      answer = done;
    }

unfoldable pub inject_of : Fixed → List Float → Progress → Lent → Out
inject_of fx derivative x m = guarded (inject_tests fx derivative x m) x m (injected fx derivative x m)

unfoldable pub cleared : List Float → Lent → Lent
cleared state m = lending state (replicate (length m.work) 𝟎) (replicate (length m.pivots) 0)

unfoldable pub restarted : Float → List Float → Lent → Out
restarted time state m = record { progress = fresh time; lent = cleared state m; counted = nothing_counted; answer = done }

unfoldable pub reset_of : Fixed → Float → List Float → Progress → Lent → Out
reset_of fx time state x m = guarded (reset_tests fx time state x m) x m (restarted time state m)
