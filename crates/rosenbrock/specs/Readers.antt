-- The calls that only read the record and the memory lent with it. Definitions only.
use Rattle.std.specs.Prelude.{ℕ, Bool, not, cond, ◌||◌, List, [], ◌∷◌, ◌++◌, eqb, ltb, Float}
use Rattle.std.proofs.Math.Option.{Option, none, some}
use Rattle.std.specs.Float.Ieee.{eq}
use Rattle.float.specs.Operators.{𝟎}
use Rattle.vector.specs.Parts.{part}
use Rattle.stepping.specs.declared.Refusal.TheVariants.{Dimension}
use Rattle.stepping.specs.Refusals.{Test, ◌when◌}
use Rattle.stages.specs.Layout.{current_at, stage_at, rhs_stage_at}
use Rattle.attempts.specs.Marks.{nothing_counted}
use Rattle.refusals.specs.declared.Fixed.{Fixed}
use Rattle.refusals.specs.declared.Progress.{Progress}
use Rattle.refusals.specs.Requests.{ask_of}
use Rattle.refusals.specs.Answers.{Lent, Reply, number, vector, absent, request, statistics, told, request_of, candidate_of, error_shown, stages_shown, rhs_stages_shown, jacobian_shown, time_partial_shown}
use Rattle.refusals.specs.Tests.{fit_tests, open_test, candidate_test, request_test}
use Rattle.rosenbrock.specs.Calls.{Out, guarded}

pub data Query : Type 0 where
  -- what is asked of the host
  the_request : Query
  -- the accepted time and state, the derivative there if it is cached, the statistics
  the_time the_state the_derivative the_statistics : Query
  -- copy_state_into an output of that length
  the_copy : ℕ → Query
  -- of a pending step
  the_start the_end the_candidate the_error the_stages the_rhs_stages the_jacobian the_time_partial : Query
  the_stage the_rhs_stage : ℕ → Query

-- an index that is no stage, and any index at the step 0
unfoldable pub no_stage : Fixed → Progress → ℕ → Bool
no_stage fx x i = not (ltb i fx.s) || eq x.step 𝟎

abbrev of_record : Progress → List Test
of_record x = open_test x ∷ []

abbrev of_step : Progress → List Test
of_step x = open_test x ∷ candidate_test x ∷ []

-- after 1: 17 for the request, 18 for the others; then 15 for those of a step; then 1 for a length or an index
unfoldable pub query_tests : Query → Fixed → Progress → List Test
query_tests the_request fx x = request_test x ∷ []
query_tests the_time fx x = of_record x
query_tests the_state fx x = of_record x
query_tests the_derivative fx x = of_record x
query_tests the_statistics fx x = of_record x
query_tests (the_copy k) fx x = open_test x ∷ (Dimension when not (eqb k fx.n)) ∷ []
query_tests the_start fx x = of_step x
query_tests the_end fx x = of_step x
query_tests the_candidate fx x = of_step x
query_tests the_error fx x = of_step x
query_tests the_stages fx x = of_step x
query_tests the_rhs_stages fx x = of_step x
query_tests the_jacobian fx x = of_step x
query_tests the_time_partial fx x = of_step x
query_tests (the_stage i) fx x = open_test x ∷ candidate_test x ∷ (Dimension when no_stage fx x i) ∷ []
query_tests (the_rhs_stage i) fx x = open_test x ∷ candidate_test x ∷ (Dimension when no_stage fx x i) ∷ []

unfoldable pub optional : Option (List Float) → Reply
optional none = absent
optional (some v) = vector v

unfoldable pub derivative_cached : Fixed → Progress → Lent → Option (List Float)
derivative_cached fx x m = cond x.memo.derivative_valid (some (part (current_at fx.n) fx.n m.work)) none

unfoldable pub reply : Query → Fixed → Progress → Lent → Reply
reply the_request fx x m = request (request_of fx x m (ask_of x.request x.stage))
reply the_time fx x m = number x.time
reply the_state fx x m = vector m.state
reply the_derivative fx x m = optional (derivative_cached fx x m)
reply the_statistics fx x m = statistics
reply (the_copy k) fx x m = vector m.state
reply the_start fx x m = number x.time
reply the_end fx x m = number x.end
reply the_candidate fx x m = vector (candidate_of fx m)
reply the_error fx x m = optional (error_shown fx x m)
reply the_stages fx x m = vector (stages_shown fx x m)
reply the_rhs_stages fx x m = vector (rhs_stages_shown fx x m)
reply the_jacobian fx x m = vector (jacobian_shown fx x m)
reply the_time_partial fx x m = vector (time_partial_shown fx x m)
reply (the_stage i) fx x m = vector (part (stage_at fx.n i) fx.n m.work)
reply (the_rhs_stage i) fx x m = vector (part (rhs_stage_at fx.n fx.s i) fx.n m.work)

-- a reader changes nothing
unfoldable pub answered : Query → Fixed → Progress → Lent → Out
answered q fx x m = record { progress = x; lent = m; counted = nothing_counted; answer = told (reply q fx x m) }

unfoldable pub read_of : Query → Fixed → Progress → Lent → Out
read_of q fx x m = guarded (fit_tests fx x m ++ query_tests q fx x) x m (answered q fx x m)
