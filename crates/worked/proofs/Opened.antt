-- The definitions that a run of the stepper computes with. `unfolding computing` opens all that the lines here name; the values are of no account.
-- Assumes nothing.
use lib.Ieee as ieee
use Rattle.float.specs.Methods as number
use Rattle.float.specs.Counter as counter
use Rattle.vector.specs.Lists as elements
use Rattle.vector.specs.Parts as parts
use Rattle.vector.specs.Matrices as matrices
use Rattle.stepping.specs.Refusals as refusals
use Rattle.stepping.specs.Time as time
use Rattle.time_difference.specs.Policy as policy
use Rattle.time_difference.specs.Probes as probes
use Rattle.linear.specs.Elimination as elimination
use Rattle.linear.specs.Substitution as substitution
use Rattle.linear.specs.Calls as linear
use Rattle.codec.specs.Little as little
use Rattle.tableau.specs.Tableau as tableau
use Rattle.tableau.specs.File as file
use Rattle.stages.specs.Layout as layout
use Rattle.stages.specs.Method as method
use Rattle.stages.specs.Memory as work
use Rattle.differentiation.specs.Differences as differences
use Rattle.differentiation.specs.Memory as differenced
use Rattle.attempts.specs.Marks as marks
use Rattle.attempts.specs.Attempt as attempt
use Rattle.refusals.specs.Requests as requests
use Rattle.refusals.specs.Answers as answers
use Rattle.refusals.specs.Tests as tests
use Rattle.phases.specs.Phases as phases
use Rattle.rosenbrock.specs.Calls as call
use Rattle.statistics.specs.Counters as counters
use Rattle.rosenbrock.specs.Stepper as stepper
use Rattle.lists.specs.Run as run

-- the arithmetic of IEEE 754, the methods of f64, a counter
unfoldable pub floats : Unit {0}
unfolding ieee.add ieee.sub ieee.mul ieee.div ieee.lt ieee.le ieee.eq ieee.ne ieee.is_nan ieee.of_int ieee.of_bits ieee.to_bits number.abs number.signum counter.saturating_increment
floats = tt

-- vectors and matrices
unfoldable pub vectors : Unit {0}
unfolding elements.table elements.every elements.all_finite parts.puts parts.puts_column matrices.rows
vectors = tt

-- refusals, times, probes of the time partial
unfoldable pub times : Unit {0}
unfolding refusals.first_of refusals.unless_refused time.checked_time time.points_away time.clipped time.if_reached time.endpoint_step policy.default_policy policy.out_of_range policy.outside policy.refusal policy.endpoint policy.spacing policy.probes probes.adjacent probes.first_probe probes.second_probe probes.missed probes.placed probes.parabola probes.partial
times = tt

-- elimination and substitution
unfoldable pub systems : Unit {0}
unfolding elimination.largest elimination.scale elimination.threshold elimination.unusable elimination.largest_row elimination.stepped elimination.eliminated elimination.steps_done substitution.interchanges substitution.less_products substitution.forward_substitution substitution.back_substitution substitution.solution linear.elimination_of linear.raw_of
systems = tt

-- the tableau and its file
unfoldable pub files : Unit {0}
unfolding little.little little.bytes_of little.bytes_of_all tableau.triangle tableau.if_present tableau.how_many tableau.in_range tableau.allowed_at tableau.valid tableau.stages_of tableau.of_part tableau.gamma_of tableau.a_of tableau.coupling_of tableau.c_of tableau.d_of tableau.b_of tableau.btilde_of file.header file.file_of file.number file.counts_of file.coefficients_of file.matches file.accepts
files = tt

-- the stages and the differences
unfoldable pub methods : Unit {0}
unfolding layout.needed_work method.plus_multiple method.plus_multiples method.plus_products method.stage_state method.stage_time method.right_hand_side method.stage_matrix method.stage_value method.error_weight work.with_stage_state work.with_right_hand_side work.with_solution work.with_stage work.with_stage_solved work.with_added work.with_stage_added work.with_matrix work.with_factors differences.risen differences.rise differences.probe_state differences.quotient differenced.with_probe_state differenced.with_column differenced.with_partial
methods = tt

-- an open attempt
unfoldable pub attempts : Unit {0}
unfolding marks.with_caches marks.with_derivative marks.with_differentiation marks.with_error_shown marks.with_probes marks.with_request_time marks.counting_rhs marks.counting_jacobian marks.counting_factorization marks.counting_solve marks.noting marks.counting attempt.on_work attempt.on_marks attempt.halt attempt.refuse attempt.ask attempt.ask_rhs attempt.choose attempt.provided attempt.show attempt.finish attempt.ask_stage attempt.open_stage attempt.next_stage attempt.solve_stage attempt.first_stage attempt.factor attempt.partial_done attempt.combine attempt.ask_first_probe attempt.ask_partial attempt.jacobian_done attempt.open_column attempt.next_column attempt.ask_jacobian attempt.differentiate attempt.begun attempt.evaluate attempt.start attempt.written attempt.resume attempt.wanted
attempts = tt

-- the calls, and lists of them
unfoldable pub calls : Unit {0}
unfolding requests.is_pending requests.is_open requests.ask_of requests.ask_number requests.ask_stage requests.request_after requests.stage_after requests.request_fits answers.kind_of answers.state_asked answers.request_of answers.candidate_of answers.error_shown answers.shown_part answers.stages_shown answers.rhs_stages_shown answers.jacobian_shown answers.time_partial_shown answers.view_of answers.answer_of tests.shape_fits tests.pivots_unfit call.refusal call.guarded call.given_by call.scratch_by call.progress_after call.settle phases.opening call.opened call.attempt_by call.attempt_of call.towards call.attempt_to_of call.supply_of call.failed call.fail_of phases.memo_accepted call.accepted call.accept_of call.rejected call.reject_of call.injected call.inject_of phases.fresh call.cleared call.restarted call.reset_of stepper.called counters.one_more counters.tallied stepper.needed stepper.trimmed stepper.untrimmed stepper.result stepper.stepped stepper.fixed_by stepper.made_of stepper.make run.after run.accepted_in run.seen run.run
calls = tt

-- all of them
unfoldable pub computing : Unit {0}
unfolding floats vectors times systems files methods attempts calls
computing = tt
