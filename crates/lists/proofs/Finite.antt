-- In a list of calls the accepted state is finite, and so is a pending candidate. Assumes nothing.
use Prim.Native.Nat.{ℕ, suc, ◌*◌, ◌≤◌}
use native.Mathlib.Omega.{arith}
use mathlib.Core.Path.{◌≡◌, refl, sym, ap, ◌∙◌, subst}
use mathlib.Core.Bool.{Bool, true, false}
use mathlib.Core.List.{List, [], ◌∷◌}
use mathlib.Core.Logic.{inl}
use lib.ListN.{length}
use lib.Ieee.{Float, nan}
use Rattle.float.specs.Operators.{𝟎}
use Rattle.float.proofs.Cases.{never}
use Rattle.std.specs.Prelude.{Option, Result, Ok, Err}
use Rattle.vector.specs.Lists.{el, all_finite}
use Rattle.vector.specs.Parts.{part, puts}
use Rattle.vector.proofs.Parts.{part_left, part_stored}
use Rattle.vector.proofs.Stores.{length-puts}
use Rattle.stepping.specs.declared.Refusal.{Refusal}
use Rattle.stepping.specs.declared.Refusal.TheVariants.{Dimension, NonFinite, TableauFile}
use Rattle.stepping.specs.Refusals.{Test, first_of}
use Rattle.stepping.specs.Time.{endpoint_step}
use Rattle.stepping.proofs.Refusals.{held}
use Rattle.time_difference.specs.declared.TimeDifferencePolicy.{TimeDifferencePolicy}
use Rattle.tableau.specs.Tableau.{stages_of}
use Rattle.tableau.specs.File.{tableau_of, accepts}
use Rattle.stages.specs.Layout.{candidate_at, error_at, needed_work}
use Rattle.attempts.specs.declared.Ask.{Ask}
use Rattle.attempts.specs.declared.Ask.TheVariants.{Derivative, Jacobian, TimePartial, FirstProbe, SecondProbe, Column, Stage}
use Rattle.attempts.specs.Marks.{nothing_counted, one_attempt}
use Rattle.attempts.specs.Attempt.{Ending, Asks, Ends, Shows, Given, Scratch, Stopped, on_work, on_marks, halt, refuse, ask, ask_rhs, choose, provided, show, finish, ask_stage, open_stage, next_stage, solve_stage, first_stage, factor, partial_done, combine, ask_first_probe, ask_partial, jacobian_done, open_column, next_column, ask_jacobian, differentiate, begun, evaluate, start, resume}
use Rattle.refusals.specs.declared.Fixed.{Fixed}
use Rattle.refusals.specs.declared.Progress.{Progress}
use Rattle.refusals.specs.Requests.{is_pending, ask_of, request_after}
use Rattle.refusals.specs.Answers.{Lent, candidate_of}
use Rattle.refusals.specs.Tests.{step_tests, making_tests, shape_fits}
use Rattle.refusals.proofs.Fitting.{LentShape, fits_passed}
use Rattle.refusals.proofs.Requests.{asked_not_pending}
use Rattle.refusals.proofs.Passed.{decision_passed, inject_passed, reset_passed}
use Rattle.phases.specs.Phases.{opening, fresh}
use Rattle.rosenbrock.specs.Calls.{Out, refusal, guarded, given_by, scratch_by, progress_after, settle, opened, attempt_by, attempt_of, towards, attempt_to_of, supply_of, failed, fail_of, accepted, accept_of, rejected, reject_of, injected, inject_of, cleared, restarted, reset_of}
use Rattle.rosenbrock.specs.Readers.{answered, read_of}
use Rattle.rosenbrock.specs.Stepper.{Call, attempt, attempt_to, supply, fail, accept, reject, inject_derivative, reset, read, called, System, needed, trimmed, untrimmed, result, stepped, fixed_by, made, made_of, make}
use Rattle.rosenbrock.proofs.Guards.{guarded_either}
use Rattle.rosenbrock.proofs.Memory.{memory_after}
use Rattle.lists.specs.Run.{after}
use Rattle.lists.specs.Opening.{memory}
use Rattle.lists.specs.Finite.{AlwaysFinite}
use Rattle.lists.proofs.Fresh.{made_is, made_passed}
use Rattle.lists.proofs.Tallied.{choose_either, provided_either}

-- ---- how an open attempt stops: the candidate that it shows is finite

abbrev shows : Ending → Bool
shows (Asks a) = false
shows (Ends k) = false
shows Shows = true

module _ (n : ℕ) where
  pub record ShowsFinite (r : Stopped) : Type 0 where
    pub shown : shows r.stop.ending ≡ true → all_finite (part (candidate_at n) n r.work) ≡ true

  halt_finite : (e : Ending) (x : Scratch) → shows e ≡ false → ShowsFinite (halt e x)
  unfolding halt
  halt_finite e x n = record { shown = λ h. never h n }

  refuse_finite : (k : Refusal) (x : Scratch) → ShowsFinite (refuse k x)
  unfolding refuse
  refuse_finite k x = halt_finite _ x refl

  ask_finite : (a : Ask) (t : Float) (x : Scratch) → ShowsFinite (ask a t x)
  unfolding ask
  ask_finite a t x = halt_finite _ _ refl

  ask_rhs_finite : (a : Ask) (t : Float) (x : Scratch) → ShowsFinite (ask_rhs a t x)
  unfolding ask_rhs
  ask_rhs_finite a t x = ask_finite a t _

  provided_finite : (b : Bool) (k : Refusal) (x : Scratch) (r : Stopped) → ShowsFinite r → ShowsFinite (provided b k x r)
  provided_finite b k x r h = provided_either ShowsFinite b k x r (refuse_finite k x) h

  tested_finite : (b : Bool) (x : Scratch) (r : Stopped) → (b ≡ true → ShowsFinite r) → ShowsFinite (provided b NonFinite x r)
  unfolding provided choose
  tested_finite true x r h = h refl
  tested_finite false x r h = refuse_finite NonFinite x

module _ (g : Given) where
  abbrev n : ℕ
  n = g.setting.n

  abbrev Is : Stopped → Type 0
  Is r = ShowsFinite n r

  show_finite : (x : Scratch) → all_finite (part (candidate_at n) n x.work) ≡ true → Is (show g x)
  unfolding show halt on_marks
  show_finite x e = record { shown = λ h. e }

  finish_finite : (x : Scratch) → Is (finish g x)
  unfolding finish
  finish_finite x = tested_finite n _ x _ (λ e. provided_finite n _ _ x _ (show_finite x e))

  ask_stage_finite : (i : ℕ) (x : Scratch) → Is (ask_stage g i x)
  unfolding ask_stage
  ask_stage_finite i x = provided_finite n _ _ x _ (ask_rhs_finite n _ _ x)

  open_stage_finite : (i : ℕ) (x : Scratch) → Is (open_stage g i x)
  unfolding open_stage
  open_stage_finite i x = provided_finite n _ _ _ _ (ask_stage_finite i _)

  next_stage_finite : (i : ℕ) (x : Scratch) → Is (next_stage g i x)
  unfolding next_stage
  next_stage_finite i x = choose_either Is _ _ _ (finish_finite x) (open_stage_finite i x)

  solve_stage_finite : (i : ℕ) (x : Scratch) → Is (solve_stage g i x)
  unfolding solve_stage
  solve_stage_finite i x = provided_finite n _ _ _ _ (next_stage_finite (suc i) _)

  first_stage_finite : (x : Scratch) → Is (first_stage g x)
  unfolding first_stage
  first_stage_finite x = provided_finite n _ _ _ _ (choose_either Is _ _ _ (solve_stage_finite 0 _) (ask_stage_finite 0 _))

  factor_finite : (x : Scratch) → Is (factor g x)
  unfolding factor
  factor_finite x = provided_finite n _ _ _ _ (provided_finite n _ _ _ _ (first_stage_finite _))

  partial_done_finite : (x : Scratch) → Is (partial_done g x)
  unfolding partial_done
  partial_done_finite x = provided_finite n _ _ x _ (factor_finite _)

  combine_finite : (x : Scratch) → Is (combine g x)
  unfolding combine
  combine_finite x = partial_done_finite _

  ask_first_probe_finite : (p : Result (Float × Option Float) Refusal) (x : Scratch) → Is (ask_first_probe g p x)
  unfolding ask_first_probe
  ask_first_probe_finite (Ok (first, second)) x = ask_rhs_finite n _ _ _
  ask_first_probe_finite (Err k) x = refuse_finite n k x

  ask_partial_finite : (x : Scratch) → Is (ask_partial g x)
  unfolding ask_partial
  ask_partial_finite x = choose_either Is _ _ _ (ask_finite n _ _ x) (ask_first_probe_finite _ x)

  jacobian_done_finite : (x : Scratch) → Is (jacobian_done g x)
  unfolding jacobian_done
  jacobian_done_finite x = provided_finite n _ _ x _ (ask_partial_finite x)

  open_column_finite : (k : ℕ) (x : Scratch) → Is (open_column g k x)
  unfolding open_column
  open_column_finite k x = provided_finite n _ _ _ _ (provided_finite n _ _ _ _ (ask_rhs_finite n _ _ _))

  next_column_finite : (k : ℕ) (x : Scratch) → Is (next_column g k x)
  unfolding next_column
  next_column_finite k x = choose_either Is _ _ _ (jacobian_done_finite x) (open_column_finite k x)

  differentiate_finite : (x : Scratch) → Is (differentiate g x)
  unfolding differentiate ask_jacobian
  differentiate_finite x = choose_either Is _ _ _ (factor_finite x) (choose_either Is _ _ _ (ask_finite n _ _ _) (next_column_finite 0 _))

  -- over the step 0 the candidate is the state
  start_finite : (x : Scratch) → 2 * n ≤ length x.work → length g.state ≡ n → all_finite g.state ≡ true → Is (start g x)
  unfolding start on_work begun evaluate
  start_finite x room l e =
      let w = puts x.work (candidate_at n) (el g.state) n in
      let long : length w ≡ length x.work = length-puts x.work _ _ n in
      let there : part (candidate_at n) n (puts w (error_at n) (λ k. 𝟎) n) ≡ g.state =
      part_left w (error_at n) (λ k. 𝟎) n (candidate_at n) n nan (omega arith) (inl (omega arith))
      ∙ part_stored x.work (candidate_at n) g.state n nan l (omega arith)
      in
      choose_either Is _ _ _ (show_finite _ (ap all_finite there ∙ e)) (choose_either Is _ _ _ (differentiate_finite _) (ask_rhs_finite n _ _ _))

  resume_finite : (a : Ask) (values : List Float) (x : Scratch) → Is (resume g a values x)
  unfolding resume
  resume_finite Derivative values x = provided_finite n _ _ _ _ (differentiate_finite _)
  resume_finite Jacobian values x = jacobian_done_finite _
  resume_finite TimePartial values x = partial_done_finite _
  resume_finite FirstProbe values x = provided_finite n _ _ _ _ (choose_either Is _ _ _ (ask_rhs_finite n _ _ _) (combine_finite _))
  resume_finite SecondProbe values x = provided_finite n _ _ _ _ (combine_finite _)
  resume_finite (Column k) values x = provided_finite n _ _ _ _ (next_column_finite (suc k) _)
  resume_finite (Stage i) values x = provided_finite n _ _ _ _ (solve_stage_finite i _)

-- ---- each call

module _ (fx : Fixed) where
  pub record Holds (x : Progress) (m : Lent) : Type 0 where
    pub state : all_finite m.state ≡ true
    pub candidate : is_pending x.request ≡ true → all_finite (candidate_of fx m) ≡ true

  abbrev Leaves : Out → Type 0
  Leaves o = Holds o.progress o.lent

  -- nothing is pending
  idle_holds : (x : Progress) (m : Lent) → x.request ≡ 0 → all_finite m.state ≡ true → Holds x m
  unfolding is_pending
  idle_holds x m r e = record { state = e; candidate = λ p. never p (ap is_pending r) }

  ended_shows : (e : Ending) → is_pending (request_after e) ≡ true → shows e ≡ true
  unfolding request_after is_pending
  ended_shows (Asks a) p = never p (asked_not_pending a)
  ended_shows (Ends k) p = p
  ended_shows Shows p = refl

  settle_holds : (x : Progress) (m : Lent) (r : Stopped) → all_finite m.state ≡ true → ShowsFinite fx.n r → Leaves (settle fx x m r)
  unfolding settle progress_after candidate_of
  settle_holds x m r e h = record { state = e; candidate = λ p. h.shown (ended_shows r.stop.ending p) }

  module _ (x : Progress) (m : Lent) (h : Holds x m) where
    guarded_holds : (tests : List Test) (o : Out) → (first_of tests ≡ Ok tt → Leaves o) → Leaves (guarded tests x m o)
    unfolding refusal
    guarded_holds tests o g = guarded_either tests x m o Leaves (λ k. h) g

    attempt_by_holds : (file : List ℕ) (step : Float) (jacobian partial : Bool) → LentShape fx m → Leaves (attempt_by fx file step jacobian partial x m)
    unfolding attempt_by opened given_by scratch_by needed_work
    attempt_by_holds file step jacobian partial l =
        let x' = opening step jacobian partial x in
        let long = l.of_work in
        guarded_holds (step_tests step x) _
        (λ _. settle_holds x' m _ h.state (start_finite (given_by fx file x' m) (scratch_by one_attempt x' m) (omega arith) l.of_state h.state))

    towards_holds : (r : Result Float Refusal) (file : List ℕ) (jacobian partial : Bool) → LentShape fx m → Leaves (towards r fx file jacobian partial x m)
    unfolding towards refusal
    towards_holds (Ok step) file jacobian partial l = attempt_by_holds file step jacobian partial l
    towards_holds (Err k) file jacobian partial l = h

    called_holds : (c : Call) → Leaves (called fx c x m)
    unfolding called attempt_of attempt_to_of supply_of given_by fail_of failed accept_of accepted reject_of rejected inject_of injected reset_of restarted fresh cleared read_of answered progress_after
    called_holds (attempt file step jacobian partial) =
        guarded_holds _ _ (λ e. attempt_by_holds file step jacobian partial (fits_passed fx x m _ e).0.shape)
    called_holds (attempt_to file endpoint proposal jacobian partial) =
        guarded_holds _ _ (λ e. towards_holds (endpoint_step x.time endpoint proposal) file jacobian partial (fits_passed fx x m _ e).0.shape)
    called_holds (supply file values) =
        guarded_holds _ _
        (λ _. settle_holds x m _ h.state (resume_finite (given_by fx file x m) (ask_of x.request x.stage) values (scratch_by nothing_counted x m)))
    called_holds fail = guarded_holds _ (failed x m) (λ _. idle_holds _ _ refl h.state)
    called_holds (accept f) = guarded_holds _ (accepted fx x m) (λ e. idle_holds _ _ refl (h.candidate (decision_passed fx x m e)))
    called_holds (reject f) = guarded_holds _ (rejected x m) (λ _. idle_holds _ _ refl h.state)
    called_holds (inject_derivative derivative) =
        guarded_holds _ (injected fx derivative x m) (λ e. record { state = h.state; candidate = λ p. never p (inject_passed fx x m derivative e).1 })
    called_holds (reset time state) = guarded_holds _ (restarted time state m) (λ e. idle_holds _ _ refl (reset_passed fx time state x m e).finite)
    called_holds (read q) = guarded_holds _ (answered q fx x m) (λ _. h)

-- ---- a list

abbrev pub AllHolds : System → Type 0
AllHolds y = Holds y.stepper.fixed y.stepper.progress (memory y)

pub step_holds : (y : System) → AllHolds y → (c : Call) → AllHolds (stepped c y).system
unfolding stepped result
step_holds y h c = subst (λ (m : Lent). Holds y.stepper.fixed (result c y).progress m) (sym (memory_after c y)) (called_holds y.stepper.fixed _ _ h c)

pub after_holds : (y : System) (cs : List Call) → AllHolds y → AllHolds (after y cs)
unfolding after
after_holds y [] h = h
after_holds y (c ∷ cs) h = after_holds (stepped c y).system cs (step_holds y h c)

-- the making tested the state
state_tested : (file : List ℕ) (time : Float) (m : Lent) → first_of (making_tests file time m) ≡ Ok tt → all_finite m.state ≡ true
state_tested file time m e =
    let n = length m.state in
    let t₁ = held TableauFile (accepts file) _ e in
    let t₂ = held Dimension (shape_fits n (stages_of (tableau_of file)) n (length m.work) (length m.pivots)) _ t₁.1 in
    (held NonFinite (all_finite m.state) _ t₂.1).0

pub made_holds : (file : List ℕ) (policy : TimeDifferencePolicy) (time : Float) (m : Lent) (y : System) → make file policy time m ≡ made y → AllHolds y
unfolding made_of fresh trimmed untrimmed cleared
made_holds file policy time m y e =
    subst (λ (z : System). AllHolds z) (made_is file policy time m y e)
    (idle_holds _ _ _ refl (state_tested file time (trimmed (needed (fixed_by file policy m)) m) (made_passed file policy time m y e)))

pub always_finite : AlwaysFinite
unfolding trimmed
always_finite file policy time m y e calls =
    let h = after_holds y calls (made_holds file policy time m y e) in record { state = h.state; candidate = h.candidate }
