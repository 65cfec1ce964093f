-- An open attempt ends in no other refusals than 2, 4, 5 and 6, and counts neither an attempt nor an accepted or a rejected step. Assumes nothing.
use Prim.Native.Nat.{ℕ, suc}
use mathlib.Core.Path.{◌≡◌, refl}
use mathlib.Core.Bool.{Bool, true, false, cond}
use mathlib.Core.List.{List, []}
use lib.Ieee.{Float}
use Rattle.std.specs.Prelude.{Option, Result, Ok, Err}
use Rattle.stepping.specs.declared.Refusal.{Refusal}
use Rattle.stepping.specs.declared.Refusal.TheVariants.{NonFinite, Direction, TimeResolution, Singular}
use Rattle.stepping.specs.Refusals.{Test}
use Rattle.time_difference.specs.declared.TimeDifferencePolicy.{TimeDifferencePolicy}
use Rattle.time_difference.specs.Probes.{placed}
use Rattle.time_difference.specs.Policy as policy
use Rattle.attempts.specs.declared.Ask.{Ask}
use Rattle.attempts.specs.declared.Ask.TheVariants.{Derivative, Jacobian, TimePartial, FirstProbe, SecondProbe, Column, Stage}
use Rattle.attempts.specs.Marks.{Counted, counting_rhs, counting_jacobian, counting_factorization, counting_solve, noting, counting}
use Rattle.attempts.specs.Attempt.{Ending, Asks, Ends, Shows, Given, Scratch, Stopped, on_work, on_marks, halt, refuse, ask, ask_rhs, choose, provided, show, finish, ask_stage, open_stage, next_stage, solve_stage, first_stage, factor, partial_done, combine, ask_first_probe, ask_partial, jacobian_done, open_column, next_column, ask_jacobian, differentiate, evaluate, start, written, resume}
use Rattle.lists.specs.Refused.{ends_attempts}
use Rattle.lists.proofs.Firsts.{First, none_first, or_first, either_known}

abbrev pub MayEnd : Refusal → Type 0
MayEnd k = ends_attempts k ≡ true

non_finite : MayEnd NonFinite
unfolding ends_attempts
non_finite = refl

direction : MayEnd Direction
unfolding ends_attempts
direction = refl

time_resolution : MayEnd TimeResolution
unfolding ends_attempts
time_resolution = refl

singular : MayEnd Singular
unfolding ends_attempts
singular = refl

-- ---- the probes of the time partial

cond_first : (b : Bool) (tests : List Test) → First MayEnd tests → First MayEnd (cond b tests [])
cond_first true tests h = h
cond_first false tests h = none_first MayEnd

policy_first : (p : TimeDifferencePolicy) (time step : Float) (k : Refusal) → policy.refusal p time step ≡ Err k → MayEnd k
unfolding policy.refusal
policy_first p time step =
    or_first MayEnd NonFinite _ _ non_finite
    (λ _. or_first MayEnd Direction _ _ direction
    (λ _. or_first MayEnd NonFinite _ _ non_finite
    (λ _. or_first MayEnd TimeResolution _ _ time_resolution
    (λ _. cond_first p.bounds.present _
    (or_first MayEnd NonFinite _ _ non_finite (λ _. or_first MayEnd Direction _ [] direction (λ _. none_first MayEnd)))))))

cond_refuses : {A : Type 0} (b : Bool) (k : Refusal) (v : A) → MayEnd k → (j : Refusal) → cond b (Err k) (Ok v) ≡ Err j → MayEnd j
cond_refuses true k v h j e = cc
cond_refuses false k v h j e = cc

abbrev Probed : Type 0
Probed = Result (Float × Option Float) Refusal

probes_refuse : (p : TimeDifferencePolicy) (time step : Float) (k : Refusal) → policy.probes p time step ≡ Err k → MayEnd k
unfolding policy.probes placed
probes_refuse p time step k =
    either_known Err (λ (r : Probed). r ≡ Err k → MayEnd k) (policy.refusal p time step) _
    (λ j e h. policy_first p time step k cc)
    (λ _. cond_refuses _ TimeResolution _ time_resolution k)

-- ---- the attempt

abbrev pub EndsSo : Ending → Type 0
EndsSo (Asks a) = Unit {0}
EndsSo (Ends k) = MayEnd k
EndsSo Shows = Unit {0}

-- attempts, accepted and rejected steps, of what is counted
abbrev pub steps_of : Counted → Bool × Bool × Bool
steps_of c = (c.attempts, c.accepted_steps, c.rejected_steps)

pub record Ended (c : Counted) (r : Stopped) : Type 0 where
  pub ending : EndsSo r.stop.ending
  pub counted : steps_of r.stop.marks.counted ≡ steps_of c

module _ (c : Counted) where
  abbrev pub Began : Scratch → Type 0
  Began x = steps_of x.marks.counted ≡ steps_of c

  halt_ends : (e : Ending) (x : Scratch) → EndsSo e → Began x → Ended c (halt e x)
  unfolding halt
  halt_ends e x h b = record { ending = h; counted = b }

  refuse_ends : (k : Refusal) (x : Scratch) → MayEnd k → Began x → Ended c (refuse k x)
  unfolding refuse
  refuse_ends k x h b = halt_ends (Ends k) x h b

  ask_ends : (a : Ask) (t : Float) (x : Scratch) → Began x → Ended c (ask a t x)
  unfolding ask on_marks noting
  ask_ends a t x b = halt_ends (Asks a) _ tt b

  ask_rhs_ends : (a : Ask) (t : Float) (x : Scratch) → Began x → Ended c (ask_rhs a t x)
  unfolding ask_rhs on_marks counting counting_rhs
  ask_rhs_ends a t x b = ask_ends a t _ b

  choose_ends : (b : Bool) (q r : Stopped) → Ended c q → Ended c r → Ended c (choose b q r)
  unfolding choose
  choose_ends true q r h l = h
  choose_ends false q r h l = l

  provided_ends : (b : Bool) (k : Refusal) (x : Scratch) (r : Stopped) → MayEnd k → Began x → Ended c r → Ended c (provided b k x r)
  unfolding provided
  provided_ends b k x r h g l = choose_ends b r _ l (refuse_ends k x h g)

  module _ (g : Given) where
    show_ends : (x : Scratch) → Began x → Ended c (show g x)
    unfolding show on_marks noting
    show_ends x b = halt_ends Shows _ tt b

    finish_ends : (x : Scratch) → Began x → Ended c (finish g x)
    unfolding finish
    finish_ends x b = provided_ends _ _ x _ non_finite b (provided_ends _ _ x _ non_finite b (show_ends x b))

    ask_stage_ends : (i : ℕ) (x : Scratch) → Began x → Ended c (ask_stage g i x)
    unfolding ask_stage
    ask_stage_ends i x b = provided_ends _ _ x _ non_finite b (ask_rhs_ends _ _ x b)

    open_stage_ends : (i : ℕ) (x : Scratch) → Began x → Ended c (open_stage g i x)
    unfolding open_stage on_work
    open_stage_ends i x b = provided_ends _ _ _ _ non_finite b (ask_stage_ends i _ b)

    next_stage_ends : (i : ℕ) (x : Scratch) → Began x → Ended c (next_stage g i x)
    unfolding next_stage
    next_stage_ends i x b = choose_ends _ _ _ (finish_ends x b) (open_stage_ends i x b)

    solve_stage_ends : (i : ℕ) (x : Scratch) → Began x → Ended c (solve_stage g i x)
    unfolding solve_stage on_work on_marks counting counting_solve
    solve_stage_ends i x b = provided_ends _ _ _ _ non_finite b (next_stage_ends (suc i) _ b)

    first_stage_ends : (x : Scratch) → Began x → Ended c (first_stage g x)
    unfolding first_stage on_work
    first_stage_ends x b = provided_ends _ _ _ _ non_finite b (choose_ends _ _ _ (solve_stage_ends 0 _ b) (ask_stage_ends 0 _ b))

    factor_ends : (x : Scratch) → Began x → Ended c (factor g x)
    unfolding factor on_work on_marks counting counting_factorization
    factor_ends x b = provided_ends _ _ _ _ non_finite b (provided_ends _ _ _ _ singular b (first_stage_ends _ b))

    partial_done_ends : (x : Scratch) → Began x → Ended c (partial_done g x)
    unfolding partial_done on_marks noting
    partial_done_ends x b = provided_ends _ _ x _ non_finite b (factor_ends _ b)

    combine_ends : (x : Scratch) → Began x → Ended c (combine g x)
    unfolding combine on_work
    combine_ends x b = partial_done_ends _ b

    ask_first_probe_ends : (p : Probed) (x : Scratch) → ((k : Refusal) → p ≡ Err k → MayEnd k) → Began x → Ended c (ask_first_probe g p x)
    unfolding ask_first_probe on_marks noting
    ask_first_probe_ends (Ok (first, second)) x h b = ask_rhs_ends _ _ _ b
    ask_first_probe_ends (Err k) x h b = refuse_ends k x (h k refl) b

    ask_partial_ends : (x : Scratch) → Began x → Ended c (ask_partial g x)
    unfolding ask_partial
    ask_partial_ends x b =
        choose_ends _ _ _ (ask_ends _ _ x b)
        (ask_first_probe_ends _ x (probes_refuse g.setting.policy g.setting.time g.setting.step) b)

    jacobian_done_ends : (x : Scratch) → Began x → Ended c (jacobian_done g x)
    unfolding jacobian_done
    jacobian_done_ends x b = provided_ends _ _ x _ non_finite b (ask_partial_ends x b)

    open_column_ends : (k : ℕ) (x : Scratch) → Began x → Ended c (open_column g k x)
    unfolding open_column on_work
    open_column_ends k x b = provided_ends _ _ _ _ non_finite b (provided_ends _ _ _ _ time_resolution b (ask_rhs_ends _ _ _ b))

    next_column_ends : (k : ℕ) (x : Scratch) → Began x → Ended c (next_column g k x)
    unfolding next_column
    next_column_ends k x b = choose_ends _ _ _ (jacobian_done_ends x b) (open_column_ends k x b)

    ask_jacobian_ends : (x : Scratch) → Began x → Ended c (ask_jacobian g x)
    unfolding ask_jacobian
    ask_jacobian_ends x b = choose_ends _ _ _ (ask_ends _ _ x b) (next_column_ends 0 x b)

    differentiate_ends : (x : Scratch) → Began x → Ended c (differentiate g x)
    unfolding differentiate on_marks counting counting_jacobian
    differentiate_ends x b = choose_ends _ _ _ (factor_ends x b) (ask_jacobian_ends _ b)

    evaluate_ends : (x : Scratch) → Began x → Ended c (evaluate g x)
    unfolding evaluate
    evaluate_ends x b = choose_ends _ _ _ (differentiate_ends x b) (ask_rhs_ends _ _ x b)

    pub start_ends : (x : Scratch) → Began x → Ended c (start g x)
    unfolding start on_work
    start_ends x b = choose_ends _ _ _ (show_ends _ b) (evaluate_ends _ b)

    pub resume_ends : (a : Ask) (values : List Float) (x : Scratch) → Began x → Ended c (resume g a values x)
    unfolding resume written on_work on_marks noting
    resume_ends Derivative values x b = provided_ends _ _ _ _ non_finite b (differentiate_ends _ b)
    resume_ends Jacobian values x b = jacobian_done_ends _ b
    resume_ends TimePartial values x b = partial_done_ends _ b
    resume_ends FirstProbe values x b = provided_ends _ _ _ _ non_finite b (choose_ends _ _ _ (ask_rhs_ends _ _ _ b) (combine_ends _ b))
    resume_ends SecondProbe values x b = provided_ends _ _ _ _ non_finite b (combine_ends _ b)
    resume_ends (Column k) values x b = provided_ends _ _ _ _ non_finite b (next_column_ends (suc k) _ b)
    resume_ends (Stage i) values x b = provided_ends _ _ _ _ non_finite b (solve_stage_ends i _ b)
