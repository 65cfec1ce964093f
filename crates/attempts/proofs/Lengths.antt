-- An open attempt keeps the lengths of the work and of the pivots, whatever the kernels write. Assumes nothing.
use Prim.Native.Nat.{ℕ, suc, ◌*◌}
use mathlib.Core.Path.{◌≡◌, ◌∙◌}
use mathlib.Core.Bool.{Bool, true, false}
use mathlib.Core.List.{List}
use lib.ListN.{length}
use lib.Ieee.{Float}
use Rattle.vector.specs.Lists.{el}
use Rattle.vector.proofs.Stores.{length-puts}
use Rattle.std.specs.Prelude.{Option, Result, Ok, Err}
use Rattle.stepping.specs.declared.Refusal.{Refusal}
use Rattle.stages.proofs.Lengths.{length_stage_state, length_stage_solved, length_stage_added, length_matrix, length_factors, length_pivots}
use Rattle.differentiation.proofs.Lengths.{length_probe_state, length_column, length_partial}
use Rattle.attempts.specs.declared.Ask.{Ask}
use Rattle.attempts.specs.declared.Ask.TheVariants.{Derivative, Jacobian, TimePartial, FirstProbe, SecondProbe, Column, Stage}
use Rattle.attempts.specs.Marks.{Marks}
use Rattle.attempts.specs.Attempt.{Ending, Given, Scratch, Stopped, on_work, on_marks, halt, refuse, ask, ask_rhs, choose, provided, show, finish, ask_stage, open_stage, next_stage, solve_stage, first_stage, factor, partial_done, combine, ask_first_probe, ask_partial, jacobian_done, open_column, next_column, ask_jacobian, differentiate, begun, evaluate, start, written, resume}

-- k doubles of work and l pivots, while it goes on and where it has stopped
pub record Long (k l : ℕ) (x : Scratch) : Type 0 where
  pub of_work : length x.work ≡ k
  pub of_pivots : length x.pivots ≡ l

pub record StoppedLong (k l : ℕ) (r : Stopped) : Type 0 where
  pub of_work : length r.work ≡ k
  pub of_pivots : length r.pivots ≡ l

module _ (k l : ℕ) where
  marks_keep : (f : Marks → Marks) (x : Scratch) → Long k l x → Long k l (on_marks f x)
  unfolding on_marks
  marks_keep f x h = record { of_work = h.of_work; of_pivots = h.of_pivots }

  work_keeps : (f : List Float → List Float) → ((w : List Float) → length (f w) ≡ length w) → (x : Scratch) → Long k l x → Long k l (on_work f x)
  unfolding on_work
  work_keeps f e x h = record { of_work = e x.work ∙ h.of_work; of_pivots = h.of_pivots }

  halt_keeps : (e : Ending) (x : Scratch) → Long k l x → StoppedLong k l (halt e x)
  unfolding halt
  halt_keeps e x h = record { of_work = h.of_work; of_pivots = h.of_pivots }

  refuse_keeps : (a : Refusal) (x : Scratch) → Long k l x → StoppedLong k l (refuse a x)
  unfolding refuse
  refuse_keeps a x h = halt_keeps _ x h

  ask_keeps : (a : Ask) (t : Float) (x : Scratch) → Long k l x → StoppedLong k l (ask a t x)
  unfolding ask
  ask_keeps a t x h = halt_keeps _ _ (marks_keep _ x h)

  ask_rhs_keeps : (a : Ask) (t : Float) (x : Scratch) → Long k l x → StoppedLong k l (ask_rhs a t x)
  unfolding ask_rhs
  ask_rhs_keeps a t x h = ask_keeps a t _ (marks_keep _ x h)

  choose_keeps : (b : Bool) (q r : Stopped) → StoppedLong k l q → StoppedLong k l r → StoppedLong k l (choose b q r)
  unfolding choose
  choose_keeps true q r h g = h
  choose_keeps false q r h g = g

  provided_keeps : (b : Bool) (a : Refusal) (x : Scratch) (r : Stopped) → Long k l x → StoppedLong k l r → StoppedLong k l (provided b a x r)
  unfolding provided
  provided_keeps b a x r h g = choose_keeps b r _ g (refuse_keeps a x h)

  module _ (g : Given) where
    abbrev n : ℕ
    n = g.setting.n

    show_keeps : (x : Scratch) → Long k l x → StoppedLong k l (show g x)
    unfolding show
    show_keeps x h = halt_keeps _ _ (marks_keep _ x h)

    finish_keeps : (x : Scratch) → Long k l x → StoppedLong k l (finish g x)
    unfolding finish
    finish_keeps x h = provided_keeps _ _ x _ h (provided_keeps _ _ x _ h (show_keeps x h))

    ask_stage_keeps : (i : ℕ) (x : Scratch) → Long k l x → StoppedLong k l (ask_stage g i x)
    unfolding ask_stage
    ask_stage_keeps i x h = provided_keeps _ _ x _ h (ask_rhs_keeps _ _ x h)

    open_stage_keeps : (i : ℕ) (x : Scratch) → Long k l x → StoppedLong k l (open_stage g i x)
    unfolding open_stage
    open_stage_keeps i x h =
        let y = work_keeps _ (length_stage_state n g.tableau g.state i) x h in
        provided_keeps _ _ _ _ y (ask_stage_keeps i _ y)

    next_stage_keeps : (i : ℕ) (x : Scratch) → Long k l x → StoppedLong k l (next_stage g i x)
    unfolding next_stage
    next_stage_keeps i x h = choose_keeps _ _ _ (finish_keeps x h) (open_stage_keeps i x h)

    solve_stage_keeps : (i : ℕ) (x : Scratch) → Long k l x → StoppedLong k l (solve_stage g i x)
    unfolding solve_stage
    solve_stage_keeps i x h =
        let y = marks_keep _ _ (work_keeps _ (length_stage_solved n g.setting.s g.tableau x.pivots i g.setting.step) x h) in
        provided_keeps _ _ _ _ y (next_stage_keeps (suc i) _ (work_keeps _ (length_stage_added n g.tableau i) _ y))

    first_stage_keeps : (x : Scratch) → Long k l x → StoppedLong k l (first_stage g x)
    unfolding first_stage
    first_stage_keeps x h =
        let y = work_keeps _ (length_stage_state n g.tableau g.state 0) x h in
        provided_keeps _ _ _ _ y
        (choose_keeps _ _ _ (solve_stage_keeps 0 _ (work_keeps _ (λ w. length-puts w _ _ n) _ y)) (ask_stage_keeps 0 _ y))

    factor_keeps : (x : Scratch) → Long k l x → StoppedLong k l (factor g x)
    unfolding factor
    factor_keeps x h =
        let y = work_keeps _ (length_matrix n g.tableau g.setting.step) x h in
        let z = marks_keep _ _ (record { of_work = length_factors n _ _ ∙ y.of_work; of_pivots = length_pivots n _ _ ∙ y.of_pivots }) in
        provided_keeps _ _ _ _ y (provided_keeps _ _ _ _ z (first_stage_keeps _ z))

    partial_done_keeps : (x : Scratch) → Long k l x → StoppedLong k l (partial_done g x)
    unfolding partial_done
    partial_done_keeps x h = provided_keeps _ _ x _ h (factor_keeps _ (marks_keep _ x h))

    combine_keeps : (x : Scratch) → Long k l x → StoppedLong k l (combine g x)
    unfolding combine
    combine_keeps x h = partial_done_keeps _ (work_keeps _ (length_partial n _ _ _) x h)

    ask_first_probe_keeps : (p : Result (Float × Option Float) Refusal) (x : Scratch) → Long k l x → StoppedLong k l (ask_first_probe g p x)
    unfolding ask_first_probe
    ask_first_probe_keeps (Ok (first, second)) x h = ask_rhs_keeps _ _ _ (marks_keep _ x h)
    ask_first_probe_keeps (Err a) x h = refuse_keeps a x h

    ask_partial_keeps : (x : Scratch) → Long k l x → StoppedLong k l (ask_partial g x)
    unfolding ask_partial
    ask_partial_keeps x h = choose_keeps _ _ _ (ask_keeps _ _ x h) (ask_first_probe_keeps _ x h)

    jacobian_done_keeps : (x : Scratch) → Long k l x → StoppedLong k l (jacobian_done g x)
    unfolding jacobian_done
    jacobian_done_keeps x h = provided_keeps _ _ x _ h (ask_partial_keeps x h)

    open_column_keeps : (i : ℕ) (x : Scratch) → Long k l x → StoppedLong k l (open_column g i x)
    unfolding open_column
    open_column_keeps i x h =
        let y = work_keeps _ (length_probe_state n g.state i) x h in
        provided_keeps _ _ _ _ y (provided_keeps _ _ _ _ y (ask_rhs_keeps _ _ _ y))

    next_column_keeps : (i : ℕ) (x : Scratch) → Long k l x → StoppedLong k l (next_column g i x)
    unfolding next_column
    next_column_keeps i x h = choose_keeps _ _ _ (jacobian_done_keeps x h) (open_column_keeps i x h)

    ask_jacobian_keeps : (x : Scratch) → Long k l x → StoppedLong k l (ask_jacobian g x)
    unfolding ask_jacobian
    ask_jacobian_keeps x h = choose_keeps _ _ _ (ask_keeps _ _ x h) (next_column_keeps 0 x h)

    differentiate_keeps : (x : Scratch) → Long k l x → StoppedLong k l (differentiate g x)
    unfolding differentiate
    differentiate_keeps x h = choose_keeps _ _ _ (factor_keeps x h) (ask_jacobian_keeps _ (marks_keep _ x h))

    evaluate_keeps : (x : Scratch) → Long k l x → StoppedLong k l (evaluate g x)
    unfolding evaluate
    evaluate_keeps x h = choose_keeps _ _ _ (differentiate_keeps x h) (ask_rhs_keeps _ _ x h)

    length-begun : (w : List Float) → length (begun g w) ≡ length w
    unfolding begun
    length-begun w = length-puts _ _ _ n ∙ length-puts w _ _ n

    pub start_keeps : (x : Scratch) → Long k l x → StoppedLong k l (start g x)
    unfolding start
    start_keeps x h = let y = work_keeps _ length-begun x h in choose_keeps _ _ _ (show_keeps _ y) (evaluate_keeps _ y)

    written_keeps : (at c : ℕ) (values : List Float) (x : Scratch) → Long k l x → Long k l (written g at c values x)
    unfolding written
    written_keeps at c values x h = work_keeps _ (λ w. length-puts w at (el values) c) x h

    pub resume_keeps : (a : Ask) (values : List Float) (x : Scratch) → Long k l x → StoppedLong k l (resume g a values x)
    unfolding resume
    resume_keeps Derivative values x h =
        let y = written_keeps _ n values x h in
        provided_keeps _ _ _ _ y (differentiate_keeps _ (marks_keep _ _ y))
    resume_keeps Jacobian values x h = jacobian_done_keeps _ (written_keeps _ (n * n) values x h)
    resume_keeps TimePartial values x h = partial_done_keeps _ (written_keeps _ n values x h)
    resume_keeps FirstProbe values x h =
        let y = written_keeps _ n values x h in
        provided_keeps _ _ _ _ y (choose_keeps _ _ _ (ask_rhs_keeps _ _ _ y) (combine_keeps _ y))
    resume_keeps SecondProbe values x h =
        let y = written_keeps _ n values x h in
        provided_keeps _ _ _ _ y (combine_keeps _ y)
    resume_keeps (Column i) values x h =
        let y = written_keeps _ n values x h in
        provided_keeps _ _ _ _ y (next_column_keeps (suc i) _ (work_keeps _ (length_column n i _) _ y))
    resume_keeps (Stage i) values x h =
        let y = written_keeps _ n values x h in
        provided_keeps _ _ _ _ y (solve_stage_keeps i _ y)
