-- An open attempt asks only for columns below n and stages below s, whatever the kernels answer. Assumes nothing.
use Prim.Native.Nat.{ℕ, suc, ◌≤◌, ◌<◌}
use native.Mathlib.Omega.{arith}
use mathlib.Core.Path.{◌≡◌, refl}
use mathlib.Core.Bool.{Bool, true, false}
use mathlib.Core.List.{List}
use lib.Dec.{eqb}
use lib.Ieee.{Float}
use borrow.Author.Tests.{eqb-false}
use Rattle.std.specs.Prelude.{Option, Result, Ok, Err}
use Rattle.stepping.specs.declared.Refusal.{Refusal}
use Rattle.attempts.specs.declared.Ask.{Ask}
use Rattle.attempts.specs.declared.Ask.TheVariants.{Derivative, Jacobian, TimePartial, FirstProbe, SecondProbe, Column, Stage}
use Rattle.attempts.specs.Attempt.{Ending, Asks, Ends, Shows, Given, Scratch, Stopped, halt, refuse, ask, ask_rhs, choose, provided, show, finish, ask_stage, open_stage, next_stage, solve_stage, first_stage, factor, partial_done, combine, ask_first_probe, ask_partial, jacobian_done, open_column, next_column, ask_jacobian, differentiate, evaluate, start, resume}

-- a column below n, a stage below s
abbrev pub AskInRange : ℕ → ℕ → Ask → Type 0
AskInRange n s Derivative = Unit {0}
AskInRange n s Jacobian = Unit {0}
AskInRange n s TimePartial = Unit {0}
AskInRange n s FirstProbe = Unit {0}
AskInRange n s SecondProbe = Unit {0}
AskInRange n s (Column k) = k < n
AskInRange n s (Stage i) = i < s

abbrev pub EndInRange : ℕ → ℕ → Ending → Type 0
EndInRange n s (Asks a) = AskInRange n s a
EndInRange n s (Ends k) = Unit {0}
EndInRange n s Shows = Unit {0}

pub record InRange (n s : ℕ) (r : Stopped) : Type 0 where
  pub ending : EndInRange n s r.stop.ending

not_yet : (i n : ℕ) → i ≤ n → eqb i n ≡ false → i < n
not_yet i n h e = let ne : ¬ (i ≡ n) = eqb-false i n e in omega arith

module _ (g : Given) where
  abbrev n : ℕ
  n = g.setting.n

  abbrev s : ℕ
  s = g.setting.s

  abbrev Fits : Stopped → Type 0
  Fits r = InRange n s r

  halt_fits : (e : Ending) (x : Scratch) → EndInRange n s e → Fits (halt e x)
  unfolding halt
  halt_fits e x h = record { ending = h }

  refuse_fits : (k : Refusal) (x : Scratch) → Fits (refuse k x)
  unfolding refuse
  refuse_fits k x = halt_fits (Ends k) x tt

  ask_fits : (a : Ask) (t : Float) (x : Scratch) → AskInRange n s a → Fits (ask a t x)
  unfolding ask
  ask_fits a t x h = halt_fits (Asks a) _ h

  ask_rhs_fits : (a : Ask) (t : Float) (x : Scratch) → AskInRange n s a → Fits (ask_rhs a t x)
  unfolding ask_rhs
  ask_rhs_fits a t x h = ask_fits a t _ h

  choose_fits : (b : Bool) (q r : Stopped) → (b ≡ true → Fits q) → (b ≡ false → Fits r) → Fits (choose b q r)
  unfolding choose
  choose_fits true q r h l = h refl
  choose_fits false q r h l = l refl

  provided_fits : (b : Bool) (k : Refusal) (x : Scratch) (r : Stopped) → Fits r → Fits (provided b k x r)
  unfolding provided
  provided_fits b k x r h = choose_fits b r _ (λ _. h) (λ _. refuse_fits k x)

  show_fits : (x : Scratch) → Fits (show g x)
  unfolding show
  show_fits x = halt_fits Shows _ tt

  finish_fits : (x : Scratch) → Fits (finish g x)
  unfolding finish
  finish_fits x = provided_fits _ _ _ _ (provided_fits _ _ _ _ (show_fits x))

  ask_stage_fits : (i : ℕ) (x : Scratch) → i < s → Fits (ask_stage g i x)
  unfolding ask_stage
  ask_stage_fits i x h = provided_fits _ _ _ _ (ask_rhs_fits (Stage i) _ x h)

  open_stage_fits : (i : ℕ) (x : Scratch) → i < s → Fits (open_stage g i x)
  unfolding open_stage
  open_stage_fits i x h = provided_fits _ _ _ _ (ask_stage_fits i _ h)

  next_stage_fits : (i : ℕ) (x : Scratch) → i ≤ s → Fits (next_stage g i x)
  unfolding next_stage
  next_stage_fits i x h = choose_fits _ _ _ (λ _. finish_fits x) (λ e. open_stage_fits i x (not_yet i s h e))

  solve_stage_fits : (i : ℕ) (x : Scratch) → i < s → Fits (solve_stage g i x)
  unfolding solve_stage
  solve_stage_fits i x h = provided_fits _ _ _ _ (next_stage_fits (suc i) _ h)

  module _ (some-stage : 0 < g.setting.s) where
    first_stage_fits : (x : Scratch) → Fits (first_stage g x)
    unfolding first_stage
    first_stage_fits x = provided_fits _ _ _ _ (choose_fits _ _ _ (λ _. solve_stage_fits 0 _ some-stage) (λ _. ask_stage_fits 0 _ some-stage))

    factor_fits : (x : Scratch) → Fits (factor g x)
    unfolding factor
    factor_fits x = provided_fits _ _ _ _ (provided_fits _ _ _ _ (first_stage_fits _))

    partial_done_fits : (x : Scratch) → Fits (partial_done g x)
    unfolding partial_done
    partial_done_fits x = provided_fits _ _ _ _ (factor_fits _)

    combine_fits : (x : Scratch) → Fits (combine g x)
    unfolding combine
    combine_fits x = partial_done_fits _

    ask_first_probe_fits : (p : Result (Float × Option Float) Refusal) (x : Scratch) → Fits (ask_first_probe g p x)
    unfolding ask_first_probe
    ask_first_probe_fits (Ok (first, second)) x = ask_rhs_fits FirstProbe _ _ tt
    ask_first_probe_fits (Err k) x = refuse_fits k x

    ask_partial_fits : (x : Scratch) → Fits (ask_partial g x)
    unfolding ask_partial
    ask_partial_fits x = choose_fits _ _ _ (λ _. ask_fits TimePartial _ x tt) (λ _. ask_first_probe_fits _ x)

    jacobian_done_fits : (x : Scratch) → Fits (jacobian_done g x)
    unfolding jacobian_done
    jacobian_done_fits x = provided_fits _ _ _ _ (ask_partial_fits x)

    open_column_fits : (k : ℕ) (x : Scratch) → k < n → Fits (open_column g k x)
    unfolding open_column
    open_column_fits k x h = provided_fits _ _ _ _ (provided_fits _ _ _ _ (ask_rhs_fits (Column k) _ _ h))

    next_column_fits : (k : ℕ) (x : Scratch) → k ≤ n → Fits (next_column g k x)
    unfolding next_column
    next_column_fits k x h = choose_fits _ _ _ (λ _. jacobian_done_fits x) (λ e. open_column_fits k x (not_yet k n h e))

    ask_jacobian_fits : (x : Scratch) → Fits (ask_jacobian g x)
    unfolding ask_jacobian
    ask_jacobian_fits x = choose_fits _ _ _ (λ _. ask_fits Jacobian _ x tt) (λ _. next_column_fits 0 x (omega arith))

    differentiate_fits : (x : Scratch) → Fits (differentiate g x)
    unfolding differentiate
    differentiate_fits x = choose_fits _ _ _ (λ _. factor_fits x) (λ _. ask_jacobian_fits _)

    evaluate_fits : (x : Scratch) → Fits (evaluate g x)
    unfolding evaluate
    evaluate_fits x = choose_fits _ _ _ (λ _. differentiate_fits x) (λ _. ask_rhs_fits Derivative _ x tt)

    pub start_fits : (x : Scratch) → InRange g.setting.n g.setting.s (start g x)
    unfolding start
    start_fits x = choose_fits _ _ _ (λ _. show_fits _) (λ _. evaluate_fits _)

    pub resume_fits : (a : Ask) (values : List Float) (x : Scratch) → AskInRange g.setting.n g.setting.s a
        → InRange g.setting.n g.setting.s (resume g a values x)
    unfolding resume
    resume_fits Derivative values x h = provided_fits _ _ _ _ (differentiate_fits _)
    resume_fits Jacobian values x h = jacobian_done_fits _
    resume_fits TimePartial values x h = partial_done_fits _
    resume_fits FirstProbe values x h = provided_fits _ _ _ _ (choose_fits _ _ _ (λ _. ask_rhs_fits SecondProbe _ _ tt) (λ _. combine_fits _))
    resume_fits SecondProbe values x h = provided_fits _ _ _ _ (combine_fits _)
    resume_fits (Column k) values x h = provided_fits _ _ _ _ (next_column_fits (suc k) _ h)
    resume_fits (Stage i) values x h = provided_fits _ _ _ _ (solve_stage_fits i _ h)
