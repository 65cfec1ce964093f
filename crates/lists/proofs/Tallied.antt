-- What an open attempt counts, told by how it stops. Assumes nothing.
use Prim.Native.Nat.{ℕ, suc}
use mathlib.Core.Path.{◌≡◌, refl, sym}
use mathlib.Core.Bool.{Bool, true, false, ◌||◌}
use lib.Ieee.{Float}
use Rattle.std.specs.Prelude.{Option, Result, Ok, Err}
use Rattle.stepping.specs.declared.Refusal.{Refusal}
use Rattle.stepping.specs.declared.Refusal.TheVariants.{NonFinite}
use Rattle.attempts.specs.declared.Ask.{Ask}
use Rattle.attempts.specs.declared.Ask.TheVariants.{Jacobian, TimePartial, FirstProbe, Column, Stage}
use Rattle.attempts.specs.Marks.{Counted, noting, counting, counting_rhs, counting_solve}
use Rattle.attempts.specs.Attempt.{Ending, Asks, Ends, Shows, Given, Scratch, Stopped, on_work, on_marks, halt, refuse, ask, ask_rhs, choose, provided, show, finish, ask_stage, open_stage, next_stage, solve_stage, ask_first_probe, ask_partial, jacobian_done, open_column, next_column, ask_jacobian}
use Rattle.refusals.specs.Answers.{kind_of, refused}
use Rattle.lists.specs.Counting.{of_derivative, is_singular}

-- ---- how it stops

abbrev pub rhs_asked : Ending → Bool
rhs_asked (Asks a) = of_derivative (kind_of a)
rhs_asked (Ends k) = false
rhs_asked Shows = false

abbrev pub singular : Ending → Bool
singular (Asks a) = false
singular (Ends k) = is_singular (refused k)
singular Shows = false

abbrev pub with_rhs : Bool → Counted → Counted
with_rhs b c = record c { rhs_evaluations = b }

-- ---- a choice, and what goes on where a test holds

pub choose_either : (P : Stopped → Type 0) (b : Bool) (q r : Stopped) → P q → P r → P (choose b q r)
unfolding choose
choose_either P true q r h g = h
choose_either P false q r h g = g

pub provided_either : (P : Stopped → Type 0) (b : Bool) (k : Refusal) (x : Scratch) (r : Stopped) → P (refuse k x) → P r → P (provided b k x r)
unfolding provided
provided_either P b k x r h g = choose_either P b r _ g h

-- ---- from what was counted before, only the request is counted

pub record Plain (c : Counted) (r : Stopped) : Type 0 where
  pub counted : r.stop.marks.counted ≡ with_rhs (rhs_asked r.stop.ending || c.rhs_evaluations) c

abbrev pub Alone : Scratch → Stopped → Type 0
Alone x r = Plain x.marks.counted r

halt_plain : (e : Ending) (x : Scratch) → rhs_asked e ≡ false → Alone x (halt e x)
unfolding halt
halt_plain e x a = record { counted = λ i. with_rhs (sym a i || x.marks.counted.rhs_evaluations) x.marks.counted }

pub refuse_plain : (k : Refusal) (x : Scratch) → Alone x (refuse k x)
unfolding refuse
refuse_plain k x = halt_plain (Ends k) x refl

ask_plain : (a : Ask) (t : Float) (x : Scratch) → rhs_asked (Asks a) ≡ false → Alone x (ask a t x)
unfolding ask on_marks noting
ask_plain a t x h = halt_plain (Asks a) _ h

pub ask_rhs_plain : (a : Ask) (t : Float) (x : Scratch) → rhs_asked (Asks a) ≡ true → Alone x (ask_rhs a t x)
unfolding ask_rhs ask halt on_marks noting counting counting_rhs
ask_rhs_plain a t x h = record { counted = λ i. with_rhs (sym h i || x.marks.counted.rhs_evaluations) x.marks.counted }

provided_plain : (b : Bool) (k : Refusal) (x : Scratch) (r : Stopped) → Alone x r → Alone x (provided b k x r)
provided_plain b k x r h = provided_either (Plain x.marks.counted) b k x r (refuse_plain k x) h

module _ (g : Given) where
  pub show_plain : (x : Scratch) → Alone x (show g x)
  unfolding show on_marks noting
  show_plain x = halt_plain Shows _ refl

  finish_plain : (x : Scratch) → Alone x (finish g x)
  unfolding finish
  finish_plain x = provided_plain _ _ x _ (provided_plain _ _ x _ (show_plain x))

  pub ask_stage_plain : (i : ℕ) (x : Scratch) → Alone x (ask_stage g i x)
  unfolding ask_stage of_derivative kind_of
  ask_stage_plain i x = provided_plain _ _ x _ (ask_rhs_plain (Stage i) _ x refl)

  open_stage_plain : (i : ℕ) (x : Scratch) → Alone x (open_stage g i x)
  unfolding open_stage on_work
  open_stage_plain i x = provided_plain _ _ _ _ (ask_stage_plain i _)

  next_stage_plain : (i : ℕ) (x : Scratch) → Alone x (next_stage g i x)
  unfolding next_stage
  next_stage_plain i x = choose_either (Plain x.marks.counted) _ _ _ (finish_plain x) (open_stage_plain i x)

  -- and the solve
  pub solve_stage_plain : (i : ℕ) (x : Scratch) → Plain (counting_solve x.marks.counted) (solve_stage g i x)
  unfolding solve_stage on_work on_marks counting
  solve_stage_plain i x = provided_plain _ _ _ _ (next_stage_plain (suc i) _)

  ask_first_probe_plain : (p : Result (Float × Option Float) Refusal) (x : Scratch) → Alone x (ask_first_probe g p x)
  unfolding ask_first_probe on_marks noting of_derivative kind_of
  ask_first_probe_plain (Ok (first, second)) x = ask_rhs_plain FirstProbe _ _ refl
  ask_first_probe_plain (Err k) x = refuse_plain k x

  ask_partial_plain : (x : Scratch) → Alone x (ask_partial g x)
  unfolding ask_partial of_derivative kind_of
  ask_partial_plain x = choose_either (Plain x.marks.counted) _ _ _ (ask_plain TimePartial _ x refl) (ask_first_probe_plain _ x)

  pub jacobian_done_plain : (x : Scratch) → Alone x (jacobian_done g x)
  unfolding jacobian_done
  jacobian_done_plain x = provided_plain _ _ x _ (ask_partial_plain x)

  open_column_plain : (k : ℕ) (x : Scratch) → Alone x (open_column g k x)
  unfolding open_column on_work of_derivative kind_of
  open_column_plain k x = provided_plain _ _ _ _ (provided_plain _ _ _ _ (ask_rhs_plain (Column k) _ _ refl))

  pub next_column_plain : (k : ℕ) (x : Scratch) → Alone x (next_column g k x)
  unfolding next_column
  next_column_plain k x = choose_either (Plain x.marks.counted) _ _ _ (jacobian_done_plain x) (open_column_plain k x)

  pub ask_jacobian_plain : (x : Scratch) → Alone x (ask_jacobian g x)
  unfolding ask_jacobian of_derivative kind_of
  ask_jacobian_plain x = choose_either (Plain x.marks.counted) _ _ _ (ask_plain Jacobian _ x refl) (next_column_plain 0 x)

-- ---- a stage that is solved, and what comes after, does not end in 6

pub record Regular (r : Stopped) : Type 0 where
  pub regular : singular r.stop.ending ≡ false

halt_regular : (e : Ending) (x : Scratch) → singular e ≡ false → Regular (halt e x)
unfolding halt
halt_regular e x s = record { regular = s }

non_finite_regular : (x : Scratch) → Regular (refuse NonFinite x)
unfolding refuse is_singular
non_finite_regular x = halt_regular _ x refl

finite_regular : (b : Bool) (x : Scratch) (r : Stopped) → Regular r → Regular (provided b NonFinite x r)
finite_regular b x r h = provided_either Regular b _ x r (non_finite_regular x) h

module _ (g : Given) where
  show_regular : (x : Scratch) → Regular (show g x)
  unfolding show
  show_regular x = halt_regular Shows _ refl

  finish_regular : (x : Scratch) → Regular (finish g x)
  unfolding finish
  finish_regular x = finite_regular _ x _ (finite_regular _ x _ (show_regular x))

  pub ask_stage_regular : (i : ℕ) (x : Scratch) → Regular (ask_stage g i x)
  unfolding ask_stage ask_rhs ask
  ask_stage_regular i x = finite_regular _ x _ (halt_regular (Asks (Stage i)) _ refl)

  open_stage_regular : (i : ℕ) (x : Scratch) → Regular (open_stage g i x)
  unfolding open_stage
  open_stage_regular i x = finite_regular _ _ _ (ask_stage_regular i _)

  next_stage_regular : (i : ℕ) (x : Scratch) → Regular (next_stage g i x)
  unfolding next_stage
  next_stage_regular i x = choose_either Regular _ _ _ (finish_regular x) (open_stage_regular i x)

  pub solve_stage_regular : (i : ℕ) (x : Scratch) → Regular (solve_stage g i x)
  unfolding solve_stage
  solve_stage_regular i x = finite_regular _ _ _ (next_stage_regular (suc i) _)
