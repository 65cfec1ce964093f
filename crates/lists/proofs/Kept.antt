-- The matrix and all that comes after it leave the time partial as it is. Assumes nothing.
use Prim.Native.Nat.{ℕ, suc, ◌+◌, ◌*◌, ◌≤◌}
use native.Mathlib.Omega.{arith}
use mathlib.Core.Path.{◌≡◌, refl, ◌∙◌}
use mathlib.Core.Bool.{Bool}
use mathlib.Core.List.{List}
use mathlib.Core.Logic.{inl, inr}
use lib.ListN.{length}
use lib.Ieee.{Float, nan}
use Rattle.vector.specs.Parts.{part, puts}
use Rattle.vector.proofs.Parts.{part_left}
use Rattle.vector.proofs.Stores.{length-puts}
use Rattle.stepping.specs.declared.Refusal.{Refusal}
use Rattle.stages.specs.Layout.{time_partial_at, rhs_stage_at}
use Rattle.stages.specs.Memory.{with_stage_state, with_right_hand_side, with_solution, with_stage, with_stage_solved, with_added, with_stage_added, with_matrix, with_factors}
use Rattle.attempts.specs.Attempt.{Given, Scratch, Stopped, on_work, on_marks, halt, refuse, ask, ask_rhs, provided, show, finish, ask_stage, open_stage, next_stage, solve_stage, first_stage, factor, partial_done}
use Rattle.lists.proofs.Tallied.{choose_either, provided_either}

-- ---- the time partial stays where it is

module _ (n : ℕ) (w : List Float) (room : 5 * n ≤ length w) where
  pub record Kept (v : List Float) : Type 0 where
    pub same_length : length v ≡ length w
    pub partial : part (time_partial_at n) n v ≡ part (time_partial_at n) n w

  pub unchanged : Kept w
  unchanged = record { same_length = refl; partial = refl }

  -- a store before it, or after it
  before : (v : List Float) (at : ℕ) (f : ℕ → Float) (k : ℕ) → at + k ≤ 4 * n → Kept v → Kept (puts v at f k)
  before v at f k b h =
      let l = h.same_length in
      record { same_length = length-puts v at f k ∙ l; partial = part_left v at f k (time_partial_at n) n nan (omega arith) (inr b) ∙ h.partial }

  past : (v : List Float) (at : ℕ) (f : ℕ → Float) (k : ℕ) → 5 * n ≤ at → Kept v → Kept (puts v at f k)
  past v at f k b h =
      let l = h.same_length in
      record { same_length = length-puts v at f k ∙ l; partial = part_left v at f k (time_partial_at n) n nan (omega arith) (inl (omega arith)) ∙ h.partial }

module _ (g : Given) (w : List Float) (room : 5 * g.setting.n ≤ length w) where
  abbrev n : ℕ
  n = g.setting.n

  abbrev s : ℕ
  s = g.setting.s

  abbrev Now : Scratch → Type 0
  Now x = Kept n w room x.work

  abbrev Then : Stopped → Type 0
  Then r = Kept n w room r.work

  refuse_kept : (k : Refusal) (x : Scratch) → Now x → Then (refuse k x)
  unfolding refuse halt
  refuse_kept k x h = h

  provided_kept : (b : Bool) (k : Refusal) (x : Scratch) (r : Stopped) → Now x → Then r → Then (provided b k x r)
  provided_kept b k x r h t = provided_either Then b k x r (refuse_kept k x h) t

  finish_kept : (x : Scratch) → Now x → Then (finish g x)
  unfolding finish show halt on_marks
  finish_kept x h = provided_kept _ _ x _ h (provided_kept _ _ x _ h h)

  ask_stage_kept : (i : ℕ) (x : Scratch) → Now x → Then (ask_stage g i x)
  unfolding ask_stage ask_rhs ask halt on_marks
  ask_stage_kept i x h = provided_kept _ _ x _ h h

  open_stage_kept : (i : ℕ) (x : Scratch) → Now x → Then (open_stage g i x)
  unfolding open_stage on_work with_stage_state
  open_stage_kept i x h = let y = before n w room x.work _ _ n (omega arith) h in provided_kept _ _ _ _ y (ask_stage_kept i _ y)

  next_stage_kept : (i : ℕ) (x : Scratch) → Now x → Then (next_stage g i x)
  unfolding next_stage
  next_stage_kept i x h = choose_either Then _ _ _ (finish_kept x h) (open_stage_kept i x h)

  solved_kept : (pivots : List ℕ) (i : ℕ) (v : List Float) → Kept n w room v → Kept n w room (with_stage_solved n s g.tableau pivots i g.setting.step v)
  unfolding with_stage_solved with_stage with_solution with_right_hand_side
  solved_kept pivots i v h = past n w room _ _ _ n (omega arith) (past n w room _ _ _ n (omega arith) (past n w room v _ _ n (omega arith) h))

  added_kept : (i : ℕ) (v : List Float) → Kept n w room v → Kept n w room (with_stage_added n g.tableau i v)
  unfolding with_stage_added with_added
  added_kept i v h = before n w room _ _ _ n (omega arith) (before n w room v _ _ n (omega arith) h)

  solve_stage_kept : (i : ℕ) (x : Scratch) → Now x → Then (solve_stage g i x)
  unfolding solve_stage on_work on_marks
  solve_stage_kept i x h =
      let y = solved_kept x.pivots i x.work h in provided_kept _ _ _ _ y (next_stage_kept (suc i) _ (added_kept i _ y))

  first_kept : (f : ℕ → Float) (v : List Float) → Kept n w room v → Kept n w room (puts v (rhs_stage_at n s 0) f n)
  first_kept f v h = past n w room v _ f n (omega arith) h

  first_stage_kept : (x : Scratch) → Now x → Then (first_stage g x)
  unfolding first_stage on_work with_stage_state
  first_stage_kept x h =
      let y = before n w room x.work _ _ n (omega arith) h in
      provided_kept _ _ _ _ y (choose_either Then _ _ _ (solve_stage_kept 0 _ (first_kept _ _ y)) (ask_stage_kept 0 _ y))

  factor_kept : (x : Scratch) → Now x → Then (factor g x)
  unfolding factor on_work on_marks with_matrix with_factors
  factor_kept x h =
      let y = past n w room x.work _ _ (n * n) (omega arith) h in
      let z = past n w room _ _ _ (n * n) (omega arith) y in
      provided_kept _ _ _ _ y (provided_kept _ _ _ _ z (first_stage_kept _ z))

  pub partial_done_kept : (x : Scratch) → Now x → Then (partial_done g x)
  unfolding partial_done on_marks
  partial_done_kept x h = provided_kept _ _ x _ h (factor_kept _ h)
