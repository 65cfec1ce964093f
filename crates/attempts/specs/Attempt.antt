-- What an open attempt does between two requests. It changes the marks, the needed work and the pivots: neither time, step and end nor the
-- state are among what it hands back. What it computes is the method's (stages/specs, differentiation/specs). Definitions only.
use Rattle.std.specs.Prelude.{ℕ, suc, ◌*◌, Bool, true, false, not, ◌&&◌, List, eqb, Float, Option, Result, Ok, Err, is_ok}
use Rattle.std.specs.Float.Ieee.{eq}
use Rattle.std.specs.Float.Ieee.Scale.{finite}
use Rattle.float.specs.Operators.{◌⊖◌, 𝟎}
use Rattle.vector.specs.Lists.{el, all_finite}
use Rattle.vector.specs.Parts.{part, puts}
use Rattle.stepping.specs.declared.Refusal.{Refusal}
use Rattle.stepping.specs.declared.Refusal.TheVariants.{NonFinite, TimeResolution, Singular}
use Rattle.time_difference.specs.Policy.{probes}
use Rattle.tableau.specs.Tableau.{Tableau, present, c_of}
use Rattle.stages.specs.Layout.{candidate_at, error_at, stage_state_at, current_at, time_partial_at, probe_state_at, probe_rhs_at, jacobian_at, factors_at, stage_at, rhs_stage_at}
use Rattle.stages.specs.Method.{stage_time}
use Rattle.stages.specs.Memory.{component, with_stage_state, with_stage_solved, with_stage_added, with_matrix, elimination_in, with_factors}
use Rattle.differentiation.specs.Differences.{rise}
use Rattle.differentiation.specs.Memory.{with_probe_state, with_column, with_partial}
use Rattle.attempts.specs.declared.Setting.{Setting}
use Rattle.attempts.specs.declared.Ask.{Ask}
use Rattle.attempts.specs.declared.Ask.TheVariants.{Derivative, Jacobian, TimePartial, FirstProbe, SecondProbe, Column, Stage}
use Rattle.attempts.specs.Marks.{Marks, with_derivative, with_differentiation, with_error_shown, with_probes, with_request_time, counting_rhs, counting_jacobian, counting_factorization, counting_solve, noting, counting}

-- what an open attempt reads and never changes
pub record Given : Type 0 where
  pub setting : Setting
  pub tableau : Tableau
  pub state : List Float

-- what it may change
pub record Scratch : Type 0 where
  pub marks : Marks
  pub work : List Float
  pub pivots : List ℕ

-- how it stops: it asks, it ends in a refusal, or it shows the step
pub data Ending : Type 0 where
  Asks : Ask → Ending
  Ends : Refusal → Ending
  Shows : Ending

pub record Stop : Type 0 where
  pub marks : Marks
  pub ending : Ending

-- and the memory
pub record Stopped : Type 0 where
  pub stop : Stop
  pub work : List Float
  pub pivots : List ℕ

abbrev pub given : Setting → Tableau → List Float → Given
given g t state = record { setting = g; tableau = t; state = state }

abbrev pub scratch : Marks → List Float → List ℕ → Scratch
scratch m w p = record { marks = m; work = w; pivots = p }

abbrev pub stopped : Stop → List Float → List ℕ → Stopped
stopped r w p = record { stop = r; work = w; pivots = p }

-- ---- one thing changed

unfoldable pub on_work : (List Float → List Float) → Scratch → Scratch
on_work f x = record x { work = f x.work }

unfoldable pub on_marks : (Marks → Marks) → Scratch → Scratch
on_marks f x = record x { marks = f x.marks }

-- ---- stopping, and going on

unfoldable pub halt : Ending → Scratch → Stopped
halt e x = stopped (record { marks = x.marks; ending = e }) x.work x.pivots

-- a refusal that closes the attempt
unfoldable pub refuse : Refusal → Scratch → Stopped
unfolding halt
refuse refusal x = halt (Ends refusal) x

-- a request: its time is noted; that for a derivative is counted
unfoldable pub ask : Ask → Float → Scratch → Stopped
unfolding halt
ask a time x = halt (Asks a) (on_marks (noting (with_request_time time)) x)

unfoldable pub ask_rhs : Ask → Float → Scratch → Stopped
unfolding ask
ask_rhs a time x = ask a time (on_marks (counting counting_rhs) x)

unfoldable pub choose : Bool → Stopped → Stopped → Stopped
choose true q r = q
choose false q r = r

-- goes on where the test holds, and ends in the refusal where it does not
unfoldable pub provided : Bool → Refusal → Scratch → Stopped → Stopped
unfolding choose
provided ok refusal x r = choose ok r (refuse refusal x)

module _ (g : Given) where
  abbrev n : ℕ
  n = g.setting.n

  abbrev s : ℕ
  s = g.setting.s

  abbrev time : Float
  time = g.setting.time

  abbrev step : Float
  step = g.setting.step

  -- ---- the stages

  -- the step is shown; the component error only for the embedded estimator with btilde
  unfoldable pub show : Scratch → Stopped
  show x =
      let counts = g.tableau.counts in
      halt Shows (on_marks (noting (with_error_shown (eqb counts.estimator 0 && present counts))) x)

  unfoldable pub finish : Scratch → Stopped
  finish x =
      provided (all_finite (part (candidate_at n) n x.work)) NonFinite x
      (provided (all_finite (part (error_at n) n x.work)) NonFinite x (show x))

  -- the derivative at stage i's time and state
  unfoldable pub ask_stage : ℕ → Scratch → Stopped
  ask_stage i x = let t = stage_time g.tableau time step i in provided (finite t) NonFinite x (ask_rhs (Stage i) t x)

  -- stage i: its state, then its derivative
  unfoldable pub open_stage : ℕ → Scratch → Stopped
  open_stage i x =
      let y = on_work (with_stage_state n g.tableau g.state i) x in
      provided (all_finite (part (stage_state_at n) n y.work)) NonFinite y (ask_stage i y)

  -- stage i, not the first, or the end
  unfoldable pub next_stage : ℕ → Scratch → Stopped
  next_stage i x = choose (eqb i s) (finish x) (open_stage i x)

  -- stage i's derivative is there: solve, add up, and go on
  unfoldable pub solve_stage : ℕ → Scratch → Stopped
  solve_stage i x =
      let y = on_marks (counting counting_solve) (on_work (with_stage_solved n s g.tableau x.pivots i step) x) in
      provided (all_finite (part (stage_at n i) n y.work)) NonFinite y
      (next_stage (suc i) (on_work (with_stage_added n g.tableau i) y))

  -- the first stage takes the derivative at the accepted state where its c is a zero
  unfoldable pub first_stage : Scratch → Stopped
  first_stage x =
      let y = on_work (with_stage_state n g.tableau g.state 0) x in
      provided (all_finite (part (stage_state_at n) n y.work)) NonFinite y
      (choose (eq (c_of g.tableau 0) 𝟎)
      (solve_stage 0 (on_work (λ w. puts w (rhs_stage_at n s 0) (component w (current_at n)) n) y))
      (ask_stage 0 y))

  -- ---- the matrix, its factors, then the first stage

  unfoldable pub factor : Scratch → Stopped
  factor x =
      let y = on_work (with_matrix n g.tableau step) x in
      let elimination = elimination_in n y.pivots y.work in
      let z = on_marks (counting counting_factorization) (scratch y.marks (with_factors n y.pivots y.work) elimination.pivots) in
      provided (all_finite (part (factors_at n) (n * n) y.work)) NonFinite y
      (provided (is_ok elimination.answer) Singular z (first_stage z))

  -- ---- the time partial, then the matrix

  unfoldable pub partial_done : Scratch → Stopped
  partial_done x =
      provided (all_finite (part (time_partial_at n) n x.work)) NonFinite x (factor (on_marks (noting with_differentiation) x))

  -- the time partial from the probes
  unfoldable pub combine : Scratch → Stopped
  combine x =
      let m = x.marks.memo in
      partial_done (on_work (with_partial n m.two_probes (m.first_probe ⊖ time) (m.second_probe ⊖ time)) x)

  unfoldable pub ask_first_probe : Result (Float × Option Float) Refusal → Scratch → Stopped
  ask_first_probe (Ok (first, second)) x = ask_rhs FirstProbe first (on_marks (noting (with_probes first second)) x)
  ask_first_probe (Err refusal) x = refuse refusal x

  -- the host's time partial, or the first of its probes
  unfoldable pub ask_partial : Scratch → Stopped
  ask_partial x =
      choose g.setting.host_time_partial (ask TimePartial time x)
      (ask_first_probe (probes g.setting.policy time step) x)

  -- ---- the Jacobian, then the time partial

  unfoldable pub jacobian_done : Scratch → Stopped
  jacobian_done x = provided (all_finite (part (jacobian_at n) (n * n) x.work)) NonFinite x (ask_partial x)

  -- column k of the probed Jacobian: the derivative at the probe's state
  unfoldable pub open_column : ℕ → Scratch → Stopped
  open_column k x =
      let y = on_work (with_probe_state n g.state k) x in
      provided (all_finite (part (probe_state_at n) n y.work)) NonFinite y
      (provided (not (eq (rise (el g.state k)) 𝟎)) TimeResolution y (ask_rhs (Column k) time y))

  unfoldable pub next_column : ℕ → Scratch → Stopped
  next_column k x = choose (eqb k n) (jacobian_done x) (open_column k x)

  -- the host's Jacobian, or the first of its columns
  unfoldable pub ask_jacobian : Scratch → Stopped
  ask_jacobian x = choose g.setting.host_jacobian (ask Jacobian time x) (next_column 0 x)

  unfoldable pub differentiate : Scratch → Stopped
  differentiate x = choose x.marks.memo.differentiation_valid (factor x) (ask_jacobian (on_marks (counting counting_jacobian) x))

  -- ---- the start

  -- the candidate is the state, and the error 0
  unfoldable pub begun : List Float → List Float
  begun w = puts (puts w (candidate_at n) (el g.state) n) (error_at n) (λ k. 𝟎) n

  unfoldable pub evaluate : Scratch → Stopped
  evaluate x = choose x.marks.memo.derivative_valid (differentiate x) (ask_rhs Derivative time x)

  unfoldable pub start : Scratch → Stopped
  start x = let y = on_work begun x in choose (eq step 𝟎) (show y) (evaluate y)

  -- ---- what a supply does: the values are written, then tested

  unfoldable pub written : ℕ → ℕ → List Float → Scratch → Scratch
  written at k values x = on_work (λ w. puts w at (el values) k) x

  unfoldable pub resume : Ask → List Float → Scratch → Stopped
  resume Derivative values x =
      let y = written (current_at n) n values x in
      provided (all_finite values) NonFinite y (differentiate (on_marks (noting with_derivative) y))
  resume Jacobian values x = jacobian_done (written (jacobian_at n) (n * n) values x)
  resume TimePartial values x = partial_done (written (time_partial_at n) n values x)
  resume FirstProbe values x =
      let y = written (time_partial_at n) n values x in
      provided (all_finite values) NonFinite y
      (choose y.marks.memo.two_probes (ask_rhs SecondProbe y.marks.memo.second_probe y) (combine y))
  resume SecondProbe values x =
      let y = written (probe_rhs_at n) n values x in
      provided (all_finite values) NonFinite y (combine y)
  resume (Column k) values x =
      let y = written (probe_rhs_at n) n values x in
      provided (all_finite values) NonFinite y
      (next_column (suc k) (on_work (with_column n k (rise (el g.state k))) y))
  resume (Stage i) values x =
      let y = written (rhs_stage_at n s i) n values x in
      provided (all_finite values) NonFinite y (solve_stage i y)

-- how many values a request asks for
unfoldable pub wanted : ℕ → Ask → ℕ
wanted n Derivative = n
wanted n Jacobian = n * n
wanted n TimePartial = n
wanted n FirstProbe = n
wanted n SecondProbe = n
wanted n (Column k) = n
wanted n (Stage i) = n

-- and where they are written
unfoldable pub place : ℕ → ℕ → Ask → ℕ
place n s Derivative = current_at n
place n s Jacobian = jacobian_at n
place n s TimePartial = time_partial_at n
place n s FirstProbe = time_partial_at n
place n s SecondProbe = probe_rhs_at n
place n s (Column k) = probe_rhs_at n
place n s (Stage i) = rhs_stage_at n s i
