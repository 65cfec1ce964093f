-- What the code of an open attempt needs of its callers, and what it hands back. Definitions only.
use Rattle.std.specs.Prelude.{ℕ, ◌≤◌, ◌<◌, ◌≡◌, false, ◌||◌, List, [], get_or, length, Option, None, Some, Result, Ok, Err}
use Rattle.stepping.specs.declared.Refusal.{Refusal}
use Rattle.tableau.specs.File.{tableau_of}
use Rattle.stages.specs.declared.work.Work.{Work}
use Rattle.stages.specs.Lent.{Same}
use Rattle.attempts.specs.declared.Setting.{Setting}
use Rattle.attempts.specs.declared.Memo.{Memo}
use Rattle.attempts.specs.declared.Ask.{Ask}
use Rattle.attempts.specs.declared.Ask.TheVariants.{Derivative, Jacobian, TimePartial, FirstProbe, SecondProbe, Column, Stage}
use Rattle.attempts.specs.declared.Halt.{Halt}
use Rattle.attempts.specs.declared.Halt.TheVariants as halts
use Rattle.attempts.specs.declared.Moved.{Moved}
use Rattle.attempts.specs.declared.Given as code
use Rattle.attempts.specs.Marks.{Counted, Marks, with_caches, with_error_shown, with_probes, counting_solve, noting, counting}
use Rattle.attempts.specs.Attempt.{Ending, Asks, Shows, Stop, Given, given, Scratch, Stopped, scratch, on_marks, halt, refuse, ask, ask_rhs, wanted}

-- what the code is given: some stage, and a state of n components
pub record Fits (g : code.Given) : Type 0 where
  pub some : 1 ≤ g.setting.s
  pub state : length g.state.now ≡ g.setting.n

-- the same, with the work of its sizes
pub record Sizes (g : code.Given) (w : Work) : Type 0 where
  pub components : w.layout.n ≡ g.setting.n
  pub stages : w.layout.s ≡ g.setting.s
  pub fits : Fits g

-- a request that is answered by so many values: its column or stage is one, and each pivot is a row where a stage is to be solved
pub record Answers (g : Setting) (pivots : List ℕ) (ask : Ask) (count : ℕ) : Type 0 where
  pub column : (k : ℕ) → ask ≡ Column k → k < g.n
  pub stage : (i : ℕ) → ask ≡ Stage i → i < g.s
  pub within : (i : ℕ) → ask ≡ Stage i → (k : ℕ) → k < g.n → get_or pivots k 0 < g.n
  pub values : count ≡ wanted g.n ask

-- ---- what is handed over

-- what the code is given, with the tableau that its file holds
abbrev pub given_by : code.Given → Given
given_by g = given g.setting (tableau_of g.file.now) g.state.now

-- a memo with what the call has counted so far
abbrev pub marked : Memo → Counted → Marks
marked memo c = record { memo = memo; counted = c }

-- ---- what is handed back: what an open attempt moves, and how it halts

-- what is noted and counted where it halts
unfoldable pub halt_stop : Result Halt Refusal → Scratch → Stopped
halt_stop (Ok (halts.Derivative time)) x = ask_rhs Derivative time x
halt_stop (Ok (halts.Jacobian time)) x = ask Jacobian time x
halt_stop (Ok (halts.TimePartial time)) x = ask TimePartial time x
halt_stop (Ok (halts.FirstProbe first second)) x = ask_rhs FirstProbe first (on_marks (noting (with_probes first second)) x)
halt_stop (Ok (halts.SecondProbe time)) x = ask_rhs SecondProbe time x
halt_stop (Ok (halts.Column k time)) x = ask_rhs (Column k) time x
halt_stop (Ok (halts.Stage i time)) x = ask_rhs (Stage i) time x
halt_stop (Ok (halts.Shows error)) x = halt Shows (on_marks (noting (with_error_shown error)) x)
halt_stop (Err refusal) x = refuse refusal x

-- the caches that now hold, and what was counted
unfoldable pub moved_marks : Moved → Marks → Marks
moved_marks r m =
    let c = m.counted in
    record {
      memo = with_caches (r.derivative || m.memo.derivative_valid) (r.differentiation || m.memo.differentiation_valid) m.memo;
      counted =
          record c {
            jacobian_evaluations = r.jacobian || c.jacobian_evaluations;
            factorizations = r.factorization || c.factorizations;
            linear_solves = r.solve || c.linear_solves;
          };
    }

-- the same with the halt
unfoldable pub moved_stop : Moved → Scratch → Stopped
moved_stop r x = halt_stop r.halt (on_marks (moved_marks r) x)

-- how it stops with these marks; the memory is not read for it
unfoldable pub stop_by : Moved → Marks → Stop
stop_by r m = (moved_stop r (scratch m [] [])).stop

-- no cache, and nothing counted
abbrev pub nothing : Result Halt Refusal → Moved
nothing h =
    record {
      derivative = false;
      differentiation = false;
      jacobian = false;
      factorization = false;
      solve = false;
      halt = h;
    }

-- how it stops where this is asked, if anything is
abbrev pub ending_of : Option Ask → Ending
ending_of None = Shows
ending_of (Some a) = Asks a

-- how it halts by f, and that the same work is lent as before
pub record Halts (r : Result Halt Refusal) (old new : Work) (f : Scratch → Stopped) : Type 0 where
  pub stops : (m : Marks) (p : List ℕ) → halt_stop r (scratch m new.cells.now p) ≡ f (scratch m old.cells.now p)
  pub same : Same old new

-- the same, where a solve is still to be counted
pub record Solves (r : Result Halt Refusal) (old new : Work) (p : List ℕ) (f : Scratch → Stopped) : Type 0 where
  pub stops : (m : Marks) → halt_stop r (on_marks (counting counting_solve) (scratch m new.cells.now p)) ≡ f (scratch m old.cells.now p)
  pub same : Same old new

-- what it moves and how it halts by f, whatever the marks
pub record Moves (r : Moved) (old new : Work) (pivots pivots' : List ℕ) (f : Scratch → Stopped) : Type 0 where
  pub stops : (m : Marks) → moved_stop r (scratch m new.cells.now pivots') ≡ f (scratch m old.cells.now pivots)
  pub same : Same old new

-- the same, where the memo is this one
pub record MovesFrom (memo : Memo) (r : Moved) (old new : Work) (pivots pivots' : List ℕ) (f : Scratch → Stopped) : Type 0 where
  pub stops : (c : Counted) → moved_stop r (scratch (marked memo c) new.cells.now pivots') ≡ f (scratch (marked memo c) old.cells.now pivots)
  pub same : Same old new
