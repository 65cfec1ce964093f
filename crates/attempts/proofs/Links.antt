-- The links of an attempt: what a test, a call or a halt comes to in the definitions. Assumes nothing.
use Prim.Native.Nat.{ℕ}
use mathlib.Core.Path.{◌≡◌, refl}
use mathlib.Core.Bool.{Bool, true, ◌||◌, or-true}
use mathlib.Core.List.{List, []}
use lib.Ieee.{Float}
use Rattle.std.specs.Prelude.{Result, Ok, Err}
use Rattle.stepping.specs.declared.Refusal.{Refusal}
use Rattle.attempts.specs.declared.Halt.{Halt}
use Rattle.attempts.specs.declared.Halt.TheVariants as halts
use Rattle.attempts.specs.declared.Moved.{Moved}
use Rattle.attempts.specs.Marks.{Marks}
use Rattle.attempts.specs.Attempt.{scratch, stopped, on_marks, halt, refuse, ask, ask_rhs}
use Rattle.attempts.specs.Calls.{halt_stop, moved_marks, moved_stop, stop_by}

pub or_true : (b : Bool) → (b || true) ≡ true
or_true b = or-true b

-- ---- what the calls that do the arithmetic hand back

halt_stops : (h : Result Halt Refusal) (m : Marks) (w : List Float) (p : List ℕ) → stopped (halt_stop h (scratch m [] [])).stop w p ≡ halt_stop h (scratch m w p)
unfolding halt_stop ask_rhs ask refuse halt on_marks
halt_stops (Ok (halts.Derivative time)) m w p = refl
halt_stops (Ok (halts.Jacobian time)) m w p = refl
halt_stops (Ok (halts.TimePartial time)) m w p = refl
halt_stops (Ok (halts.FirstProbe first second)) m w p = refl
halt_stops (Ok (halts.SecondProbe time)) m w p = refl
halt_stops (Ok (halts.Column k time)) m w p = refl
halt_stops (Ok (halts.Stage i time)) m w p = refl
halt_stops (Ok (halts.Shows error)) m w p = refl
halt_stops (Err refusal) m w p = refl

pub moved_stops : (r : Moved) (m : Marks) (w : List Float) (p : List ℕ) → stopped (stop_by r m) w p ≡ moved_stop r (scratch m w p)
unfolding stop_by moved_stop on_marks
moved_stops r m w p = halt_stops r.halt (moved_marks r m) w p
