-- What is noted where an open attempt halts, and how it ends. Assumes nothing.
use mathlib.Core.Path.{◌≡◌, refl, ap, ◌∙◌}
use mathlib.Core.Bool.{◌||◌}
use mathlib.Core.List.{[]}
use Rattle.std.specs.Prelude.{Result, Ok, Err, Option}
use Rattle.stepping.specs.declared.Refusal.{Refusal}
use Rattle.attempts.specs.declared.Ask.{Ask}
use Rattle.attempts.specs.Marks.{Counted}
use Rattle.attempts.specs.declared.Halt.{Halt}
use Rattle.attempts.specs.declared.Halt.TheVariants.{Derivative, Jacobian, TimePartial, FirstProbe, SecondProbe, Column, Stage, Shows}
use Rattle.attempts.specs.declared.Memo.{Memo}
use Rattle.attempts.specs.declared.Moved.{Moved}
use Rattle.attempts.specs.Marks.{Marks, with_caches, noting, counting, counting_rhs}
use Rattle.attempts.specs.Attempt.{Scratch, Ends, scratch, halt, refuse, ask, ask_rhs, on_marks}
use Rattle.attempts.specs.Calls.{halt_stop, moved_marks, moved_stop, stop_by, marked, ending_of}
use Rattle.phases.specs.Phases.{noted}

halt_notes : (h : Result Halt Refusal) (m : Marks) → (halt_stop h (scratch m [] [])).stop.marks.memo ≡ noted h m.memo
unfolding halt_stop halt refuse ask ask_rhs on_marks noting counting counting_rhs noted
halt_notes (Ok (Derivative time)) m = refl
halt_notes (Ok (Jacobian time)) m = refl
halt_notes (Ok (TimePartial time)) m = refl
halt_notes (Ok (FirstProbe first second)) m = refl
halt_notes (Ok (SecondProbe time)) m = refl
halt_notes (Ok (Column k time)) m = refl
halt_notes (Ok (Stage i time)) m = refl
halt_notes (Ok (Shows error)) m = refl
halt_notes (Err refusal) m = refl

pub memo_is : (r : Moved) (memo : Memo) (c : Counted) → (stop_by r (marked memo c)).marks.memo ≡ noted r.halt (with_caches (r.derivative || memo.derivative_valid) (r.differentiation || memo.differentiation_valid) memo)
unfolding stop_by moved_stop moved_marks on_marks
memo_is r memo c = halt_notes r.halt _

-- how it ends is the halt's alone
module _ (r : Moved) (m : Marks) where
  pub ends_asked : {h : Halt} (a : Option Ask) → r.halt ≡ Ok h → ((x : Scratch) → (halt_stop (Ok h) x).stop.ending ≡ ending_of a) → (stop_by r m).ending ≡ ending_of a
  unfolding stop_by moved_stop
  ends_asked a e f = ap (λ (h : Result Halt Refusal). (halt_stop h (on_marks (moved_marks r) (scratch m [] []))).stop.ending) e ∙ f _

  pub ends_refused : {k : Refusal} → r.halt ≡ Err k → (stop_by r m).ending ≡ Ends k
  unfolding stop_by moved_stop halt_stop refuse halt
  ends_refused e = ap (λ (h : Result Halt Refusal). (halt_stop h (on_marks (moved_marks r) (scratch m [] []))).stop.ending) e
