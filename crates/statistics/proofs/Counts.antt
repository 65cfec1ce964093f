-- What an open attempt counts. Assumes nothing.
use mathlib.Core.Path.{◌≡◌, refl, ◌∙◌}
use mathlib.Core.Bool.{Bool, true, false, ◌||◌, cond}
use mathlib.Core.List.{[]}
use Rattle.std.specs.Prelude.{Result, Ok, Err}
use Rattle.stepping.specs.declared.Refusal.{Refusal}
use Rattle.attempts.specs.Marks.{Counted}
use Rattle.attempts.specs.declared.Halt.{Halt}
use Rattle.attempts.specs.declared.Halt.TheVariants.{Derivative, Jacobian, TimePartial, FirstProbe, SecondProbe, Column, Stage, Shows}
use Rattle.attempts.specs.declared.Memo.{Memo}
use Rattle.attempts.specs.declared.Moved.{Moved}
use Rattle.attempts.specs.Marks.{Marks, nothing_counted, one_attempt, noting, counting, counting_rhs}
use Rattle.attempts.specs.Attempt.{scratch, halt, refuse, ask, ask_rhs, on_marks}
use Rattle.attempts.specs.Calls.{halt_stop, moved_marks, moved_stop, stop_by, marked}
use Rattle.statistics.specs.Counters.{asks_derivative}

-- itself where it opens, the request, and what it moved
abbrev counted_of : Bool → Bool → Bool → Bool → Bool → Counted
counted_of opens asks jacobian factorization solve =
    record {
      attempts = opens;
      rhs_evaluations = asks;
      accepted_steps = false;
      rejected_steps = false;
      jacobian_evaluations = jacobian;
      factorizations = factorization;
      linear_solves = solve;
    }

abbrev counting_by : Bool → Bool → Moved → Counted
counting_by opens asks r = counted_of opens asks r.jacobian r.factorization r.solve

or_false : (b : Bool) → (b || false) ≡ b
or_false true = refl
or_false false = refl

-- a request for the derivative is counted, and nothing else that halts
abbrev with_rhs : Bool → Counted → Counted
with_rhs b c =
    record {
      attempts = c.attempts;
      rhs_evaluations = b;
      accepted_steps = c.accepted_steps;
      rejected_steps = c.rejected_steps;
      jacobian_evaluations = c.jacobian_evaluations;
      factorizations = c.factorizations;
      linear_solves = c.linear_solves;
    }

halted : (h : Result Halt Refusal) (m : Marks) → m.counted.rhs_evaluations ≡ false → (halt_stop h (scratch m [] [])).stop.marks.counted ≡ with_rhs (asks_derivative h) m.counted
unfolding halt_stop halt refuse ask ask_rhs on_marks noting counting counting_rhs
halted (Ok (Derivative time)) m e = refl
halted (Ok (Jacobian time)) m e = λ i. with_rhs (e i) m.counted
halted (Ok (TimePartial time)) m e = λ i. with_rhs (e i) m.counted
halted (Ok (FirstProbe first second)) m e = refl
halted (Ok (SecondProbe time)) m e = refl
halted (Ok (Column k time)) m e = refl
halted (Ok (Stage j time)) m e = refl
halted (Ok (Shows error)) m e = λ i. with_rhs (e i) m.counted
halted (Err refusal) m e = λ i. with_rhs (e i) m.counted

flags : (r : Moved) (memo : Memo) (opens b : Bool) → with_rhs b (moved_marks r (marked memo (cond opens one_attempt nothing_counted))).counted ≡ counting_by opens b r
unfolding moved_marks
flags r memo true b = λ i. counted_of true b (or_false r.jacobian i) (or_false r.factorization i) (or_false r.solve i)
flags r memo false b = λ i. counted_of false b (or_false r.jacobian i) (or_false r.factorization i) (or_false r.solve i)

none_asked : (r : Moved) (memo : Memo) (opens : Bool) → (moved_marks r (marked memo (cond opens one_attempt nothing_counted))).counted.rhs_evaluations ≡ false
unfolding moved_marks
none_asked r memo true = refl
none_asked r memo false = refl

pub counted_is : (r : Moved) (memo : Memo) (opens : Bool) → (stop_by r (marked memo (cond opens one_attempt nothing_counted))).marks.counted ≡ counting_by opens (asks_derivative r.halt) r
unfolding stop_by moved_stop on_marks
counted_is r memo opens = halted r.halt _ (none_asked r memo opens) ∙ flags r memo opens (asks_derivative r.halt)
