-- A guard that refuses because of its tests, or goes on. Assumes nothing.
use mathlib.Core.Path.{◌≡◌, ap}
use mathlib.Core.Bool.{true, false}
use mathlib.Core.List.{List}
use Rattle.std.specs.Prelude.{Result, Ok, is_ok, ⊤}
use Rattle.stepping.specs.declared.Refusal.{Refusal}
use Rattle.stepping.specs.Refusals.{Test, first_of}
use Rattle.refusals.specs.declared.Progress.{Progress}
use Rattle.refusals.specs.Answers.{Lent}
use Rattle.rosenbrock.specs.Calls.{Out, refusal, guarded}
use Rattle.lists.specs.Opening.{pass}
use Rattle.lists.proofs.Firsts.{either_known}

pub guarded_known : (P : Out → Type 0) (tests : List Test) (x : Progress) (m : Lent) (o : Out) → ((k : Refusal) → pass tests ≡ false → P (refusal x m k))
    → (first_of tests ≡ Ok tt → P o)
    → P (guarded tests x m o)
unfolding guarded
guarded_known P tests x m o f g = either_known (refusal x m) P (first_of tests) o (λ k e. f k (ap is_ok e)) g

pub passes : {r : Result ⊤ Refusal} → r ≡ Ok tt → is_ok r ≡ true
passes e = ap is_ok e
