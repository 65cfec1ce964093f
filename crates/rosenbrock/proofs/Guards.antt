-- A call that is guarded by tests: what holds of it, and when it goes on. Assumes nothing.
use Rattle.std.specs.Prelude.{Ok}
use Rattle.stepping.specs.declared.Refusal.{Refusal}
use mathlib.Core.Path.{◌≡◌, refl, sym}
use mathlib.Core.List.{List}
use Rattle.stepping.specs.Refusals.{Test, first_of}
use Rattle.stepping.proofs.Refusals.{either_way, is_answered}
use Rattle.refusals.specs.declared.Progress.{Progress}
use Rattle.refusals.specs.Answers.{Lent, done}
use Rattle.rosenbrock.specs.Calls.{Out, refusal, guarded}

module _ (tests : List Test) (x : Progress) (m : Lent) (o : Out) where
  -- what holds of every refusal, and of the rest where all tests are passed
  pub guarded_either : (P : Out → Type 0) → ((k : Refusal) → P (refusal x m k)) → (first_of tests ≡ Ok tt → P o) → P (guarded tests x m o)
  unfolding guarded
  guarded_either P f g = either_way (refusal x m) P (first_of tests) o f g

  pub guarded_passed : first_of tests ≡ Ok tt → guarded tests x m o ≡ o
  unfolding guarded
  guarded_passed e = sym (is_answered (refusal x m) e refl)

  -- a call that was done passed its tests
  pub done_passed : (guarded tests x m o).answer ≡ done → first_of tests ≡ Ok tt
  unfolding refusal
  done_passed = guarded_either (λ (q : Out). q.answer ≡ done → first_of tests ≡ Ok tt) (λ k e. cc) (λ h e. h)
