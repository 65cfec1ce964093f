-- The tests of a call, the first ones from the lengths as they are lent, and what they tell. Assumes nothing.
use Prim.Native.Nat.{ℕ, min, ◌≤◌, ◌*◌}
use native.Mathlib.Omega.{arith}
use mathlib.Core.Path.{◌≡◌}
use mathlib.Core.List.{List, ◌++◌}
use Rattle.std.specs.Prelude.{Ok}
use Rattle.stepping.specs.declared.Refusal.TheVariants.{Dimension}
use Rattle.stepping.specs.Refusals.{Test, first_of}
use Rattle.stepping.proofs.Refusals.{held, all_passed}
use Rattle.stages.specs.Layout.{needed_work}
use Rattle.refusals.specs.declared.Fixed.{Fixed}
use Rattle.refusals.specs.declared.Progress.{Progress}
use Rattle.refusals.specs.Tests.{file_tests, lent_tests}
use Rattle.refusals.proofs.Fitting.{Shape, shape_of}

pub fitted : (fx : Fixed) (x : Progress) (state work pivots : ℕ) (rest : List Test) → first_of (lent_tests fx x state work pivots ++ rest) ≡ Ok tt
    → Shape fx.n fx.s state (min (needed_work fx.n fx.s) work) pivots
fitted fx x state work pivots rest e = shape_of _ _ _ _ _ (held Dimension _ _ e).0

-- the needed work was lent
pub lent_work : {n s state work pivots : ℕ} → Shape n s state (min (needed_work n s) work) pivots → needed_work n s ≤ work
lent_work h = let e = h.of_work in omega arith

-- the first eight vectors lie in it
pub vectors_in : (n s : ℕ) → 8 * n ≤ needed_work n s
unfolding needed_work
vectors_in n s = omega arith

-- the file's tests, then others
pub after_file : (s : ℕ) (file : List ℕ) (rest : List Test) → first_of (file_tests s file) ≡ Ok tt → first_of (file_tests s file ++ rest) ≡ first_of rest
after_file s file rest h = all_passed (file_tests s file) rest h
