-- The needed work as a call leaves it, and the work beyond it. Assumes nothing.
use Prim.Native.Nat.{ℕ, zero, suc, ◌+◌, ◌≤◌}
use native.Mathlib.Omega.{arith}
use mathlib.Core.Path.{◌≡◌, sym, ap, ◌∙◌}
use mathlib.Core.List.{List, ◌++◌}
use lib.Ieee.{Float}
use lib.ListN.{length, take, drop, set, take-append-drop, length-take}
use lib.Seq.{length-take-le, set-append_left}
use Rattle.vector.specs.Parts.{puts}
use Rattle.vector.proofs.Stores.{length-puts}
use Rattle.vector.proofs.Fronts.{take_front, drop_front, length_replaced}
use Rattle.stepping.specs.Refusals.{Test, first_of}
use Rattle.stages.specs.Layout.{needed_work}
use Rattle.refusals.specs.declared.Fixed.{Fixed}
use Rattle.refusals.specs.declared.Progress.{Progress}
use Rattle.refusals.specs.Answers.{Lent, lending}
use Rattle.refusals.specs.Tests.{size_tests, fit_tests, lent_tests}
use Rattle.rosenbrock.specs.Stepper.{Call, System, needed, trimmed, untrimmed, result, stepped}
use Rattle.rosenbrock.proofs.Lengths.{OutLong, called_keeps}

-- a needed work as long as the old one, put in its place
module _ (k : ℕ) (old new : Lent) (h : length new.work ≡ length (trimmed k old).work) where
  pub trim_untrim : trimmed k (untrimmed k old new) ≡ new
  unfolding trimmed untrimmed
  trim_untrim = λ i. record { state = new.state; work = take_front k old.work new.work h i; pivots = new.pivots }

  pub untrim_tail : drop k (untrimmed k old new).work ≡ drop k old.work
  unfolding trimmed untrimmed
  untrim_tail = drop_front k old.work new.work h

  pub untrim_length : length (untrimmed k old new).work ≡ length old.work
  unfolding trimmed untrimmed
  untrim_length = length_replaced k old.work new.work h

module _ (c : Call) (y : System) where
  result_keeps : OutLong (trimmed (needed y.stepper.fixed) y.lent) (result c y)
  unfolding result
  result_keeps = called_keeps _ c _ _

  -- the needed memory after a call is what the call hands back
  pub memory_after : trimmed (needed y.stepper.fixed) (stepped c y).system.lent ≡ (result c y).lent
  unfolding stepped
  memory_after = trim_untrim (needed y.stepper.fixed) y.lent (result c y).lent result_keeps.of_work

  pub tail_after : drop (needed y.stepper.fixed) (stepped c y).system.lent.work ≡ drop (needed y.stepper.fixed) y.lent.work
  unfolding stepped
  tail_after = untrim_tail (needed y.stepper.fixed) y.lent (result c y).lent result_keeps.of_work

  pub work_after : length (stepped c y).system.lent.work ≡ length y.lent.work
  unfolding stepped
  work_after = untrim_length (needed y.stepper.fixed) y.lent (result c y).lent result_keeps.of_work

  pub pivots_after : length (stepped c y).system.lent.pivots ≡ length y.lent.pivots
  unfolding stepped untrimmed trimmed
  pivots_after = result_keeps.of_pivots

-- a store into the needed work is a store into the whole
pub puts_front : {A : Type 0} (k : ℕ) (w : List A) (at : ℕ) (f : ℕ → A) (n : ℕ) → at + n ≤ k → k ≤ length w → puts (take k w) at f n ++ drop k w ≡ puts w at f n
unfolding puts
puts_front k w at f zero h l = take-append-drop k w
puts_front {A} k w at f (suc n) h l =
    sym (set-append_left (puts (take k w) at f n) (drop k w) (at + n) (f n) (omega (arith, length-puts (take k w) at f n, length-take-le k w l)))
    ∙ ap (λ (v : List A). set v (at + n) (f n)) (puts_front k w at f n (omega arith) l)

-- the first tests, from the lengths as they are lent
module _ (fx : Fixed) (x : Progress) where
  -- on the trimmed memory the lengths are cut
  pub cut : (state work : List Float) (pivots : List ℕ) (rest : List Test)
      → first_of (lent_tests fx x (length state) (length work) (length pivots) ++ rest) ≡ first_of (fit_tests fx x (trimmed (needed fx) (lending state work pivots)) ++ rest)
  unfolding trimmed needed
  cut state work pivots rest =
      ap (λ (k : ℕ). first_of (size_tests fx.n fx.s x.request x.stage (length state) k (length pivots) ++ rest))
      (sym (length-take (needed_work fx.n fx.s) work))
