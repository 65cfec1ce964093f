-- The making: the one equation with `making_of`. Assumes nothing.
use Prim.Native.Nat.{ℕ, min}
use mathlib.Core.Path.{◌≡◌, refl, sym, ap, ◌∙◌}
use mathlib.Core.Bool.{not}
use mathlib.Core.List.{List, [], ◌∷◌, ◌++◌}
use lib.ListN.{length, take, drop, replicate, length-take}
use lib.Dec.{eqb}
use lib.Ieee.{Float}
use Rattle.float.specs.Operators.{𝟎}
use Rattle.std.specs.Prelude.{Result, Ok, Err, ⊤}
use Rattle.stepping.specs.declared.Refusal.{Refusal}
use Rattle.stepping.specs.declared.Refusal.TheVariants.{UnsupportedTableau, Dimension, TableauFile}
use Rattle.stepping.specs.Refusals.{◌when◌, first_of, finite_test}
use Rattle.stepping.proofs.Refusals.{held, is_refused, is_answered}
use Rattle.time_difference.specs.declared.TimeDifferencePolicy.{TimeDifferencePolicy}
use Rattle.tableau.specs.Tableau.{stages_of}
use Rattle.tableau.specs.File.{tableau_of, accepts}
use Rattle.stages.specs.Layout.{needed_work}
use Rattle.refusals.specs.declared.Progress.{Progress}
use Rattle.statistics.specs.declared.StepStatistics.{StepStatistics}
use Rattle.refusals.specs.Answers.{Lent, lending}
use Rattle.refusals.specs.Tests.{shape_fits, making_tests, lent_new_tests}
use Rattle.rosenbrock.specs.Calls.{cleared}
use Rattle.phases.specs.Phases.{fresh}
use Rattle.rosenbrock.specs.Stepper as Stepper
use Rattle.statistics.specs.Counters.{no_statistics}
use Rattle.rosenbrock.specs.Stepper.{needed, trimmed, untrimmed, not_made, fixed_by, made_of, make}
use Rattle.rosenbrock.specs.Outcomes.{after_making, memory_after, making_of, made_by}
use Rattle.refusals.proofs.Fitting.{Shape, shape_of}

module _ (file : List ℕ) (policy : TimeDifferencePolicy) (time : Float) (state work : List Float) (pivots : List ℕ) {k : Result ⊤ Refusal}
    (e : k ≡ first_of (lent_new_tests file time state (length work) (length pivots))) where
  abbrev m : Lent
  m = lending state work pivots

  cut_tests : k ≡ first_of (making_tests file time (trimmed (needed (fixed_by file policy m)) m))
  unfolding trimmed needed fixed_by
  cut_tests =
      let n = length state in
      let s = stages_of (tableau_of file) in
      e
      ∙ ap (λ (j : ℕ). first_of ((TableauFile when not (accepts file)) ∷ (Dimension when not (shape_fits n s n j (length pivots)))
      ∷ finite_test state ∷ finite_test (time ∷ []) ∷ (UnsupportedTableau when eqb (tableau_of file).counts.kind 1) ∷ []))
      (sym (length-take (needed_work n s) work))

  pub new_refused : {r : Refusal} → k ≡ Err r → made_by (Err r) state work pivots ≡ making_of file policy time m
  unfolding making_of make made_by memory_after
  new_refused h = ap (λ (r : Stepper.Made). after_making r (memory_after r m)) (is_refused not_made _ (sym cut_tests ∙ h))

  module _ (z : k ≡ Ok tt) where
    pub new_shape : {s : ℕ} → s ≡ stages_of (tableau_of file) → Shape (length state) s (length state) (min (needed_work (length state) s) (length work)) (length pivots)
    new_shape g =
        let n = length state in
        let s = stages_of (tableau_of file) in
        let t = held TableauFile (accepts file) _ (sym e ∙ z) in
        rw g (shape_of _ _ _ _ _ (held Dimension (shape_fits n s n (min (needed_work n s) (length work)) (length pivots)) _ t.1).0)

    pub new_made : {s need : ℕ} {x : Progress} {t : StepStatistics} {w : List Float} {p : List ℕ}
        → s ≡ stages_of (tableau_of file) → need ≡ needed_work (length state) s → x ≡ fresh time → t ≡ no_statistics
        → w ≡ replicate (length (take need work)) 𝟎 → p ≡ replicate (length pivots) 0
        → made_by (Ok (record { fixed = record { n = length state; s = s; policy = policy }; progress = x; statistics = t })) state (w ++ drop need work) p ≡ making_of file policy time m
    unfolding making_of make made_by memory_after made_of cleared untrimmed trimmed needed fixed_by
    new_made a b c d f g =
        let b' = b ∙ ap (needed_work (length state)) a in
        let f' = f ∙ ap (λ (j : ℕ). replicate (length (take j work)) 𝟎) b' in
        (λ i. made_by (Ok (record { fixed = record { n = length state; s = a i; policy = policy }; progress = c i; statistics = d i })) state (f' i ++ drop (b' i) work) (g i))
        ∙ ap (λ (r : Stepper.Made). after_making r (memory_after r m)) (is_answered not_made (sym cut_tests ∙ z) refl)
