-- The segment at its ends and between them, and what passing its tests tells. Assumes nothing.
use mathlib.Core.Path.{◌≡◌, refl, sym, ◌∙◌}
use mathlib.Core.Bool.{true, false}
use mathlib.Core.List.{List}
use lib.Dec.{eqb, leb}
use lib.ListN.{length}
use lib.Ieee.{Float, nan, eq}
use borrow.Author.Tests.{leb-true, eqb-true}
use Rattle.float.proofs.Cases.{yes, no, and_left, and_right}
use Rattle.vector.specs.Lists.{el, table}
use Rattle.vector.proofs.Lists.{table_own, table_same}
use Rattle.dense.specs.Segment.{Segment, size, theta, inside, component}
use Rattle.dense.specs.Shown.{Fits}
use Rattle.dense.specs.Interpolation.{times_fit, sizes_fit, valid}

pub valid_fits : (s : Segment) → valid s ≡ true → Fits s
unfolding valid sizes_fit
valid_fits s h =
    let n = size s in
    let h₀ = and_right (times_fit s.start_time s.end_time) _ h in
    let h₁ = and_left (sizes_fit n (length s.end_state) (length s.corrections) s.order) _ h₀ in
    let h₂ = and_right (leb 1 n) _ h₁ in
    let h₃ = and_right (leb n 32) _ h₂ in
    let h₄ = and_right (eqb (length s.end_state) n) _ h₃ in
    let h₅ = and_right (leb 2 s.order) _ h₄ in
    record {
      states = eqb-true _ _ (and_left (eqb (length s.end_state) n) _ h₃);
      least = leb-true _ _ (and_left (leb 2 s.order) _ h₄);
      most = leb-true _ _ (and_left (leb s.order 4) _ h₅);
      rows = eqb-true _ _ (and_right (leb s.order 4) _ h₅);
    }

module _ (s : Segment) (time : Float) where
  pub at_start : {y : List Float} → eq time s.start_time ≡ true → y ≡ s.start_state → y ≡ table (component s time) (size s)
  unfolding component
  at_start t e =
      e ∙ sym (table_same (component s time) (el s.start_state) (size s) (λ i l. sym (yes _ t refl)) ∙ table_own nan s.start_state (size s) refl)

  pub at_end : {y : List Float} → eq time s.start_time ≡ false → eq time s.end_time ≡ true → length s.end_state ≡ size s → y ≡ s.end_state → y ≡ table (component s time) (size s)
  unfolding component
  at_end t u l e =
      e ∙ sym (table_same (component s time) (el s.end_state) (size s) (λ i k. sym (no _ t (yes _ u refl))) ∙ table_own nan s.end_state (size s) l)

  pub amid : {y : List Float} → eq time s.start_time ≡ false → eq time s.end_time ≡ false
      → y ≡ table (inside s.start_state s.end_state s.corrections s.order (theta s time)) (size s) → y ≡ table (component s time) (size s)
  unfolding component
  amid t u e = e ∙ sym (table_same (component s time) _ (size s) (λ i k. sym (no _ t (no _ u refl))))
