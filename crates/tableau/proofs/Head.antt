-- The twelve numbers, as the code works them out. Assumes nothing.
use Prim.Native.Nat.{ℕ, ◌+◌, ◌*◌}
use native.Mathlib.Omega.{arith}
use mathlib.Core.Path.{◌≡◌, ap, ◌∙◌}
use mathlib.Core.List.{[], ◌∷◌}
use Rattle.tableau.specs.declared.Counts.{Counts}
use Rattle.tableau.specs.Tableau.{triangle, coupling_at, c_at, d_at, b_at, btilde_at, if_present, how_many}
use Rattle.tableau.specs.File.{place, header}

module _ (k : Counts) {m : ℕ} (e : m ≡ triangle k.stages) where
  abbrev coupling : ℕ
  coupling = 56 + 8 * m

  abbrev c : ℕ
  c = coupling + 8 * m

  abbrev d : ℕ
  d = c + 8 * k.stages

  abbrev b : ℕ
  b = d + 8 * k.stages

  abbrev end : ℕ
  end = b + 8 * k.stages

  pub header_is : {x y : ℕ} → x ≡ if_present k end → y ≡ if_present k k.stages → (k.stages ∷ k.kind ∷ k.estimator ∷ k.btilde ∷ 48 ∷ 56 ∷ coupling ∷ c ∷ d ∷ b ∷ x ∷ (end + 8 * y) ∷ []) ≡ header k
  unfolding header how_many
  header_is {x} {y} f g =
      let s = k.stages in
      let e1 : coupling ≡ place (coupling_at s) = omega arith in
      let e2 : c ≡ place (c_at s) = omega arith in
      let e3 : d ≡ place (d_at s) = omega arith in
      let e4 : b ≡ place (b_at s) = omega arith in
      let e5 : x ≡ if_present k (place (btilde_at s)) = f ∙ ap (if_present k) (omega arith) in
      let e6 : end + 8 * y ≡ place (btilde_at s + if_present k s) = omega arith in
      cc
