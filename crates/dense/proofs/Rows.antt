-- Horner's scheme, row by row from the last. Assumes nothing.
use Prim.Native.Nat.{ℕ, suc, ◌-◌, ◌<◌}
use native.Mathlib.Omega.{arith}
use mathlib.Core.Path.{◌≡◌, sym, ap, ◌∙◌}
use lib.Ieee.{Float}
use Rattle.float.specs.Operators.{◌⊕◌, ◌⊗◌}
use Rattle.dense.specs.Segment.{horner}

-- the row above row r, of `order` rows
pub row_above : (c : ℕ → Float) (θ : Float) (r order : ℕ) {p : Float} → 0 < r → r < order → p ≡ horner c θ r (order - 1 - r)
    → c (r - 1) ⊕ θ ⊗ p ≡ horner c θ (r - 1) (order - 1 - (r - 1))
unfolding horner
row_above c θ r order l h e =
    let q : order - 1 - (r - 1) ≡ suc (order - 1 - r) = omega arith in
    let s : r ≡ suc (r - 1) = omega arith in
    ap (λ (t : Float). c (r - 1) ⊕ θ ⊗ t) (e ∙ ap (λ (m : ℕ). horner c θ m (order - 1 - r)) s) ∙ sym (ap (horner c θ (r - 1)) q)
