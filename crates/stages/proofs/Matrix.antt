-- The matrix of the stages, by entries. Assumes nothing.
use Prim.Native.Nat.{ℕ, ◌+◌, ◌*◌, ◌<◌}
use native.Mathlib.Omega.{arith}
use mathlib.Core.Path.{◌≡◌, sym, ap, ◌∙◌}
use mathlib.Core.Bool.{cond}
use mathlib.Core.List.{List}
use mathlib.Core.Logic.{inl}
use lib.Arith.{digits_lt}
use lib.Dec.{eqb}
use lib.ListN.{set}
use lib.Ieee.{Float, nan}
use Rattle.float.specs.Operators.{◌⊖◌, ◌⊗◌, 𝟎, 𝟏}
use Rattle.vector.specs.Lists.{el}
use Rattle.vector.specs.Parts.{part, puts}
use Rattle.vector.proofs.Stores.{puts_left, puts_more}
use Rattle.vector.proofs.Matrices.{rows_at}
use Rattle.vector.proofs.Parts.{part_at}
use Rattle.tableau.specs.Tableau.{Tableau, gamma_of}
use Rattle.stages.specs.Layout.{jacobian_at, factors_at}
use Rattle.stages.specs.Method.{stage_matrix}
use Rattle.stages.specs.Memory.{component}

module _ (n : ℕ) (t : Tableau) (h : Float) (w : List Float) where
  abbrev pub matrix : List Float
  matrix = stage_matrix t h n (part (jacobian_at n) (n * n) w)

  entry_is : (i j : ℕ) → i < n → j < n → el matrix (i * n + j) ≡ cond (eqb i j) 𝟏 𝟎 ⊖ (h ⊗ gamma_of t) ⊗ component w (jacobian_at n) (i * n + j)
  unfolding stage_matrix
  entry_is i j a b =
      rows_at _ n n i j a b
      ∙ ap (λ (x : Float). cond (eqb i j) 𝟏 𝟎 ⊖ (h ⊗ gamma_of t) ⊗ x) (part_at nan (jacobian_at n) (n * n) w (i * n + j) (digits_lt a b))

  -- the loops' next store
  pub entry_more : (i j : ℕ) → i < n → j < n → {v : List Float} {to from : ℕ} {c u : Float} → v ≡ puts w (factors_at n) (el matrix) (i * n + j)
      → to ≡ factors_at n → from ≡ jacobian_at n → c ≡ h ⊗ gamma_of t → u ≡ cond (eqb i j) 𝟏 𝟎
      → set v (to + (i * n + j)) (u ⊖ c ⊗ component v from (i * n + j)) ≡ puts w (factors_at n) (el matrix) (i * n + (j + 1))
  entry_more i j a b {v} {to} {from} {c} {u} e p q f g =
      let k = i * n + j in
      let l : k < n * n = digits_lt a b in
      let o : i * n + (j + 1) ≡ k + 1 = omega arith in
      let x : component v from k ≡ component w (jacobian_at n) k =
      ap (λ (z : List Float). component z from k) e ∙ ap (λ (z : ℕ). component (puts w (factors_at n) (el matrix) k) z k) q
      ∙ puts_left nan w (factors_at n) (el matrix) k (jacobian_at n + k) (inl (omega arith)) in
      rw (x, f, g, p, e, o) (puts_more w (factors_at n) (el matrix) k (sym (entry_is i j a b)))
