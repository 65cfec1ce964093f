-- `puts_column`, a store down a column of a matrix: its place, its next row, what it leaves and what it holds. Assumes nothing.
use Prim.Native.Nat.{ℕ, zero, suc, ◌+◌, ◌*◌, ◌<◌, ◌≤◌}
use native.Mathlib.Omega.{arith}
use native.Mathlib.Numerals.{add-one}
use mathlib.Core.Path.{◌≡◌, refl, sym, ◌∙◌}
use mathlib.Core.List.{List}
use mathlib.Core.Logic.{◌⊎◌, inl, inr, ⊎_elim}
use lib.Arith.{digits_lt}
use lib.Dec.{eqb}
use lib.ListN.{length, get_or, set}
use lib.Seq.{get_or-set_same, get_or-set_other, ext_get_or}
use borrow.Author.Tests.{eqb-true, eqb-false}
use Rattle.float.proofs.Cases.{by}
use Rattle.vector.specs.Parts.{part, puts_column}
use Rattle.vector.proofs.Stores.{length-puts_column}
use Rattle.vector.proofs.Parts.{length_part, part_at}
use Rattle.vector.proofs.Matrices.{same_row, same_column}

-- entry (r, k) of the matrix lies inside it
pub inside_matrix : (at n r k len : ℕ) → at + n * n ≤ len → r < n → k < n → (at + (r * n + k) < len) × (r * n + k < n * n) × (r * n ≤ n * n)
inside_matrix at n r k len h a b = let q = digits_lt {c = n} a b in (omega arith, omega arith, omega arith)

-- a loop's next store, of a value that is right
pub column_more : {A : Type 0} (w : List A) (at n k : ℕ) (f : ℕ → A) (r : ℕ) {v : A} → v ≡ f r → set (puts_column w at n k f r) (at + (r * n + k)) v ≡ puts_column w at n k f (r + 1)
unfolding puts_column
column_more w at n k f r e = rw (add-one, e)

module _ {A : Type 0} (d : A) (w : List A) (at n k : ℕ) (f : ℕ → A) where
  -- what lies before the matrix or after it is left
  pub column_beside : (r j : ℕ) → r ≤ n → k < n → (j < at) ⊎ (at + n * n ≤ j) → get_or (puts_column w at n k f r) j d ≡ get_or w j d
  unfolding puts_column
  column_beside zero j h l o = refl
  column_beside (suc r) j h l o =
      get_or-set_other (puts_column w at n k f r) (at + (r * n + k)) j (f r) d
      (λ e. let q : r * n + k < n * n = digits_lt h l in ⊎_elim (λ a. omega arith) (λ a. omega arith) o)
      ∙ column_beside r j (omega arith) l o

  -- and so are the other columns
  pub column_other : (r i j : ℕ) → k < n → j < n → (j ≡ k → ⊥) → get_or (puts_column w at n k f r) (at + (i * n + j)) d ≡ get_or w (at + (i * n + j)) d
  unfolding puts_column
  column_other zero i j l h o = refl
  column_other (suc r) i j l h o =
      get_or-set_other (puts_column w at n k f r) (at + (r * n + k)) (at + (i * n + j)) (f r) d
      (λ e. o (same_column n i j r k h l (omega arith)))
      ∙ column_other r i j l h o

  pub column_held : (r i : ℕ) → r ≤ n → k < n → at + n * n ≤ length w → i < r → get_or (puts_column w at n k f r) (at + (i * n + k)) d ≡ f i
  unfolding puts_column
  column_held zero i h l b q = absurd (omega arith)
  column_held (suc r) i h l b q =
      let v = puts_column w at n k f r in
      by (eqb i r)
      (λ t. let e : i ≡ r = eqb-true i r t in
      let inside : r * n + k < n * n = digits_lt h l in
      rw e (get_or-set_same v (at + (r * n + k)) (f r) d (omega (arith, length-puts_column w at n k f r))))
      (λ t. get_or-set_other v (at + (r * n + k)) (at + (i * n + k)) (f r) d (λ e. eqb-false i r t (same_row n i k r k l l (omega arith)))
      ∙ column_held r i (omega arith) l b (omega (arith, eqb-false i r t)))

  -- a part beside the matrix
  pub part_beside : (r a c : ℕ) → r ≤ n → k < n → a + c ≤ length w → (a + c ≤ at) ⊎ (at + n * n ≤ a) → part a c (puts_column w at n k f r) ≡ part a c w
  part_beside r a c h l b o =
      let v = puts_column w at n k f r in
      let u : a + c ≤ length v = omega (arith, length-puts_column w at n k f r) in
      ext_get_or d (part a c v) (part a c w) (length_part a c v u ∙ sym (length_part a c w b))
      (λ i q. let z : i < c = omega (arith, length_part a c v u) in
      part_at d a c v i z
      ∙ column_beside r (a + i) h l (⊎_elim {C = (a + i < at) ⊎ (at + n * n ≤ a + i)} (λ b. inl (omega arith)) (λ b. inr (omega arith)) o)
      ∙ sym (part_at d a c w i z))
