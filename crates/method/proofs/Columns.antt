-- What the lent work holds while the Jacobian is probed column by column. Assumes nothing.
use Prim.Native.Nat.{ℕ, suc, ◌+◌, ◌*◌, ◌<◌, ◌≤◌}
use native.Mathlib.Omega.{arith}
use mathlib.Core.Path.{◌≡◌, sym, ◌∙◌}
use mathlib.Core.List.{List}
use mathlib.Core.Logic.{inl, inr}
use lib.Arith.{digits_lt}
use lib.Dec.{eqb}
use lib.Ieee.{Float, nan}
use borrow.Author.Tests.{eqb-true, eqb-false}
use Rattle.float.proofs.Cases.{by}
use Rattle.vector.specs.Lists.{el}
use Rattle.vector.specs.Parts.{part, puts}
use Rattle.vector.proofs.Matrices.{length-rows, rows_at, same_entries}
use Rattle.vector.proofs.Parts.{length_part, part_at}
use Rattle.vector.proofs.Stores.{puts_left}
use Rattle.stages.specs.Layout.{current_at, probe_rhs_at, jacobian_at}
use Rattle.differentiation.specs.Differences.{rise, quotient}
use Rattle.differentiation.specs.Memory.{with_column}
use Rattle.differentiation.proofs.Lengths.{length_column}
use Rattle.differentiation.proofs.Writes.{column_left, column_apart, column_written}
use Rattle.attempts.specs.declared.Ask.TheVariants.{Column}
use Rattle.method.specs.Step.{Attempted, Evaluated, probed_state, probed_jacobian}
use Rattle.method.proofs.Holds.{But, stored, Sums, sums_kept}

module _ (p : Attempted) (e : Evaluated) (s : ℕ) where
  -- row i of column j
  abbrev pub probed_entry : ℕ → ℕ → Float
  probed_entry i j = quotient (rise (el p.y j)) (el (p.answer (Column j) p.t (probed_state p e.f₀ j))) (el e.f₀) i

  -- the columns before column k
  pub record Columns (k : ℕ) (w : List Float) : Type 0 where
    pub sums : Sums p e s 0 w
    pub derivative_there : part (current_at p.n) p.n w ≡ e.f₀
    pub columns_there : (i j : ℕ) → i < p.n → j < k → el w (jacobian_at p.n + (i * p.n + j)) ≡ probed_entry i j

  -- a store between the derivative and the Jacobian
  pub columns_kept : (k : ℕ) (w : List Float) (at : ℕ) (f : ℕ → Float) (c : ℕ) → 4 * p.n ≤ at → at + c ≤ 8 * p.n → Columns k w → Columns k (puts w at f c)
  columns_kept k w at f c low high h =
      let but = stored w at f c in
      let long = h.sums.long in
      record {
        sums = sums_kept but h.sums (omega arith);
        derivative_there = but.left (current_at p.n) p.n (omega arith) (inl (omega arith)) ∙ h.derivative_there;
        columns_there = λ i j hi hj. puts_left nan w at f c (jacobian_at p.n + (i * p.n + j)) (inr (omega arith)) ∙ h.columns_there i j hi hj;
      }

  -- column k, from the derivative at its probe
  pub column_more : (k : ℕ) (w : List Float) → k < p.n → part (probe_rhs_at p.n) p.n w ≡ p.answer (Column k) p.t (probed_state p e.f₀ k)
      → Columns k w → Columns (suc k) (with_column p.n k (rise (el p.y k)) w)
  column_more k w below there h =
      let n = p.n in
      let by-k = rise (el p.y k) in
      let long = h.sums.long in
      let but : But (jacobian_at n) (n * n) w (with_column n k by-k w) = record { same_length = length_column n k by-k w; left = column_left n w k by-k below } in
      record {
        sums = sums_kept but h.sums (omega arith);
        derivative_there = but.left (current_at n) n (omega arith) (inl (omega arith)) ∙ h.derivative_there;
        columns_there =
            λ i j hi hj.
            by (eqb j k)
            (λ t. let same : j ≡ k = eqb-true j k t in
            rw same (column_written n w k by-k below e.f₀ _ i (omega arith) h.derivative_there there hi))
            (λ t. column_apart n w k by-k below i j (omega arith) (eqb-false j k t) ∙ h.columns_there i j hi (omega (arith, eqb-false j k t)));
      }

  -- all columns are the Jacobian
  pub columns_whole : (w : List Float) → Columns p.n w → part (jacobian_at p.n) (p.n * p.n) w ≡ probed_jacobian p e.f₀
  unfolding probed_jacobian
  columns_whole w h =
      let n = p.n in
      let long = h.sums.long in
      same_entries n (part (jacobian_at n) (n * n) w) _ (length_part (jacobian_at n) (n * n) w (omega arith)) (length-rows probed_entry n n)
      (λ i j hi hj.
      part_at nan (jacobian_at n) (n * n) w (i * n + j) (digits_lt hi hj) ∙ h.columns_there i j hi hj ∙ sym (rows_at probed_entry n n i j hi hj))
