-- What the lent work holds while an attempt is open, and which stores leave it. Assumes nothing.
use Prim.Native.Nat.{ℕ, ◌+◌, ◌*◌, ◌≤◌}
use native.Mathlib.Nat.{zero-mul}
use native.Mathlib.Omega.{arith}
use mathlib.Core.Path.{◌≡◌, ap, ◌∙◌}
use mathlib.Core.List.{List}
use mathlib.Core.Logic.{◌⊎◌, inl, inr}
use lib.ListN.{length}
use lib.Ieee.{Float, nan}
use Rattle.vector.specs.Lists.{el, table}
use Rattle.vector.specs.Matrices.{entry}
use Rattle.vector.specs.Parts.{part, puts}
use Rattle.vector.proofs.Parts.{part_left}
use Rattle.vector.proofs.Stores.{length-puts}
use Rattle.linear.specs.Elimination.{eliminated, pivot_of}
use Rattle.stages.specs.Layout.{candidate_at, error_at, current_at, time_partial_at, jacobian_at, factors_at, stages_at, rhs_stages_at}
use Rattle.stages.specs.Method.{new_state, error_of}
use Rattle.method.specs.Step.{Attempted, Evaluated, matrix, stages, derivatives}

-- v is w but for the k doubles from `at` on
pub record But (at k : ℕ) (w v : List Float) : Type 0 where
  pub same_length : length v ≡ length w
  pub left : (a m : ℕ) → a + m ≤ length w → (a + m ≤ at) ⊎ (at + k ≤ a) → part a m v ≡ part a m w

pub stored : (w : List Float) (at : ℕ) (f : ℕ → Float) (k : ℕ) → But at k w (puts w at f k)
stored w at f k = record { same_length = length-puts w at f k; left = λ a m h o. part_left w at f k a m nan h o }

-- the needed length, for s stages
abbrev pub room : Attempted → ℕ → ℕ
room p s = 8 * p.n + 2 * (p.n * p.n) + 2 * (s * p.n)

-- what lies within a place that the store is beside
beside : {at k : ℕ} {w v : List Float} → But at k w v → (a m : ℕ) {low high : ℕ} → (at + k ≤ low) ⊎ (high ≤ at) → a + m ≤ length w → low ≤ a → a + m ≤ high
    → part a m v ≡ part a m w
beside but a m (inl b) h l r = but.left a m h (inr (omega arith))
beside but a m (inr b) h l r = but.left a m h (inl (omega arith))

module _ (p : Attempted) (e : Evaluated) where
  -- the derivative, the Jacobian and the time partial
  pub record Inputs (w : List Float) : Type 0 where
    pub derivative_there : part (current_at p.n) p.n w ≡ e.f₀
    pub jacobian_there : part (jacobian_at p.n) (p.n * p.n) w ≡ e.J
    pub partial_there : part (time_partial_at p.n) p.n w ≡ e.fₜ

  -- the factors of the matrix, with their pivots
  pub record Factors (w : List Float) (pivots : List ℕ) : Type 0 where
    pub factors_there : part (factors_at p.n) (p.n * p.n) w ≡ eliminated p.n (matrix p e) p.n
    pub pivots_there : pivots ≡ table (pivot_of p.n (matrix p e)) p.n

  -- s being the number of stages: the candidate and the error after c stages
  pub record Sums (s c : ℕ) (w : List Float) : Type 0 where
    pub long : length w ≡ room p s
    pub candidate_there : part (candidate_at p.n) p.n w ≡ table (new_state p.tableau (entry p.n (stages p e c)) (el p.y) c) p.n
    pub error_there : part (error_at p.n) p.n w ≡ table (error_of p.tableau (entry p.n (stages p e c)) c) p.n

  -- i stages, and the derivatives at j stages
  pub record Rows (s i j : ℕ) (w : List Float) : Type 0 where
    pub stages_fit : i * p.n ≤ s * p.n
    pub derivatives_fit : j * p.n ≤ s * p.n
    pub stages_there : part (stages_at p.n) (i * p.n) w ≡ stages p e i
    pub derivatives_there : part (rhs_stages_at p.n s) (j * p.n) w ≡ derivatives p e j

  pub no_rows : (s : ℕ) (w : List Float) → Rows s 0 0 w
  unfolding stages derivatives
  no_rows s w =
      record {
        stages_fit = omega (arith, zero-mul p.n);
        derivatives_fit = omega (arith, zero-mul p.n);
        stages_there = ap (λ (k : ℕ). part (stages_at p.n) k w) (zero-mul p.n);
        derivatives_there = ap (λ (k : ℕ). part (rhs_stages_at p.n s) k w) (zero-mul p.n);
      }

-- ---- stores that leave them

module _ {p : Attempted} {e : Evaluated} {at k : ℕ} {w v : List Float} (but : But at k w v) where
  -- after the error
  pub sums_kept : {s c : ℕ} → Sums p e s c w → 2 * p.n ≤ at → Sums p e s c v
  sums_kept h low =
      record {
        long = but.same_length ∙ h.long;
        candidate_there = but.left (candidate_at p.n) p.n (omega (arith, h.long)) (inl (omega arith)) ∙ h.candidate_there;
        error_there = but.left (error_at p.n) p.n (omega (arith, h.long)) (inl (omega arith)) ∙ h.error_there;
      }

  -- before the stages
  pub rows_kept : {s i j : ℕ} → length w ≡ room p s → Rows p e s i j w → at + k ≤ 8 * p.n + 2 * (p.n * p.n) → Rows p e s i j v
  rows_kept {s} {i} {j} long h high =
      record {
        stages_fit = h.stages_fit;
        derivatives_fit = h.derivatives_fit;
        stages_there = but.left (stages_at p.n) (i * p.n) (omega arith) (inr (omega arith)) ∙ h.stages_there;
        derivatives_there = but.left (rhs_stages_at p.n s) (j * p.n) (omega arith) (inr (omega arith)) ∙ h.derivatives_there;
      }

  -- beside the derivative and the time partial, and beside the Jacobian
  pub inputs_kept : 8 * p.n + 2 * (p.n * p.n) ≤ length w → Inputs p e w → (at + k ≤ 3 * p.n) ⊎ (5 * p.n ≤ at) → (at + k ≤ 8 * p.n) ⊎ (8 * p.n + p.n * p.n ≤ at) → Inputs p e v
  inputs_kept long h o q =
      record {
        derivative_there = beside but (current_at p.n) p.n o (omega arith) (omega arith) (omega arith) ∙ h.derivative_there;
        jacobian_there = beside but (jacobian_at p.n) (p.n * p.n) q (omega arith) (omega arith) (omega arith) ∙ h.jacobian_there;
        partial_there = beside but (time_partial_at p.n) p.n o (omega arith) (omega arith) (omega arith) ∙ h.partial_there;
      }

  -- before the matrix or after it
  pub factors_kept : 8 * p.n + 2 * (p.n * p.n) ≤ length w → {pivots : List ℕ} → Factors p e w pivots
      → (at + k ≤ 8 * p.n + p.n * p.n) ⊎ (8 * p.n + 2 * (p.n * p.n) ≤ at) → Factors p e v pivots
  factors_kept long h o =
      record {
        factors_there = beside but (factors_at p.n) (p.n * p.n) o (omega arith) (omega arith) (omega arith) ∙ h.factors_there;
        pivots_there = h.pivots_there;
      }
