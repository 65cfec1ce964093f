-- What each of the differences' functions on the lent work writes, in terms of what the parts that it reads hold, and what it leaves. Assumes nothing.
use Prim.Native.Nat.{ℕ, ◌+◌, ◌*◌, ◌<◌, ◌≤◌}
use native.Mathlib.Omega.{arith}
use mathlib.Core.Path.{◌≡◌, ap₂, ◌∙◌}
use mathlib.Core.Bool.{Bool}
use mathlib.Core.List.{List}
use mathlib.Core.Logic.{◌⊎◌}
use lib.ListN.{length}
use lib.Ieee.{Float, nan}
use Rattle.float.specs.Operators.{◌⊖◌, ◌⊘◌}
use Rattle.vector.specs.Lists.{el, table}
use Rattle.vector.specs.Parts.{part}
use Rattle.vector.proofs.Lists.{table_same}
use Rattle.vector.proofs.Parts.{part-puts}
use Rattle.vector.proofs.Columns.{column_other, column_held, part_beside}
use Rattle.time_difference.specs.Probes.{partial}
use Rattle.stages.specs.Layout.{current_at, time_partial_at, probe_state_at, probe_rhs_at, jacobian_at}
use Rattle.stages.proofs.Writes.{read}
use Rattle.differentiation.specs.Differences.{probe_state, quotient}
use Rattle.differentiation.specs.Memory.{with_probe_state, with_column, with_partial}

module _ (n : ℕ) (w : List Float) where
  pub probe_written : (y : List Float) (k : ℕ) → probe_state_at n + n ≤ length w → part (probe_state_at n) n (with_probe_state n y k w) ≡ table (probe_state k (el y)) n
  unfolding with_probe_state
  probe_written y k h = part-puts w (probe_state_at n) (probe_state k (el y)) n nan h

  -- ---- column k of the Jacobian
  module _ (k : ℕ) (by : Float) (inside : k < n) where
    pub column_left : (a c : ℕ) → a + c ≤ length w → (a + c ≤ jacobian_at n) ⊎ (jacobian_at n + n * n ≤ a) → part a c (with_column n k by w) ≡ part a c w
    unfolding with_column
    column_left a c h o = part_beside nan w (jacobian_at n) n k _ n a c (omega arith) inside h o

    pub column_apart : (i j : ℕ) → j < n → (j ≡ k → ⊥) → el (with_column n k by w) (jacobian_at n + (i * n + j)) ≡ el w (jacobian_at n + (i * n + j))
    unfolding with_column
    column_apart i j h o = column_other nan w (jacobian_at n) n k _ n i j inside h o

    -- f being the derivative at the state, and g that at the probe
    pub column_written : (f g : List Float) (i : ℕ) → jacobian_at n + n * n ≤ length w → part (current_at n) n w ≡ f → part (probe_rhs_at n) n w ≡ g → i < n
        → el (with_column n k by w) (jacobian_at n + (i * n + k)) ≡ quotient by (el g) (el f) i
    unfolding with_column quotient
    column_written f g i h ef eg l =
        column_held nan w (jacobian_at n) n k _ n i (omega arith) inside h l
        ∙ ap₂ (λ (a b : Float). (a ⊖ b) ⊘ by) (read (probe_rhs_at n) n w g i eg l) (read (current_at n) n w f i ef l)

  -- ---- the time partial, from the derivatives f at the state, a at the first probe and b at the second
  pub partial_written : (two : Bool) (d₁ d₂ : Float) (f a b : List Float) → time_partial_at n + n ≤ length w
      → part (current_at n) n w ≡ f → part (time_partial_at n) n w ≡ a → part (probe_rhs_at n) n w ≡ b
      → part (time_partial_at n) n (with_partial n two d₁ d₂ w) ≡ table (λ k. partial two (el f k) (el a k) (el b k) d₁ d₂) n
  unfolding with_partial
  partial_written two d₁ d₂ f a b h ef ea eb =
      part-puts w (time_partial_at n) _ n nan h
      ∙ table_same _ _ n
      (λ k l. rw (read (current_at n) n w f k ef l, read (time_partial_at n) n w a k ea l, read (probe_rhs_at n) n w b k eb l))
