-- The differences on the lent work: each function takes the work and gives it with one part written. Definitions only.
use Rattle.std.specs.Prelude.{ℕ, Bool, List, Float}
use Rattle.vector.specs.Lists.{el}
use Rattle.vector.specs.Parts.{puts, puts_column}
use Rattle.time_difference.specs.Probes.{partial}
use Rattle.stages.specs.Layout.{current_at, time_partial_at, probe_state_at, probe_rhs_at, jacobian_at}
use Rattle.stages.specs.Memory.{component}
use Rattle.differentiation.specs.Differences.{probe_state, quotient}

-- the state with component k risen
unfoldable pub with_probe_state : ℕ → List Float → ℕ → List Float → List Float
with_probe_state n state k w = puts w (probe_state_at n) (probe_state k (el state)) n

-- column k of the Jacobian
unfoldable pub with_column : ℕ → ℕ → Float → List Float → List Float
with_column n k by w = puts_column w (jacobian_at n) n k (quotient by (component w (probe_rhs_at n)) (component w (current_at n))) n

-- The time partial from one probe or two, at the distances d₁ and d₂: the first probe's derivative stands in the time partial's place, the
-- second's in the probe's.
unfoldable pub with_partial : ℕ → Bool → Float → Float → List Float → List Float
with_partial n two d₁ d₂ w =
    puts w (time_partial_at n)
    (λ k. partial two (component w (current_at n) k) (component w (time_partial_at n) k) (component w (probe_rhs_at n) k) d₁ d₂) n
