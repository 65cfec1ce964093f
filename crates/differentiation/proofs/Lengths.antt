-- What the differences write keeps the length of the work, whatever the values are. Assumes nothing.
use Prim.Native.Nat.{ℕ}
use mathlib.Core.Path.{◌≡◌}
use mathlib.Core.Bool.{Bool}
use mathlib.Core.List.{List}
use lib.ListN.{length}
use lib.Ieee.{Float}
use Rattle.vector.proofs.Stores.{length-puts, length-puts_column}
use Rattle.differentiation.specs.Memory.{with_probe_state, with_column, with_partial}

pub length_probe_state : (n : ℕ) (state : List Float) (k : ℕ) (w : List Float) → length (with_probe_state n state k w) ≡ length w
unfolding with_probe_state
length_probe_state n state k w = length-puts w _ _ n

pub length_column : (n k : ℕ) (by : Float) (w : List Float) → length (with_column n k by w) ≡ length w
unfolding with_column
length_column n k by w = length-puts_column w _ n k _ n

pub length_partial : (n : ℕ) (two : Bool) (d₁ d₂ : Float) (w : List Float) → length (with_partial n two d₁ d₂ w) ≡ length w
unfolding with_partial
length_partial n two d₁ d₂ w = length-puts w _ _ n
