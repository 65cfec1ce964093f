-- The second distance of the probes counts only where there are two. Assumes nothing.
use Prim.Native.Nat.{ℕ}
use mathlib.Core.Path.{◌≡◌, refl}
use mathlib.Core.Bool.{false}
use mathlib.Core.List.{List}
use lib.Ieee.{Float}
use Rattle.time_difference.specs.Probes.{partial}
use Rattle.differentiation.specs.Memory.{with_partial}

pub one_probe : (n : ℕ) (d d' d'' : Float) (w : List Float) → with_partial n false d d' w ≡ with_partial n false d d'' w
unfolding with_partial partial
one_probe n d d' d'' w = refl
