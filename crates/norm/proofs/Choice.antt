-- The scale's maximum is of two magnitudes. Where both are zeros they are one value, so whichever of them a maximum answers, the norm is the same.
-- Assumes nothing.
use mathlib.Core.Path.{◌≡◌}
use mathlib.Core.Bool.{true}
use lib.Dec.{T}
use lib.Ieee.{Float, binary64, eq, fits}
use Rattle.float.specs.Operators.{𝟎}
use Rattle.float.specs.Methods.{abs}
use Rattle.float.proofs.Laws.{abs-fits}
use Rattle.float.proofs.Zeros.{zeros_same, abs_plain}

pub one_zero : (y z : Float) → T (fits binary64 y) → T (fits binary64 z) → eq (abs y) 𝟎 ≡ true → eq (abs z) 𝟎 ≡ true → abs y ≡ abs z
one_zero y z f g h k = zeros_same (abs y) (abs z) (abs-fits y f) (abs-fits z g) (abs_plain y) (abs_plain z) h k
