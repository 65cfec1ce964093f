-- The error norm of a step: Hairer, Nørsett and Wanner, Solving Ordinary Differential Equations I, II.4, (4.10) and (4.11), with one absolute and one
-- relative tolerance, in IEEE 754 binary64, each operation rounded once and the sum taken from the left. Definitions only.
use Rattle.std.specs.Prelude.{ℕ, zero, suc, List, pos, length, Float}
use Rattle.std.specs.Float.{binary64}
use Rattle.std.specs.Float.Ieee.{of_int}
use Rattle.float.specs.Operators.{◌⊕◌, ◌⊗◌, ◌⊘◌, 𝟎}
use Rattle.float.specs.Methods.{abs, max_num}
use Rattle.vector.specs.Lists.{el}
use Rattle.square_root.specs.Root.{square_root}

-- (4.10): the scale of a component that is y before the step and z after it
unfoldable pub scale : Float → Float → Float → Float → Float
scale absolute relative y z = absolute ⊕ relative ⊗ max_num (abs y) (abs z)

-- the error of component i over its scale
unfoldable pub ratio : Float → Float → List Float → List Float → List Float → ℕ → Float
ratio absolute relative y z e i = el e i ⊘ scale absolute relative (el y i) (el z i)

-- x 0 squared + .. + x (k - 1) squared; a square is one multiplication
unfoldable pub sum_of_squares : (ℕ → Float) → ℕ → Float
sum_of_squares x zero = 𝟎
sum_of_squares x (suc k) = sum_of_squares x k ⊕ x k ⊗ x k

unfoldable pub root_mean_square : (ℕ → Float) → ℕ → Float
root_mean_square x n = square_root (sum_of_squares x n ⊘ of_int binary64 (pos n))

-- (4.11)
unfoldable pub error_norm : Float → Float → List Float → List Float → List Float → Float
error_norm absolute relative y z e = root_mean_square (ratio absolute relative y z e) (length y)
