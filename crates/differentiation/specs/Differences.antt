-- The Jacobian by forward differences, in IEEE 754 binary64: component k of the state rises by the square root of
-- 2 ^ -52 times its magnitude, or times 1 where that is larger, and column k is the difference of the derivatives over the rise that rounding left.
-- Definitions only.
use Rattle.std.specs.Prelude.{ℕ, cond, eqb, Float}
use Rattle.float.specs.Operators.{◌⊕◌, ◌⊖◌, ◌⊗◌, ◌⊘◌, 𝟏}
use Rattle.float.specs.Constants.{sqrt_epsilon}
use Rattle.float.specs.Methods.{abs, max_num}

-- y + 2 ^ -26 · max(|y|, 1)
unfoldable pub risen : Float → Float
risen y = y ⊕ sqrt_epsilon ⊗ max_num (abs y) 𝟏

-- what rounding left of the rise
unfoldable pub rise : Float → Float
rise y = risen y ⊖ y

-- component j of the state y with component k risen
unfoldable pub probe_state : ℕ → (ℕ → Float) → ℕ → Float
probe_state k y j = cond (eqb j k) (risen (y k)) (y j)

-- row i of the column: the difference of the probed derivative and the derivative at the state, over the rise
unfoldable pub quotient : Float → (ℕ → Float) → (ℕ → Float) → ℕ → Float
quotient by probed f i = (probed i ⊖ f i) ⊘ by
