-- IEEE 754-2019 §5.4.1, squareRoot, for binary64 and roundTiesToEven: the function. `Nearest` has the relation that determines it. Definitions only.
use Rattle.std.specs.Prelude.{ℕ, zero, suc, ◌+◌, ◌-◌, ◌*◌, ◌/◌, ◌^◌, true, false, cond, ℤ, leb, Float}
use Rattle.std.specs.Float.{nan, inf, fin}
use Rattle.std.specs.Float.Ieee.{up, down, size, odd}

-- the whole part of the root of an n below 4 ^ k, a binary digit at a time
unfoldable pub whole_root : ℕ → ℕ → ℕ
whole_root zero n = 0
whole_root (suc k) n = let q = 2 * whole_root k (n / 4) in cond (leb ((q + 1) * (q + 1)) n) (q + 1) q

-- n * 2 ^ -1074 is n / 4 ^ h * 2 ^ (2 * h - 1074), with 1 ≤ n / 4 ^ h < 4, where h is `half_exponent n`
unfoldable pub half_exponent : ℕ → ℕ
unfolding size
half_exponent n = (size n - 1) / 2

-- The root of n / 4 ^ h in units of 2 ^ -52, rounded to nearest by one digit more. Where that digit is 1 the root goes on behind it, as the square
-- of an odd number is odd: so no tie is met.
unfoldable pub significand : ℕ → ℕ
unfolding half_exponent whole_root
significand n = (whole_root 54 (n * 2 ^ 106 / 4 ^ half_exponent n) + 1) / 2

-- the root of n * 2 ^ -1074, for an n above 0
unfoldable pub root_of_units : ℕ → Float
unfolding odd half_exponent significand
root_of_units n = odd 53 false (significand n) (half_exponent n + 485) 1074

-- the magnitude m * 2 ^ e in units of 2 ^ -1074
abbrev pub in_units : ℕ → ℤ → ℕ
in_units m e = m * up e * 2 ^ 1074 / down e

-- `square_root` of -0 is -0, of any other value below 0 NaN
unfoldable pub square_root : Float → Float
unfolding root_of_units
square_root nan = nan
square_root (inf true) = nan
square_root (inf false) = inf false
square_root (fin s zero e) = fin s zero e
square_root (fin true (suc m) e) = nan
square_root (fin false (suc m) e) = root_of_units (in_units (suc m) e)
