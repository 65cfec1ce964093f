-- Whole numbers as bytes, the lowest byte first (little-endian), and the doubles of IEEE 754 binary64 (3.4) as eight bytes. Definitions only.
use Rattle.std.specs.Prelude.{ℕ, zero, suc, ◌+◌, ◌*◌, ◌/◌, ◌%◌, List, [], ◌∷◌, ◌++◌, get_or, Float}
use Rattle.std.specs.Float.{binary64}
use Rattle.std.specs.Float.Ieee.{of_bits}

-- the number in the k bytes of s from `at` on; a byte past the end of s counts as 0
unfoldable pub little : ℕ → List ℕ → ℕ → ℕ
little zero s at = 0
little (suc k) s at = get_or s at 0 + 256 * little k s (suc at)

-- the double in the 8 bytes of s from `at` on
abbrev pub double_at : List ℕ → ℕ → Float
double_at s at = of_bits binary64 (little 8 s at)

-- the k lowest bytes of x, which are all of x where x is below 256 ^ k
unfoldable pub bytes_of : ℕ → ℕ → List ℕ
bytes_of zero x = []
bytes_of (suc k) x = x % 256 ∷ bytes_of k (x / 256)

-- the bytes of a list of numbers, k for each
unfoldable pub bytes_of_all : ℕ → List ℕ → List ℕ
bytes_of_all k [] = []
bytes_of_all k (x ∷ xs) = bytes_of k x ++ bytes_of_all k xs
