-- Matrices, stored by rows. Definitions only.
use Rattle.std.specs.Prelude.{ℕ, zero, suc, ◌+◌, ◌*◌, List, [], ◌++◌, get_or, Float}
use Rattle.std.specs.Float.{nan}
use Rattle.vector.specs.Lists.{table}

-- entry (i, j) of a matrix of n columns
abbrev pub entry : ℕ → List Float → ℕ → ℕ → Float
entry n m i j = get_or m (i * n + j) nan

-- r rows of n entries f i j
unfoldable pub rows : (ℕ → ℕ → Float) → ℕ → ℕ → List Float
unfolding table
rows f n zero = []
rows f n (suc i) = rows f n i ++ table (f i) n
