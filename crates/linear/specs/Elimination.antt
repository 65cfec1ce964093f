-- Gaussian elimination with partial pivoting, by entries: Golub and Van Loan, Matrix Computations, 4th edition, Algorithm 3.4.1 (outer product LU with
-- partial pivoting). Rows and columns are counted from 0, and each operation rounds once. A matrix is a function of row and column, or a list of its
-- entries by rows. Definitions only.
use Rattle.std.specs.Prelude.{ℕ, zero, suc, Bool, cond, not, ◌&&◌, ◌||◌, List, pos, ltb, eqb, length, Float}
use Rattle.std.specs.Float.{binary64}
use Rattle.std.specs.Float.Ieee.{lt, le, of_int}
use Rattle.std.specs.Float.Ieee.Scale.{finite}
use Rattle.float.specs.Operators.{◌⊖◌, ◌⊗◌, ◌⊘◌, 𝟎}
use Rattle.float.specs.Constants.{epsilon}
use Rattle.float.specs.Methods.{abs, max_num}
use Rattle.vector.specs.Lists.{el}
use Rattle.vector.specs.Matrices.{entry, rows}

-- The largest magnitude of the first k elements, 0 where there is none. No magnitude is a -0, so no zero's sign is left to choose; a NaN is passed over.
unfoldable pub largest : List Float → ℕ → Float
largest a zero = 𝟎
largest a (suc k) = max_num (largest a k) (abs (el a k))

unfoldable pub scale : List Float → Float
unfolding largest
scale a = largest a (length a)

-- what a pivot's magnitude has to exceed, for a matrix of n columns with that scale
unfoldable pub threshold : ℕ → Float → Float
threshold n scale = (epsilon ⊗ scale) ⊗ of_int binary64 (pos n)

-- a magnitude that is not finite, or not above t
unfoldable pub unusable : Float → Float → Bool
unusable magnitude t = not (finite magnitude) || le magnitude t

-- Of row k and the rows below it, as far as row r - 1: the row whose entry in column k is the largest in magnitude, and the first where several are. A row
-- takes the place of one above it only where its magnitude is strictly greater: a NaN below row k is passed over, and one in row k is kept.
unfoldable pub largest_row : (ℕ → ℕ → Float) → ℕ → ℕ → ℕ
largest_row a k zero = k
largest_row a k (suc r) = let p = largest_row a k r in cond (ltb k r && lt (abs (a p k)) (abs (a r k))) r p

-- the row of the pivot of step k, in a matrix of n rows
abbrev pub pivot_row : ℕ → List Float → ℕ → ℕ
pivot_row n m k = largest_row (entry n m) k n

-- whether step k finds no pivot above t
abbrev pub stops : ℕ → Float → List Float → ℕ → Bool
stops n t m k = unusable (abs (entry n m (pivot_row n m k) k)) t

-- where row i comes from as rows k and p are interchanged
abbrev pub interchange : ℕ → ℕ → ℕ → ℕ
interchange k p i = cond (eqb i p) k (cond (eqb i k) p i)

-- what row k is multiplied by before it is taken from row i
abbrev pub multiplier : (ℕ → ℕ → Float) → ℕ → ℕ → Float
multiplier a i k = a i k ⊘ a k k

-- Step k, the pivot being in row k. The rows below it change: column k gets the multipliers, and the columns right of it lose the multiple of row k.
abbrev pub elimination_step : ℕ → (ℕ → ℕ → Float) → ℕ → ℕ → Float
elimination_step k a i j =
    cond (ltb k i) (cond (ltb j k) (a i j) (cond (eqb j k) (multiplier a i k) (a i j ⊖ multiplier a i k ⊗ a k j))) (a i j)

-- step k with the pivot in row p: rows k and p are interchanged first
unfoldable pub stepped : ℕ → ℕ → ℕ → List Float → List Float
unfolding rows
stepped n k p m = rows (elimination_step k (λ i j. entry n m (interchange k p i) j)) n n

-- the matrix after k steps
unfoldable pub eliminated : ℕ → List Float → ℕ → List Float
unfolding stepped largest_row
eliminated n a zero = a
eliminated n a (suc k) = let m = eliminated n a k in stepped n k (pivot_row n m k) m

-- the row and the magnitude of the pivot of step k, for the matrix a
abbrev pub pivot_of : ℕ → List Float → ℕ → ℕ
pivot_of n a k = pivot_row n (eliminated n a k) k

abbrev pub pivot_magnitude : ℕ → List Float → ℕ → Float
pivot_magnitude n a k = abs (entry n (eliminated n a k) (pivot_of n a k) k)

-- how many of the first k steps are done: those before the first whose pivot is not above t
unfoldable pub steps_done : ℕ → Float → List Float → ℕ → ℕ
unfolding largest_row eliminated abs unusable
steps_done n t a zero = 0
steps_done n t a (suc k) = let g = steps_done n t a k in cond (eqb g k && not (unusable (pivot_magnitude n a k) t)) (suc k) g
