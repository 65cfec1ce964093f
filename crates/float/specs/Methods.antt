-- The methods of Rust's f64 as functions of IEEE 754 values: abs (5.5.1), max and min (maxNum and minNum of IEEE 754-2008, 5.3.1), signum, clamp.
-- is_nan and is_finite are the kit's `is_nan` and `finite`. `inf true` is the infinity below 0; in `fin s m e` s says that the sign is minus, a zero's too.
-- Definitions only.
use Rattle.std.specs.Prelude.{Bool, false, ◌&&◌, cond, pos, Float}
use Rattle.std.specs.Float.{nan, inf, fin}
use Rattle.std.specs.Float.Ieee.{is_nan, lt}
use Rattle.std.specs.Float.Ieee.Scale.{finite}
use Rattle.float.specs.Operators.{𝟎}

-- the sign is made plus
unfoldable pub abs : Float → Float
abs nan = nan
abs (inf s) = inf false
abs (fin s m e) = fin false m e

-- of a NaN and a number the number; of two equal numbers, a zero of either sign among them, the first
abbrev pub max_num : Float → Float → Float
max_num a b = cond (is_nan a) b (cond (lt a b) b a)

abbrev pub min_num : Float → Float → Float
min_num a b = cond (is_nan a) b (cond (lt b a) b a)

-- 1 with the sign of x, a zero's too; a NaN for a NaN
unfoldable pub signum : Float → Float
signum nan = nan
signum (inf s) = fin s 1 (pos 0)
signum (fin s m e) = fin s 1 (pos 0)

-- lo below lo, hi above hi, x itself otherwise: a NaN is kept
abbrev pub clamp : Float → Float → Float → Float
clamp x lo hi = cond (lt x lo) lo (cond (lt hi x) hi x)

-- above 0, and finite
unfoldable pub finite_positive : Float → Bool
finite_positive x = lt 𝟎 x && finite x
