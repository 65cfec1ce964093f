-- The norm of the starting step (Hairer, Nørsett and Wanner, Solving Ordinary Differential Equations I, II.4): the root of the mean of the squares of
-- the values, each divided by its scale. The sum of the squares is kept in units of the square of the largest ratio so far, as BLAS's nrm2 keeps it,
-- so that no square overflows. Definitions only.
use Rattle.std.specs.Prelude.{ℕ, zero, suc, false, cond, List, pos, length, Float}
use Rattle.std.specs.Float.{inf, binary64}
use Rattle.std.specs.Float.Ieee.{lt, eq, of_int}
use Rattle.std.specs.Float.Ieee.Scale.{finite}
use Rattle.float.specs.Operators.{◌⊕◌, ◌⊗◌, ◌⊘◌, 𝟎, 𝟏}
use Rattle.float.specs.Methods.{abs}
use Rattle.vector.specs.Lists.{el, every}
use Rattle.square_root.specs.Root.{square_root}
use Rattle.initial_step.specs.declared.ScaledSum.{ScaledSum}

abbrev pub ratio : Float → Float → Float
ratio value scale = abs value ⊘ scale

abbrev pub square : Float → Float
square x = x ⊗ x

-- no ratio yet
unfoldable pub nothing : ScaledSum
nothing = record { largest = 𝟎; sum = 𝟎 }

-- a new largest ratio: the sum is scaled down to it
unfoldable pub raised : ScaledSum → Float → ScaledSum
raised t x = record { largest = x; sum = 𝟏 ⊕ t.sum ⊗ square (t.largest ⊘ x) }

unfoldable pub summed : ScaledSum → Float → ScaledSum
summed t x = record { largest = t.largest; sum = t.sum ⊕ square (x ⊘ t.largest) }

unfoldable pub added : ScaledSum → Float → ScaledSum
added t x = cond (eq x 𝟎) t (cond (lt t.largest x) (raised t x) (summed t x))

-- of the first n ratios
unfoldable pub scaled_sum : (ℕ → Float) → ℕ → ScaledSum
scaled_sum r zero = nothing
scaled_sum r (suc j) = added (scaled_sum r j) (r j)

unfoldable pub mean : ScaledSum → ℕ → Float
mean t n = t.largest ⊗ square_root (t.sum ⊘ of_int binary64 (pos n))

abbrev pub ratios : List Float → List Float → ℕ → Float
ratios values scales j = ratio (el values j) (el scales j)

-- infinite where a ratio is not finite
unfoldable pub rms : List Float → List Float → Float
unfolding every
rms values scales =
    let n = length values in
    let r = ratios values scales in
    cond (every n (λ j. finite (r j))) (mean (scaled_sum r n) n) (inf false)
