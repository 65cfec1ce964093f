-- Lists by their elements, counted from 0. Definitions only.
use Rattle.std.specs.Prelude.{ℕ, zero, suc, Bool, true, ◌&&◌, List, [], ◌∷◌, ◌++◌, length, get_or, Float}
use Rattle.std.specs.Float.{nan}
use Rattle.std.specs.Float.Ieee.Scale.{finite}

-- element j of a vector; a NaN past its end
abbrev pub el : List Float → ℕ → Float
el x j = get_or x j nan

-- f 0, .., f (n - 1)
unfoldable pub table : {A : Type 0} → (ℕ → A) → ℕ → List A
table f zero = []
table f (suc n) = table f n ++ (f n ∷ [])

-- p 0, .., p (n - 1) all hold
unfoldable pub every : ℕ → (ℕ → Bool) → Bool
every zero p = true
every (suc n) p = every n p && p n

-- each element is finite
unfoldable pub all_finite : List Float → Bool
unfolding every
all_finite x = every (length x) (λ j. finite (el x j))

-- each of four is finite
abbrev pub four_finite : List Float → Bool
four_finite x = finite (el x 0) && finite (el x 1) && finite (el x 2) && finite (el x 3)
