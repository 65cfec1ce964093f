-- What the loops over a column and over the time partial read and make. Assumes nothing.
use Prim.Native.Nat.{ℕ, zero, suc, ◌+◌, ◌*◌, ◌<◌}
use native.Mathlib.Omega.{arith}
use mathlib.Core.Path.{◌≡◌, refl, ◌∙◌}
use mathlib.Core.Bool.{◌&&◌}
use mathlib.Core.List.{List}
use lib.ListN.{get_or}
use lib.Seq.{get_or-set_other}
use lib.Ieee.{Float}
use Rattle.std.specs.Prelude.{Option, Some, None, is_some, unwrap_or}
use Rattle.std.specs.Option.{option_and}
use Rattle.float.specs.Operators.{𝟎}
use Rattle.vector.specs.Parts.{puts_column}
use Rattle.time_difference.specs.Probes.{partial}

-- what lies before the matrix is left
pub get_or_column_before : (w : List Float) (at n k : ℕ) (f : ℕ → Float) (r j : ℕ) (d : Float) → j < at → get_or (puts_column w at n k f r) j d ≡ get_or w j d
unfolding puts_column
get_or_column_before w at n k f zero j d h = refl
get_or_column_before w at n k f (suc r) j d h =
    get_or-set_other (puts_column w at n k f r) (at + (r * n + k)) j (f r) d (λ e. omega arith) ∙ get_or_column_before w at n k f r j d h

-- the second probe's value counts where there is a second distance
pub second_there : (d₂ : Option Float) (b x y d₁ : Float)
    → partial (is_some (option_and d₂ (Some y)) && is_some d₂) b x (unwrap_or (option_and d₂ (Some y)) 𝟎) d₁ (unwrap_or d₂ 𝟎) ≡ partial (is_some d₂) b x y d₁ (unwrap_or d₂ 𝟎)
unfolding partial
second_there None b x y d₁ = refl
second_there (Some d₂) b x y d₁ = refl
