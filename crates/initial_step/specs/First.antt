-- The starting step size (Hairer, Nørsett and Wanner, Solving Ordinary Differential Equations I, II.4, the first guess): with the norms d₀ of the state
-- and d₁ of its derivative, a hundredth of d₀ / d₁, or 1e-6 where a norm is below 1e-5; at most the maximum, in the direction. Definitions only.
use Rattle.std.specs.Prelude.{◌≡◌, Bool, true, not, ◌&&◌, ◌||◌, cond, List, [], ◌∷◌, length, Float, Result, Ok, Err}
use Rattle.std.specs.List.{list_all}
use Rattle.std.specs.Float.Ieee.{lt, le, ne}
use Rattle.std.specs.Float.Ieee.Scale.{finite}
use Rattle.float.specs.Operators.{◌⊗◌, ◌⊘◌, 𝟎, 𝟏}
use Rattle.float.specs.Constants.{ten⁻⁵, ten⁻⁶, hundredth}
use Rattle.float.specs.Methods.{abs, min_num, finite_positive}
use Rattle.stepping.specs.Dimension.{same_dimension}
use Rattle.stepping.specs.declared.Refusal.{Refusal}
use Rattle.stepping.specs.declared.Refusal.TheVariants.{Dimension, Direction, FirstStep}
use Rattle.stepping.specs.Refusals.{Test, ◌when◌, first_of, unless_refused, finite_test}
use Rattle.initial_step.specs.Norm.{rms}

-- ---- what is handed over: n components, 1 to 32, with as many derivatives and scales; the scales and the maximum above 0, the direction 1 or -1

abbrev pub all_above : List Float → Bool
all_above s = list_all (λ x. not (le x 𝟎)) s

unfoldable pub undirected : List Float → Float → Float → Bool
undirected s direct maximum = not (all_above s) || (ne (abs direct) 𝟏 || le maximum 𝟎)

unfoldable pub input_tests : List Float → List Float → List Float → Float → Float → List Test
input_tests y f s direct maximum =
    (Dimension when not (same_dimension (length y) (length f) (length s)))
    ∷ finite_test y
    ∷ finite_test f
    ∷ finite_test s
    ∷ finite_test (direct ∷ maximum ∷ [])
    ∷ (Direction when undirected s direct maximum)
    ∷ []

-- ---- the step from the two norms

unfoldable pub slight : Float → Float → Bool
slight d₀ d₁ = lt d₀ ten⁻⁵ || lt d₁ ten⁻⁵

-- neither is below 1e-5, and one or both are infinite
unfoldable pub unbounded : Float → Float → Bool
unbounded d₀ d₁ = not (slight d₀ d₁) && not (finite d₀ && finite d₁)

unfoldable pub guess : Float → Float → Float → Float
guess d₀ d₁ maximum = cond (slight d₀ d₁) ten⁻⁶ (min_num (hundredth ⊗ d₀ ⊘ d₁) maximum)

-- 9 where only the logarithms of the norms would give their quotient
unfoldable pub proposed : Float → Float → Float → Float → Result Float Refusal
proposed d₀ d₁ direct maximum = cond (unbounded d₀ d₁) (Err FirstStep) (Ok (direct ⊗ min_num (guess d₀ d₁ maximum) maximum))

-- ---- the call

unfoldable pub initial_step : List Float → List Float → List Float → Float → Float → Result Float Refusal
initial_step y f s direct maximum =
    unless_refused Err (first_of (input_tests y f s direct maximum)) (proposed (rms y s) (rms f s) direct maximum)

-- a step h of the direction 1 or -1: finite, no zero, in the direction, and at most the maximum
pub record Directed (direct maximum h : Float) : Type 0 where
  pub finite_step : finite h ≡ true
  pub ahead : finite_positive (direct ⊗ h) ≡ true
  pub at_most : le (abs h) maximum ≡ true
