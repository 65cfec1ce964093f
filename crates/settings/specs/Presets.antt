-- The conventional settings with the exponents of a proportional, a PI and a PID controller (Hairer, Nørsett and Wanner, Solving Ordinary Differential
-- Equations I, II.4; Hairer and Wanner II, IV.2; Gustafsson). The exponents are judged where they are used. Definitions only.
use Rattle.std.specs.Prelude.{ℕ, true, List, [], ◌∷◌, pos, eqb, Float, None}
use Rattle.std.specs.Float.{binary64}
use Rattle.std.specs.Float.Ieee.{of_int}
use Rattle.float.specs.Operators.{◌⊘◌, 𝟎, 𝟏}
use Rattle.stepping.specs.declared.Refusal.TheVariants.{Configuration}
use Rattle.stepping.specs.Refusals.{◌when◌, first_of}
use Rattle.settings.specs.declared.ControllerConfig.{ControllerConfig}
use Rattle.settings.specs.declared.MinimumStepPolicy.TheVariants.{Error}
use Rattle.settings.specs.declared.Answered.{Answered}
use Rattle.settings.specs.Constants.{nine_tenths, fifth, ten, largest, smallest_normal}

-- any three exponents
unfoldable pub pid : List Float → ControllerConfig
pid exponents =
    record {
      beta = exponents;
      safety = nine_tenths;
      minimum_factor = fifth;
      maximum_factor = ten;
      rejection_maximum = 𝟏;
      rejected_acceptance_maximum = 𝟏;
      minimum_step = 𝟎;
      maximum_step = largest;
      minimum_step_policy = Error;
      initial_error_history = 𝟏 ∷ 𝟏 ∷ [];
      error_history_floor = smallest_normal;
      accept_equal = true;
      rejection_exponent = None;
      repeated_rejection_maximum = None;
    }

-- the third is 0
unfoldable pub pi : Float → Float → ControllerConfig
pi beta₁ beta₂ = pid (beta₁ ∷ beta₂ ∷ 𝟎 ∷ [])

-- 1 / order, the order rounded once; 7 for the order 0, whose exponent is infinite, so that no call takes these settings
unfoldable pub proportional : ℕ → Answered ControllerConfig
proportional order =
    record {
      value = pi (𝟏 ⊘ of_int binary64 (pos order)) 𝟎;
      answer = first_of ((Configuration when eqb order 0) ∷ []);
    }
