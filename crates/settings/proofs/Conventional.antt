-- What is left to judge of the conventional settings. Assumes nothing.
use mathlib.Core.Path.{◌≡◌, refl}
use mathlib.Core.Bool.{true, false}
use mathlib.Core.List.{List}
use lib.Ieee.{Float, of_int, of_bits, div, round, lt, le, eq}
use Rattle.float.specs.Methods.{finite_positive}
use Rattle.settings.specs.Valid.{fraction, none_or, valid_exponents, valid_factors, valid_steps, valid_errors, valid_history, valid_limits, valid_settings}
use Rattle.settings.specs.Presets.{pid, pi, proportional}

-- of the conventional settings only the exponents can be refused
pub pid_limits : (exponents : List Float) → valid_limits (pid exponents) ≡ true
unfolding pid valid_limits valid_factors none_or valid_steps valid_history valid_errors finite_positive fraction lt le eq of_bits
pid_limits exponents = refl

-- and those of the order 0 are
pub order_0_invalid : valid_settings (proportional 0).value ≡ false
unfolding proportional pi pid valid_settings valid_exponents finite_positive of_int round div of_bits lt
order_0_invalid = refl
