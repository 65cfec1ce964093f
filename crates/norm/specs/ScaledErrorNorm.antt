-- What scaled_error_norm refuses, and its answer. Definitions only.
use Rattle.std.specs.Prelude.{not, ◌&&◌, List, [], ◌∷◌, length, Float, Result, Ok, Err}
use Rattle.float.specs.Methods.{finite_positive}
use Rattle.stepping.specs.declared.Refusal.{Refusal}
use Rattle.stepping.specs.declared.Refusal.TheVariants.{Dimension, Tolerance}
use Rattle.stepping.specs.Dimension.{same_dimension}
use Rattle.stepping.specs.Refusals.{Test, ◌when◌, first_of, unless_refused, finite_test}
use Rattle.norm.specs.ErrorNorm.{error_norm}

-- 1 for the lengths; 2 for a number that is not finite; 8 for a tolerance that is not finite and positive
abbrev pub tests : Float → Float → List Float → List Float → List Float → List Test
tests absolute relative y z e =
    (Dimension when not (same_dimension (length y) (length z) (length e)))
    ∷ finite_test y
    ∷ finite_test z
    ∷ finite_test e
    ∷ (Tolerance when not (finite_positive absolute && finite_positive relative))
    ∷ []

-- the error norm of a step from y to z with the errors e
unfoldable pub scaled_error_norm : Float → Float → List Float → List Float → List Float → Result Float Refusal
scaled_error_norm absolute relative y z e =
    unless_refused Err (first_of (tests absolute relative y z e)) (Ok (error_norm absolute relative y z e))
