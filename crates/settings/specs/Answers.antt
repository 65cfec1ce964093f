-- What a call of the controller hands back. Definitions only.
use Rattle.std.specs.Prelude.{Bool, not, [], ◌∷◌}
use Rattle.stepping.specs.declared.Refusal.TheVariants.{Configuration}
use Rattle.stepping.specs.Refusals.{◌when◌, first_of}
use Rattle.settings.specs.declared.Answered.{Answered}

-- a value, refused with 7 where what was handed over is not valid
abbrev pub judged : {A : Type 0} → A → Bool → Answered A
judged x valid = record { value = x; answer = first_of ((Configuration when not valid) ∷ []) }
