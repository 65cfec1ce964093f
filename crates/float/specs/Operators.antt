-- The arithmetic of IEEE 754 binary64 (IEEE 754-2019, 5.4.1), each operation rounded once, to nearest with ties to even, and the literals 0, 1 and 2.
-- Definitions only.
use Rattle.std.specs.Prelude.{Float}
use Rattle.std.specs.Float.{binary64}
use Rattle.std.specs.Float.Ieee.{of_bits}
use Rattle.std.specs.Float.Ieee as Ieee

abbrev pub ◌⊕◌ : Float → Float → Float
x ⊕ y = Ieee.add binary64 x y

abbrev pub ◌⊖◌ : Float → Float → Float
x ⊖ y = Ieee.sub binary64 x y

abbrev pub ◌⊗◌ : Float → Float → Float
x ⊗ y = Ieee.mul binary64 x y

abbrev pub ◌⊘◌ : Float → Float → Float
x ⊘ y = Ieee.div binary64 x y

infixl 60 ◌⊕◌
infixl 60 ◌⊖◌
infixl 70 ◌⊗◌
infixl 70 ◌⊘◌
abbrev pub 𝟎 : Float
𝟎 = of_bits binary64 0

abbrev pub 𝟏 : Float
𝟏 = of_bits binary64 0x3ff0_0000_0000_0000

abbrev pub 𝟐 : Float
𝟐 = of_bits binary64 0x4000_0000_0000_0000
