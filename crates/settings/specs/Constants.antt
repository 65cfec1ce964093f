-- The constants of the conventional settings, as the bits of IEEE 754 binary64 (3.4). Beside each stands the fraction that it is the rounding of, or
-- the exact value: `fin false m e` is m times 2 to the e, and `round binary64 false a b` the double nearest to a / b.
use Rattle.std.specs.Prelude.{◌≡◌, refl, false, pos, negsuc, Float}
use Rattle.std.specs.Float.{fin, binary64}
use Rattle.std.specs.Float.Ieee.{round, of_bits}

-- 0.9, 0.2 and 10
abbrev pub nine_tenths : Float
nine_tenths = of_bits binary64 0x3fec_cccc_cccc_cccd

abbrev pub fifth : Float
fifth = of_bits binary64 0x3fc9_9999_9999_999a

abbrev pub ten : Float
ten = of_bits binary64 0x4024_0000_0000_0000

pub nine_tenths_is : nine_tenths ≡ round binary64 false 9 10
unfolding of_bits round
nine_tenths_is = refl

pub fifth_is : fifth ≡ round binary64 false 1 5
unfolding of_bits round
fifth_is = refl

pub ten_is : ten ≡ fin false 5 (pos 1)
unfolding of_bits
ten_is = refl

-- the largest double, (2 ^ 53 - 1) * 2 ^ 971, and the smallest normal one, 2 ^ -1022
abbrev pub largest : Float
largest = of_bits binary64 0x7fef_ffff_ffff_ffff

abbrev pub smallest_normal : Float
smallest_normal = of_bits binary64 0x0010_0000_0000_0000

pub largest_is : largest ≡ fin false 9007199254740991 (pos 971)
unfolding of_bits
largest_is = refl

pub smallest_normal_is : smallest_normal ≡ fin false 1 (negsuc 1021)
unfolding of_bits
smallest_normal_is = refl
