-- The constants of the Rust, as the bits of IEEE 754 binary64 (3.4). Beside each stands the power of two that it is, or the
-- fraction that it is the rounding of. `fin false m e` is m times 2 to the e, and `round binary64 false a b` the double nearest to a / b.
use Rattle.std.specs.Prelude.{◌≡◌, refl, false, ℕ, ◌+◌, ◌-◌, ◌*◌, ◌^◌, ◌<◌, negsuc, Float}
use Rattle.std.proofs.Common.{lit<}
use Rattle.std.specs.Float.{fin, binary64}
use Rattle.std.specs.Float.Ieee.{round, of_bits}

-- 2 ^ -52, 2 ^ -26 and 0.5
abbrev pub epsilon : Float
epsilon = of_bits binary64 0x3cb0_0000_0000_0000

abbrev pub sqrt_epsilon : Float
sqrt_epsilon = of_bits binary64 0x3e50_0000_0000_0000

abbrev pub half : Float
half = of_bits binary64 0x3fe0_0000_0000_0000

pub epsilon_is : epsilon ≡ fin false 1 (negsuc 51)
unfolding of_bits
epsilon_is = refl

pub sqrt_epsilon_is : sqrt_epsilon ≡ fin false 1 (negsuc 25)
unfolding of_bits
sqrt_epsilon_is = refl

pub half_is : half ≡ fin false 1 (negsuc 0)
unfolding of_bits
half_is = refl

-- 1e-5, 1e-6 and 0.01
abbrev pub ten⁻⁵ : Float
ten⁻⁵ = of_bits binary64 0x3ee4_f8b5_88e3_68f1

abbrev pub ten⁻⁶ : Float
ten⁻⁶ = of_bits binary64 0x3eb0_c6f7_a0b5_ed8d

abbrev pub hundredth : Float
hundredth = of_bits binary64 0x3f84_7ae1_47ae_147b

pub ten⁻⁵_is : ten⁻⁵ ≡ round binary64 false 1 100000
unfolding of_bits round
ten⁻⁵_is = refl

pub ten⁻⁶_is : ten⁻⁶ ≡ round binary64 false 1 1000000
unfolding of_bits round
ten⁻⁶_is = refl

pub hundredth_is : hundredth ≡ round binary64 false 1 100
unfolding of_bits round
hundredth_is = refl

-- The default relative step of the time differences: the cube root of 2 ^ -52. It is m times 2 ^ -70, and the middles between it and its two
-- neighbours, m - 1/2 and m + 1/2 times 2 ^ -70, have cubes below and above 2 ^ -52: so it is the double nearest to that root.
abbrev pub cbrt_epsilon : Float
cbrt_epsilon = of_bits binary64 0x3ed9_65fe_a53d_6e3d

abbrev m : ℕ
m = 7149018786131517

pub cbrt_epsilon_is : cbrt_epsilon ≡ fin false m (negsuc 69)
unfolding of_bits
cbrt_epsilon_is = refl

-- (m - 1/2) ^ 3 * 2 ^ -210 < 2 ^ -52 < (m + 1/2) ^ 3 * 2 ^ -210, times 2 ^ 213
pub cbrt_epsilon_nearest : ((2 * m - 1) ^ 3 < 2 ^ 161) × (2 ^ 161 < (2 * m + 1) ^ 3)
cbrt_epsilon_nearest = (lit< tt, lit< tt)
