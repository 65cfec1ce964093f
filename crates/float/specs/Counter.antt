-- A counter of 64 bits that stays at its largest value. Definitions only.
use Rattle.std.specs.Prelude.{ℕ, suc, min, ◌^◌, ◌-◌}

unfoldable pub saturating_increment : ℕ → ℕ
saturating_increment n = min (suc n) (2 ^ 64 - 1)
