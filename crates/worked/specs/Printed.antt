-- What pond prints for the file of its own tableau, by the definitions, to the character. Definitions only.
use Rattle.std.specs.Prelude.{◌≡◌, ℕ, List, ◌++◌, codes}
use Rattle.forecast.specs.Pond.{printed}
use Rattle.worked.specs.Pond.{file}

abbrev pub four_lines : List ℕ
four_lines =
    codes "step time state\n"
    ++ codes "0 0000000000000000 3ff0000000000000\n"
    ++ codes "1 3ff0000000000000 3fe0000000000000\n"
    ++ codes "2 4000000000000000 3fd0000000000000\n"

abbrev pub PondPrints : Type 0
PondPrints = printed file ≡ four_lines
