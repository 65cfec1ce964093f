-- Three vectors of one length that a stepper can have. Definitions only.
use Rattle.std.specs.Prelude.{ℕ, Bool, ◌&&◌, eqb, leb}

-- one length, from 1 to 32
unfoldable pub same_dimension : ℕ → ℕ → ℕ → Bool
same_dimension n m k = leb 1 n && (leb n 32 && (eqb m n && eqb k n))
