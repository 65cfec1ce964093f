-- The lent matrix as the code holds it: its entries, with their number. Definitions only.
use Rattle.std.specs.Prelude.{ℕ, ◌<◌, ◌≡◌, Float}
use Rattle.vector.specs.Matrices.{entry}
use Rattle.linear.specs.declared.matrix.Matrix.{Matrix}

-- the same entries are lent
abbrev pub Same : Matrix → Matrix → Type 0
Same x y = (y.entries.ghost_name ≡ x.entries.ghost_name) × (y.n ≡ x.n)

-- and each is what f makes of those before
abbrev pub Entries : Matrix → Matrix → ((ℕ → ℕ → Float) → ℕ → ℕ → Float) → Type 0
Entries x y f = ((i j : ℕ) → i < x.n → j < x.n → entry x.n y.entries.now i j ≡ f (entry x.n x.entries.now) i j) × Same x y
