-- The lent work as the code holds it: its doubles, with the layout. Definitions only.
use Rattle.std.specs.Prelude.{ℕ, ◌*◌, ◌≡◌, List, length, Float}
use Rattle.vector.specs.Lists.{el}
use Rattle.vector.specs.Parts.{part, puts}
use Rattle.stages.specs.declared.layout.Layout.{Layout}
use Rattle.stages.specs.declared.work.Work.{Work}

-- the n components from where `at` says
abbrev pub vector_in : Work → (ℕ → ℕ) → List Float
vector_in x at = let n = x.layout.n in part (at n) n x.cells.now

-- and n by n entries
abbrev pub matrix_in : Work → (ℕ → ℕ) → List Float
matrix_in x at = let n = x.layout.n in part (at n) (n * n) x.cells.now

-- the same doubles are lent, with the same layout
abbrev pub Same : Work → Work → Type 0
Same x y = (y.cells.ghost_name ≡ x.cells.ghost_name) × (y.layout ≡ x.layout)

-- and they are w now
abbrev pub Holds : Work → Work → List Float → Type 0
Holds x y w = (y.cells.now ≡ w) × Same x y

-- they are what f makes of those before
abbrev pub Becomes : Work → Work → (Layout → List Float → List Float) → Type 0
Becomes x y f = Holds x y (f x.layout x.cells.now)

-- the values are stored from `at` on
abbrev pub Stores : Work → Work → (ℕ → ℕ) → List Float → Type 0
Stores x y at values = Holds x y (puts x.cells.now (at x.layout.n) (el values) (length values))
