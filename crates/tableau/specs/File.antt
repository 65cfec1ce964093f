-- The tableau file. All is little-endian. First come twelve numbers of 32 bits:
--
--   0   stages, 1 to 8
--   1   kind: 0 Rosenbrock, 1 hybrid
--   2   estimator: 0 embedded, 1 step doubling
--   3   btilde: 1 where it is present, 0 where it is absent
--   4   the byte at which gamma starts
--   5   the byte at which a starts
--   6   the byte at which coupling starts
--   7   the byte at which c starts
--   8   the byte at which d starts
--   9   the byte at which b starts
--   10  the byte at which btilde starts, 0 where it is absent
--   11  the length of the file in bytes
--
-- Then come the coefficients, as doubles of IEEE 754 binary64, in this order and without gaps. Definitions only.
use Rattle.std.specs.Prelude.{ℕ, ◌+◌, ◌-◌, ◌*◌, ◌/◌, Bool, ◌&&◌, cond, List, [], ◌∷◌, ◌++◌, map, leb, eqb, length, get_or, Float, Result, Ok, Err, ⊤}
use Rattle.std.specs.Float.{binary64}
use Rattle.std.specs.Float.Ieee.{to_bits}
use Rattle.codec.specs.Little.{little, double_at, bytes_of_all}
use Rattle.vector.specs.Lists.{table, every}
use Rattle.stepping.specs.declared.Refusal.{Refusal}
use Rattle.stepping.specs.declared.Refusal.TheVariants.{TableauFile}
use Rattle.tableau.specs.declared.Counts.{Counts}
use Rattle.tableau.specs.Tableau.{Tableau, gamma_at, a_at, coupling_at, c_at, d_at, b_at, btilde_at, if_present, how_many, valid}

-- the byte at which coefficient k starts
abbrev pub place : ℕ → ℕ
place k = 48 + 8 * k

-- the twelve numbers
unfoldable pub header : Counts → List ℕ
header k =
    let s = k.stages in
    s ∷ k.kind ∷ k.estimator ∷ k.btilde
    ∷ place gamma_at ∷ place a_at ∷ place (coupling_at s) ∷ place (c_at s) ∷ place (d_at s) ∷ place (b_at s)
    ∷ if_present k (place (btilde_at s))
    ∷ place (how_many k) ∷ []

-- the file of a tableau
unfoldable pub file_of : Tableau → List ℕ
file_of t = bytes_of_all 4 (header t.counts) ++ bytes_of_all 8 (map (to_bits binary64) t.coefficients)

-- ---- what a file holds

-- number i of the twelve; 0 where there are no twelve
unfoldable pub number : List ℕ → ℕ → ℕ
number file i = cond (leb 48 (length file)) (little 4 file (4 * i)) 0

unfoldable pub counts_of : List ℕ → Counts
counts_of file = record { stages = number file 0; kind = number file 1; estimator = number file 2; btilde = number file 3 }

-- the doubles that stand whole after the twelve numbers
unfoldable pub coefficients_of : List ℕ → List Float
coefficients_of file = table (λ k. double_at file (place k)) ((length file - 48) / 8)

abbrev pub tableau_of : List ℕ → Tableau
tableau_of file = record { counts = counts_of file; coefficients = coefficients_of file }

-- ---- which files are taken

-- number i of the file is number i of the header
unfoldable pub matches : List ℕ → List ℕ → ℕ → Bool
matches file head i = eqb (number file i) (get_or head i 0)

-- what it holds is a tableau, and it is the file of that tableau: it is as long as its counts ask for, and its twelve numbers are theirs
unfoldable pub accepts : List ℕ → Bool
accepts file =
    let k = counts_of file in
    valid (tableau_of file) && (eqb (length file) (place (how_many k)) && every 12 (matches file (header k)))

-- 12 for a file that is not taken
unfoldable pub check : List ℕ → Result ⊤ Refusal
check file = cond (accepts file) (Ok tt) (Err TableauFile)
