-- Whether two files hold the same tableau: the counts agree and every pair of coefficients compares equal.
-- Definitions only.
use Rattle.std.specs.Prelude.{ℕ, Bool, ◌&&◌, List, eqb, length, Float, Result, Ok, Err}
use Rattle.std.specs.Float.Ieee.{eq}
use Rattle.vector.specs.Lists.{el, every}
use Rattle.stepping.specs.declared.Refusal.{Refusal}
use Rattle.stepping.specs.Refusals.{unless_refused}
use Rattle.tableau.specs.declared.Counts.{Counts}
use Rattle.tableau.specs.Tableau.{Tableau}
use Rattle.tableau.specs.File.{tableau_of, check}

-- two coefficients that count as the same: -0 and +0 do
abbrev pub alike : Float → Float → Bool
alike x y = eq x y

unfoldable pub alike_at : List Float → List Float → ℕ → Bool
alike_at xs ys k = alike (el xs k) (el ys k)

unfoldable pub same_counts : Counts → Counts → Bool
same_counts j k =
    (eqb j.stages k.stages && eqb j.kind k.kind) && (eqb j.estimator k.estimator && eqb j.btilde k.btilde)

-- of two tableaus that are valid, and so have as many coefficients where their counts agree
unfoldable pub same_tableau : Tableau → Tableau → Bool
same_tableau t u =
    same_counts t.counts u.counts && every (length t.coefficients) (alike_at t.coefficients u.coefficients)

-- the refusal of the first file, then that of the second, then the comparison
unfoldable pub same : List ℕ → List ℕ → Result Bool Refusal
same x y = unless_refused Err (check x) (unless_refused Err (check y) (Ok (same_tableau (tableau_of x) (tableau_of y))))
