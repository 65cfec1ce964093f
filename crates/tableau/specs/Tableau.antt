-- A Rosenbrock tableau, in the transformed form of Hairer and Wanner, Solving Ordinary Differential Equations II, IV.7 (7.25, 7.26). Its
-- coefficients, with stages counted from 0, and their names there:
--
--   gamma           γ: the factor of step and Jacobian in the matrix of every stage
--   a[i][j]         a_ij, j < i: how much of stage j goes into the state at which stage i is evaluated
--   coupling[i][j]  c_ij, j < i: how much of stage j, over the step, goes to the right-hand side of stage i
--   c[i]            α_i: how far into the step stage i is evaluated
--   d[i]            γ_i: how much of step and time partial goes to the right-hand side of stage i
--   b[i]            m_i: how much of stage i goes into the new state
--   btilde[i]       how much of stage i goes into the estimate of the error; btilde may be absent
--
-- They are one list, in this order and without gaps, with a and coupling row by row. Definitions only.
use Rattle.std.specs.Prelude.{ℕ, zero, suc, ◌+◌, ◌^◌, Bool, ◌&&◌, cond, List, leb, ltb, eqb, length, Float}
use Rattle.std.specs.Float.{nan}
use Rattle.std.specs.Float.Ieee.Scale.{finite}
use Rattle.vector.specs.Lists.{el, every}
use Rattle.tableau.specs.declared.Counts.{Counts}

pub record Tableau : Type 0 where
  pub counts : Counts
  pub coefficients : List Float

-- ---- where each part starts in the list, for s stages: where the part before it ends

-- how many entries the rows before row i have, k in row k: 0 + 1 + .. + (i - 1)
unfoldable pub triangle : ℕ → ℕ
triangle zero = 0
triangle (suc i) = triangle i + i

abbrev pub gamma_at : ℕ
gamma_at = 0

abbrev pub a_at : ℕ
a_at = gamma_at + 1

abbrev pub coupling_at : ℕ → ℕ
coupling_at s = a_at + triangle s

abbrev pub c_at : ℕ → ℕ
c_at s = coupling_at s + triangle s

abbrev pub d_at : ℕ → ℕ
d_at s = c_at s + s

abbrev pub b_at : ℕ → ℕ
b_at s = d_at s + s

abbrev pub btilde_at : ℕ → ℕ
btilde_at s = b_at s + s

-- where row i of a starts, and row i of coupling
abbrev pub a_row_at : ℕ → ℕ
a_row_at i = a_at + triangle i

abbrev pub coupling_row_at : ℕ → ℕ → ℕ
coupling_row_at s i = coupling_at s + triangle i

-- past the end of every list that a file holds: a file has fewer than 2 ^ 63 bytes
abbrev pub nowhere : ℕ
nowhere = 2 ^ 60

abbrev pub present : Counts → Bool
present k = eqb k.btilde 1

-- n where btilde is present, 0 where it is absent
unfoldable pub if_present : Counts → ℕ → ℕ
if_present k n = cond (present k) n 0

-- how many coefficients there are
unfoldable pub how_many : Counts → ℕ
how_many k = btilde_at k.stages + if_present k k.stages

-- ---- which tableaus there are

-- 1 to 8 stages; the kind, the estimator and whether btilde is present are 0 or 1
unfoldable pub in_range : Counts → Bool
in_range k = (leb 1 k.stages && leb k.stages 8) && (leb k.kind 1 && (leb k.estimator 1 && leb k.btilde 1))

-- a coefficient that a tableau may hold
abbrev pub allowed : Float → Bool
allowed x = finite x

unfoldable pub allowed_at : List Float → ℕ → Bool
allowed_at xs k = allowed (el xs k)

unfoldable pub valid : Tableau → Bool
valid t =
    let xs = t.coefficients in
    in_range t.counts && (eqb (length xs) (how_many t.counts) && every (length xs) (allowed_at xs))

-- ---- its fields

-- the stages, where they are at most 8, as they are in a valid tableau; none otherwise
unfoldable pub stages_of : Tableau → ℕ
stages_of t = let s = t.counts.stages in cond (leb s 8) s 0

-- element i of the part of n coefficients from `start` on; a NaN where i is not below n
unfoldable pub of_part : Tableau → ℕ → ℕ → ℕ → Float
of_part t start n i = cond (ltb i n) (el t.coefficients (start + i)) nan

unfoldable pub gamma_of : Tableau → Float
gamma_of t = el t.coefficients gamma_at

-- where the i coefficients of row i start, and nowhere where i is no stage
unfoldable pub a_row_of : Tableau → ℕ → ℕ
a_row_of t i = cond (ltb i (stages_of t)) (a_row_at i) nowhere

unfoldable pub coupling_row_of : Tableau → ℕ → ℕ
coupling_row_of t i = let s = stages_of t in cond (ltb i s) (coupling_row_at s i) nowhere

-- row i is a part of i coefficients; a NaN where i is no stage
unfoldable pub a_of : Tableau → ℕ → ℕ → Float
a_of t i j = cond (ltb i (stages_of t)) (of_part t (a_row_at i) i j) nan

unfoldable pub coupling_of : Tableau → ℕ → ℕ → Float
coupling_of t i j = let s = stages_of t in cond (ltb i s) (of_part t (coupling_row_at s i) i j) nan

unfoldable pub c_of : Tableau → ℕ → Float
c_of t i = let s = stages_of t in of_part t (c_at s) s i

unfoldable pub d_of : Tableau → ℕ → Float
d_of t i = let s = stages_of t in of_part t (d_at s) s i

unfoldable pub b_of : Tableau → ℕ → Float
b_of t i = let s = stages_of t in of_part t (b_at s) s i

-- where btilde is absent, the list of a valid tableau ends before it
unfoldable pub btilde_of : Tableau → ℕ → Float
btilde_of t i = let s = stages_of t in of_part t (btilde_at s) s i
