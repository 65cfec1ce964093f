-- Worked examples: the file that pond is run on, files one change away from it, a tableau of two stages field by field, and the
-- lengths of the shortest and of the longest. Assumes nothing.
use Prim.Native.Nat.{ℕ, zero, suc, ◌+◌, ◌-◌, ◌*◌}
use native.Mathlib.Nat.{mul-suc}
use native.Mathlib.Omega.{arith}
use mathlib.Core.Path.{◌≡◌, refl}
use mathlib.Core.Bool.{true, false}
use mathlib.Core.List.{List, [], ◌∷◌, ◌++◌}
use lib.ListN.{take, set}
use lib.IntN.{pos}
use lib.Ieee.{Float, nan, fin, eq, of_bits, to_bits}
use Rattle.codec.specs.Little.{little, bytes_of, bytes_of_all}
use Rattle.vector.specs.Lists.{table, every}
use Rattle.stepping.specs.Refusals.{unless_refused}
use Rattle.std.specs.Prelude.{Ok, Err}
use Rattle.stepping.specs.declared.Refusal.TheVariants.{TableauFile}
use Rattle.tableau.specs.Tableau.{Tableau, triangle, if_present, how_many, in_range, allowed_at, valid, stages_of, of_part, gamma_of, a_of, coupling_of, c_of, d_of, b_of, btilde_of}
use Rattle.tableau.specs.File.{place, header, file_of, number, counts_of, coefficients_of, tableau_of, matches, accepts, check}
use Rattle.tableau.specs.Same.{alike_at, same_counts, same_tableau, same}
use Rattle.tableau.proofs.Laws.{twice}

-- ---- s = 1, gamma = d = b = 1, c = 0, no btilde
one : List ℕ
one = 0 ∷ 0 ∷ 0 ∷ 0 ∷ 0 ∷ 0 ∷ 240 ∷ 63 ∷ []

nought : List ℕ
nought = 0 ∷ 0 ∷ 0 ∷ 0 ∷ 0 ∷ 0 ∷ 0 ∷ 0 ∷ []

pub pond : List ℕ
unfolding bytes_of bytes_of_all one nought
pond = bytes_of_all 4 (1 ∷ 0 ∷ 0 ∷ 0 ∷ 48 ∷ 56 ∷ 56 ∷ 56 ∷ 64 ∷ 72 ∷ 0 ∷ 80 ∷ []) ++ (one ++ (nought ++ (one ++ one)))

pub pond_holds : tableau_of pond ≡ record { counts = record { stages = 1; kind = 0; estimator = 0; btilde = 0 }; coefficients = fin false 1 (pos 0) ∷ fin false 0 (pos 0) ∷ fin false 1 (pos 0) ∷ fin false 1 (pos 0) ∷ [] }
unfolding pond number counts_of coefficients_of table little of_bits
pond_holds = refl

pub pond_written : file_of (tableau_of pond) ≡ pond
unfolding pond number counts_of coefficients_of table little of_bits file_of header how_many if_present triangle bytes_of bytes_of_all to_bits
pond_written = refl

-- it is taken, and so is a hybrid one
pub pond_taken : (check pond ≡ Ok tt) × (check (set pond 4 1) ≡ Ok tt)
unfolding pond check accepts valid in_range how_many if_present triangle every allowed_at header number counts_of coefficients_of matches table little of_bits
pond_taken = (refl, refl)

-- 0 and 9 stages, kind 2, estimator 2, btilde 2
pub wrong_counts : (check (set pond 0 0) ≡ Err TableauFile) × (check (set pond 0 9) ≡ Err TableauFile) × (check (set pond 4 2) ≡ Err TableauFile) × (check (set pond 8 2) ≡ Err TableauFile) × (check (set pond 12 2) ≡ Err TableauFile)
unfolding pond check accepts valid in_range how_many if_present triangle every allowed_at header number counts_of coefficients_of matches table little of_bits
wrong_counts = (refl, refl, refl, refl, refl)

-- gamma at 49; c at 64, after a gap; an absent btilde with an offset; another length
pub wrong_numbers : (check (set pond 16 49) ≡ Err TableauFile) × (check (set pond 28 64) ≡ Err TableauFile) × (check (set pond 40 80) ≡ Err TableauFile) × (check (set pond 44 88) ≡ Err TableauFile)
unfolding pond check accepts valid in_range how_many if_present triangle every allowed_at header number counts_of coefficients_of matches table little of_bits
wrong_numbers = (refl, refl, refl, refl)

-- b infinite, and a NaN
pub wrong_coefficients : (check (set pond 79 127) ≡ Err TableauFile) × (check (set (set pond 79 127) 72 1) ≡ Err TableauFile)
unfolding pond check accepts valid in_range how_many if_present triangle every allowed_at header number counts_of coefficients_of matches table little of_bits
wrong_coefficients = (refl, refl)

-- a byte less, a byte more, 47 bytes, none
pub wrong_lengths : (check (take 79 pond) ≡ Err TableauFile) × (check (pond ++ (0 ∷ [])) ≡ Err TableauFile) × (check (take 47 pond) ≡ Err TableauFile) × (check [] ≡ Err TableauFile)
unfolding pond check accepts valid in_range how_many if_present triangle every allowed_at header number counts_of coefficients_of matches table little of_bits
wrong_lengths = (refl, refl, refl, refl)

-- -0 for 0 in c is the same tableau; a c that is not 0, and the other kind, are not; the refusal comes first
pub pond-same : (same pond (set pond 63 128) ≡ Ok true) × (same pond (set pond 56 1) ≡ Ok false) × (same pond (set pond 4 1) ≡ Ok false) × (same (set pond 4 1) (take 79 pond) ≡ Err TableauFile)
unfolding pond same same_tableau same_counts alike_at unless_refused eq check accepts valid in_range how_many if_present triangle every allowed_at header number counts_of coefficients_of matches table little of_bits
pond-same = (refl, refl, refl, refl)

-- ---- every field of a tableau of two stages, whatever its coefficients are
module _ (gamma a coupling c₀ c₁ d₀ d₁ b₀ b₁ e₀ e₁ : Float) where
  abbrev two : Tableau
  two = record { counts = record { stages = 2; kind = 0; estimator = 0; btilde = 1 }; coefficients = gamma ∷ a ∷ coupling ∷ c₀ ∷ c₁ ∷ d₀ ∷ d₁ ∷ b₀ ∷ b₁ ∷ e₀ ∷ e₁ ∷ [] }

  pub two_matrices : (gamma_of two ≡ gamma) × (a_of two 1 0 ≡ a) × (coupling_of two 1 0 ≡ coupling)
  unfolding stages_of of_part triangle gamma_of a_of coupling_of
  two_matrices = (refl, refl, refl)

  pub two_vectors : (c_of two 0 ≡ c₀) × (c_of two 1 ≡ c₁) × (d_of two 0 ≡ d₀) × (d_of two 1 ≡ d₁) × (b_of two 0 ≡ b₀) × (b_of two 1 ≡ b₁) × (btilde_of two 0 ≡ e₀) × (btilde_of two 1 ≡ e₁)
  unfolding stages_of of_part triangle c_of d_of b_of btilde_of
  two_vectors = (refl, refl, refl, refl, refl, refl, refl, refl)

  -- on and above the diagonal, below the last row, past the last stage
  pub two_absent : (a_of two 0 0 ≡ nan) × (a_of two 1 1 ≡ nan) × (a_of two 2 0 ≡ nan) × (coupling_of two 1 1 ≡ nan) × (coupling_of two 2 0 ≡ nan) × (c_of two 2 ≡ nan)
  unfolding stages_of of_part triangle a_of coupling_of c_of
  two_absent = (refl, refl, refl, refl, refl, refl)

-- ---- 80 bytes at the least and 760 at the most
pub least_most : (place (how_many (record { stages = 1; kind = 0; estimator = 0; btilde = 0 })) ≡ 80) × (place (how_many (record { stages = 8; kind = 0; estimator = 0; btilde = 1 })) ≡ 760)
unfolding how_many if_present triangle
least_most = (refl, refl)

two_triangles : (s : ℕ) → 2 * triangle s ≡ s * (s - 1)
two_triangles zero = unfold triangle in refl
two_triangles (suc n) =
    let e : suc n - 1 ≡ n = omega arith in
    rw e (omega (arith, twice (suc n), mul-suc (suc n) n))

-- 48 + 8 (1 + s (s - 1) + 3 s), plus s with btilde
pub printed : (s k e : ℕ) → (place (how_many (record { stages = s; kind = k; estimator = e; btilde = 0 })) ≡ 48 + 8 * (1 + s * (s - 1) + 3 * s))
    × (place (how_many (record { stages = s; kind = k; estimator = e; btilde = 1 })) ≡ 48 + 8 * (1 + s * (s - 1) + 3 * s + s))
unfolding how_many if_present
printed s k e = let h = two_triangles s in (omega arith, omega arith)
