-- The triangle, the coefficients of a file, and its counts. Assumes nothing.
use Prim.Native.Nat.{ℕ, zero, suc, ◌+◌, ◌-◌, ◌*◌, ◌/◌, ◌%◌, ◌<◌, ◌≤◌}
use native.Mathlib.Nat.{suc-mul, mul-suc, mul-le-mul_left}
use native.Mathlib.Omega.{arith}
use mathlib.Core.Path.{◌≡◌, refl, sym, ap, ◌∙◌}
use mathlib.Core.List.{List}
use lib.Dec.{leb, ltb}
use lib.ListN.{length, get_or, get_or-eq_default}
use lib.Ieee.{nan, binary64, of_bits}
use lib.Ieee.Scale.{finite}
use borrow.Author.Tests.{le-leb, lt-leb, lt-ltb, le-ltb, ltb-true, ltb-false}
use Rattle.codec.specs.Little.{little, double_at}
use Rattle.codec.proofs.Bytes.{upper_half}
use Rattle.float.proofs.Cases.{yes, no, by}
use Rattle.float.proofs.Patterns.{finite_bits}
use Rattle.vector.specs.Lists.{el}
use Rattle.vector.proofs.Lists.{length-table, table_at}
use Rattle.tableau.specs.Tableau.{Tableau, triangle, stages_of}
use Rattle.tableau.specs.File.{place, number, coefficients_of}

-- ---- the triangle
pub twice : (i : ℕ) → 2 * triangle i + i ≡ i * i
unfolding triangle
twice zero = refl
twice (suc i) = omega (arith, twice i, suc-mul i (suc i), mul-suc i i)

pub square_in : (i : ℕ) → i ≤ 8 → i * i ≤ i * 8
square_in i h = mul-le-mul_left i h

-- ---- the counts of a file
pub number_none : (file : List ℕ) (i : ℕ) → length file < 48 → 0 ≡ number file i
unfolding number
number_none file i h = no _ (lt-leb 48 (length file) h) refl

pub number_some : (file : List ℕ) (i : ℕ) → 48 ≤ length file → little 4 file (4 * i) ≡ number file i
unfolding number
number_some file i h = yes _ (le-leb 48 (length file) h) refl

-- ---- the coefficients of a file
pub length_coefficients : (file : List ℕ) → length (coefficients_of file) ≡ (length file - 48) / 8
unfolding coefficients_of
length_coefficients file = length-table (λ k. double_at file (place k)) ((length file - 48) / 8)

pub coefficient_at : (file : List ℕ) (k : ℕ) → k < (length file - 48) / 8 → el (coefficients_of file) k ≡ double_at file (place k)
unfolding coefficients_of
coefficient_at file k h = table_at nan (λ j. double_at file (place j)) ((length file - 48) / 8) k h

-- the exponent lies in the upper four bytes
upper_exponent : (b : ℕ) → ltb (b / 0x1_0000_0000 % 0x8000_0000) 0x7ff0_0000 ≡ ltb (b % 0x8000_0000_0000_0000) 0x7ff0_0000_0000_0000
upper_exponent b =
    by (ltb (b % 0x8000_0000_0000_0000) 0x7ff0_0000_0000_0000)
    (λ e. rw e (lt-ltb (b / 0x1_0000_0000 % 0x8000_0000) 0x7ff0_0000 (omega (arith, ltb-true (b % 0x8000_0000_0000_0000) 0x7ff0_0000_0000_0000 e))))
    (λ e. rw e (le-ltb (b / 0x1_0000_0000 % 0x8000_0000) 0x7ff0_0000 (omega (arith, ltb-false (b % 0x8000_0000_0000_0000) 0x7ff0_0000_0000_0000 e))))

pub upper_allowed : (file : List ℕ) (i : ℕ) → ((j : ℕ) → get_or file j 0 < 256) → 48 + 8 * (i + 1) ≤ length file
    → ltb (little 4 file (place i + 4) % 0x8000_0000) 0x7ff0_0000 ≡ finite (el (coefficients_of file) i)
upper_allowed file i B h =
    ap (λ (u : ℕ). ltb (u % 0x8000_0000) 0x7ff0_0000) (sym (upper_half file (place i) B))
    ∙ upper_exponent (little 8 file (place i))
    ∙ sym (finite_bits (little 8 file (place i)))
    ∙ ap finite (sym (coefficient_at file i (omega arith)))

pub coefficient_past : (file : List ℕ) (k : ℕ) → (length file - 48) / 8 ≤ k → el (coefficients_of file) k ≡ nan
coefficient_past file k h = get_or-eq_default (coefficients_of file) nan (omega (arith, length_coefficients file))

-- the code's NaN
pub nan_bits : of_bits binary64 0x7ff8_0000_0000_0000 ≡ nan
unfolding of_bits
nan_bits = refl

-- ---- the stages that a reader answers
module _ (t : Tableau) {s : ℕ} (e : s ≡ t.counts.stages) where
  pub stages_few : s ≤ 8 → s ≡ stages_of t
  unfolding stages_of
  stages_few h = yes _ (ap (λ (n : ℕ). leb n 8) (sym e) ∙ le-leb s 8 h) e

  pub stages_many : 8 < s → 0 ≡ stages_of t
  unfolding stages_of
  stages_many h = no _ (ap (λ (n : ℕ). leb n 8) (sym e) ∙ lt-leb s 8 h) refl
