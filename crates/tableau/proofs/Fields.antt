-- The fields of a tableau, from the places at which the code reads them. Assumes nothing.
use Prim.Native.Nat.{ℕ, ◌+◌, ◌*◌, ◌^◌, ◌<◌, ◌≤◌}
use native.Mathlib.Omega.{arith}
use mathlib.Core.Path.{◌≡◌, refl, sym, ap, ◌∙◌}
use mathlib.Core.List.{List}
use lib.ListN.{length}
use lib.Ieee.{binary64, of_bits, div}
use borrow.Author.Tests.{lt-ltb, le-ltb}
use Rattle.float.proofs.Cases.{yes, no}
use Rattle.tableau.specs.Tableau.{Tableau, triangle, nowhere, c_at, stages_of, of_part, a_of, coupling_of, c_of, d_of, b_of, btilde_of}
use Rattle.tableau.specs.File.{coefficients_of, tableau_of}
use Rattle.float.proofs.Laws.{nan_is}
use Rattle.vector.specs.Lists.{el}
use Rattle.tableau.proofs.Laws.{coefficient_past}

-- one part, its start worked out in two ways
start_is : (t : Tableau) (i : ℕ) {k l m n : ℕ} → k ≡ l → m ≡ n → of_part t k m i ≡ of_part t l n i
start_is t i e f = rw (e, f)

-- the vectors, one after the other
module _ (t : Tableau) (i : ℕ) where
  abbrev S : ℕ
  S = stages_of t

  pub c_is : of_part t (c_at S + 0 * S) S i ≡ c_of t i
  unfolding c_of
  c_is = start_is t i (omega arith) refl

  pub d_is : of_part t (c_at S + 1 * S) S i ≡ d_of t i
  unfolding d_of
  d_is = start_is t i (omega arith) refl

  pub b_is : of_part t (c_at S + 2 * S) S i ≡ b_of t i
  unfolding b_of
  b_is = start_is t i (omega arith) refl

  pub btilde_is : of_part t (c_at S + 3 * S) S i ≡ btilde_of t i
  unfolding btilde_of
  btilde_is = start_is t i (omega arith) refl

module _ (t : Tableau) (i j : ℕ) {s : ℕ} (e : s ≡ stages_of t) where
  module _ (h : i < s) where
    pub a_is : {m : ℕ} → m ≡ triangle i → of_part t (1 + m) i j ≡ a_of t i j
    unfolding a_of
    a_is {m} f = yes _ (lt-ltb i (stages_of t) (omega arith)) (start_is t j (omega arith) (omega arith))

    pub coupling_is : {l m : ℕ} → l ≡ triangle s → m ≡ triangle i → of_part t (1 + l + m) i j ≡ coupling_of t i j
    unfolding coupling_of
    coupling_is {l} {m} f g = yes _ (lt-ltb i (stages_of t) (omega arith)) (start_is t j (omega (arith, ap triangle e)) (omega arith))

  pub a_past : s ≤ i → div binary64 (of_bits binary64 0) (of_bits binary64 0) ≡ a_of t i j
  unfolding a_of
  a_past h = no _ (le-ltb i (stages_of t) (omega arith)) nan_is

  pub coupling_past : s ≤ i → div binary64 (of_bits binary64 0) (of_bits binary64 0) ≡ coupling_of t i j
  unfolding coupling_of
  coupling_past h = no _ (le-ltb i (stages_of t) (omega arith)) nan_is

-- ---- a row, read whole

of_part_is : (t : Tableau) (start n j : ℕ) → j < n → of_part t start n j ≡ el t.coefficients (start + j)
unfolding of_part
of_part_is t start n j h = rw (lt-ltb j n h)

module _ (t : Tableau) (i : ℕ) {s : ℕ} (e : s ≡ stages_of t) (h : i < s) (j : ℕ) (k : j < i) where
  pub a_row_is : {m : ℕ} → m ≡ triangle i → el t.coefficients (1 + m + j) ≡ a_of t i j
  a_row_is {m} f = sym (of_part_is t (1 + m) i j k) ∙ a_is t i j e h f

  pub coupling_row_is : {l m : ℕ} → l ≡ triangle s → m ≡ triangle i → el t.coefficients (1 + l + m + j) ≡ coupling_of t i j
  coupling_row_is {l} {m} f g = sym (of_part_is t (1 + l + m) i j k) ∙ coupling_is t i j e h f g

-- row i of a file where i is no stage
module _ (file : List ℕ) (short : length file < 2 ^ 63) (i : ℕ) {s : ℕ} (e : s ≡ stages_of (tableau_of file)) (h : s ≤ i) (j : ℕ) where
  past : el (coefficients_of file) (nowhere + j) ≡ div binary64 (of_bits binary64 0) (of_bits binary64 0)
  past = coefficient_past file (nowhere + j) (omega arith) ∙ sym nan_is

  pub a_row_past : el (coefficients_of file) (nowhere + j) ≡ a_of (tableau_of file) i j
  a_row_past = past ∙ a_past (tableau_of file) i j e h

  pub coupling_row_past : el (coefficients_of file) (nowhere + j) ≡ coupling_of (tableau_of file) i j
  coupling_row_past = past ∙ coupling_past (tableau_of file) i j e h
