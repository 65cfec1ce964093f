-- From the tests that `check` and `same` make to what the definitions answer. Assumes nothing.
use Prim.Native.Nat.{ℕ, ◌+◌, ◌*◌, ◌≤◌}
use native.Mathlib.Omega.{arith}
use mathlib.Core.Path.{◌≡◌, refl, sym, ap, ◌∙◌}
use mathlib.Core.Bool.{Bool, true, false, ◌&&◌}
use mathlib.Core.List.{List}
use lib.Dec.{eqb, leb}
use lib.ListN.{length, get_or}
use borrow.Author.Tests.{leb-true, eqb-true, eq-eqb, ne_eqb}
use Rattle.float.proofs.Cases.{both, and_no, and_no_right, and_left, and_right}
use Rattle.vector.specs.Lists.{every}
use Rattle.tableau.specs.declared.Counts.{Counts}
use Rattle.tableau.specs.Tableau.{btilde_at, if_present, in_range, how_many, allowed_at, valid}
use Rattle.tableau.specs.File.{place, header, number, counts_of, coefficients_of, matches, accepts}
use Rattle.tableau.proofs.Laws.{length_coefficients}

pub stages_in : (k : Counts) → in_range k ≡ true → k.stages ≤ 8
unfolding in_range
stages_in k h = leb-true k.stages 8 (and_right (leb 1 k.stages) (leb k.stages 8) (and_left _ _ h))

pub last_is : (k : Counts) → get_or (header k) 11 0 ≡ place (how_many k)
unfolding header
last_is k = refl

-- counts with btilde
abbrev with_btilde : ℕ → ℕ → ℕ → Counts
with_btilde stages kind estimator = record { stages = stages; kind = kind; estimator = estimator; btilde = 1 }

module _ (file : List ℕ) where
  abbrev K : Counts
  K = counts_of file

  abbrev Many : Bool
  Many = eqb (length (coefficients_of file)) (how_many K)

  abbrev Allowed : Bool
  Allowed = every (length (coefficients_of file)) (allowed_at (coefficients_of file))

  abbrev Long : Bool
  Long = eqb (length file) (place (how_many K))

  abbrev Headed : Bool
  Headed = every 12 (matches file (header K))

  accepts_is : accepts file ≡ ((in_range K && (Many && Allowed)) && (Long && Headed))
  unfolding accepts valid
  accepts_is = refl

  refused : ((in_range K && (Many && Allowed)) && (Long && Headed)) ≡ false → false ≡ accepts file
  refused e = sym (accepts_is ∙ e)

  pub out_of_range : in_range K ≡ false → false ≡ accepts file
  out_of_range e = refused (and_no _ (and_no _ e))

  pub other_length : (length file ≡ place (how_many K) → ⊥) → false ≡ accepts file
  other_length h = refused (and_no_right (in_range K && (Many && Allowed)) (and_no Headed (ne_eqb (length file) (place (how_many K)) h)))

  pub other_numbers : Headed ≡ false → false ≡ accepts file
  other_numbers e = refused (and_no_right (in_range K && (Many && Allowed)) (and_no_right Long e))

  -- the other tests passed
  pub taken : in_range K ≡ true → length file ≡ place (how_many K) → Headed ≡ true → Allowed ≡ accepts file
  taken p l q =
      let m : Many ≡ true = eq-eqb (length (coefficients_of file)) (how_many K) (omega (arith, length_coefficients file)) in
      let o : Long ≡ true = eq-eqb (length file) (place (how_many K)) l in
      of Allowed refl m o
    where
      of : (a : Bool) → Allowed ≡ a → Many ≡ true → Long ≡ true → a ≡ accepts file
      of true e m o = sym (accepts_is ∙ both (both p (both m e)) (both o q))
      of false e m o = refused (and_no _ (and_no_right (in_range K) (and_no_right Many e)))

-- a file that says how many stages it has, and that it has btilde
module _ (file : List ℕ) (stages : ℕ) {r : Bool} (R : r ≡ (eqb (number file 0) stages && eqb (number file 3) 1)) (h : r ≡ true) where
  pub said_stages : number file 0 ≡ stages
  said_stages = eqb-true (number file 0) stages (and_left (eqb (number file 0) stages) _ (sym R ∙ h))

  pub said_btilde : number file 3 ≡ 1
  said_btilde = eqb-true (number file 3) 1 (and_right (eqb (number file 0) stages) _ (sym R ∙ h))

-- a file with btilde, by the numbers of its stages and of its coefficients
module _ (file : List ℕ) (stages kind estimator : ℕ) where
  pub counts_by_number : number file 0 ≡ stages → number file 3 ≡ 1 → kind ≡ number file 1 → estimator ≡ number file 2 → with_btilde stages kind estimator ≡ counts_of file
  unfolding counts_of
  counts_by_number s b k e = rw (s, b, k, e)

  -- it is as long as they ask for
  pub length_by_number : {coefficients : ℕ} → with_btilde stages kind estimator ≡ counts_of file → length file ≡ 48 + 8 * coefficients → coefficients ≡ btilde_at stages + stages → length file ≡ place (how_many (counts_of file))
  unfolding how_many if_present
  length_by_number e l m = l ∙ ap place m ∙ ap (λ (k : Counts). place (how_many k)) e
