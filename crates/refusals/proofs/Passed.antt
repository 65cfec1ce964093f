-- What a call's tests tell where it passes all of them. Assumes nothing.
use Prim.Native.Nat.{ℕ}
use mathlib.Core.Path.{◌≡◌}
use mathlib.Core.Bool.{true, false}
use mathlib.Core.List.{List, [], ◌∷◌, ◌++◌}
use lib.ListN.{length}
use lib.Dec.{eqb}
use lib.Ieee.{Float}
use borrow.Author.Tests.{eqb-true}
use Rattle.vector.specs.Lists.{all_finite}
use Rattle.std.specs.Prelude.{Ok}
use Rattle.stepping.specs.declared.Refusal.TheVariants.{Dimension, NonFinite, UnsupportedTableau, TableauFile, PivotRange, PendingCandidate, NoCandidate, NoRequest, AttemptOpen}
use Rattle.stepping.specs.Refusals.{Test, first_of}
use Rattle.stepping.proofs.Refusals.{passed, held}
use Rattle.tableau.specs.Tableau.{stages_of}
use Rattle.tableau.specs.File.{tableau_of, accepts}
use Rattle.attempts.specs.Attempt.{wanted}
use Rattle.refusals.specs.declared.Fixed.{Fixed}
use Rattle.refusals.specs.declared.Progress.{Progress}
use Rattle.refusals.specs.Requests.{is_pending, is_open, ask_of}
use Rattle.refusals.specs.Answers.{Lent}
use Rattle.refusals.specs.Tests.{shape_fits, pivots_unfit, file_tests, making_tests, supply_tests, decision_tests, inject_tests, reset_tests}
use Rattle.refusals.proofs.Fitting.{Shape, LentShape, shape_of, fits_passed}

-- ---- the making

pub record MakingPassed (file : List ℕ) (m : Lent) : Type 0 where
  pub file_accepted : accepts file ≡ true
  pub not_hybrid : eqb (tableau_of file).counts.kind 1 ≡ false
  pub shape : Shape (length m.state) (stages_of (tableau_of file)) (length m.state) (length m.work) (length m.pivots)

pub making_passed : (file : List ℕ) (time : Float) (m : Lent) → first_of (making_tests file time m) ≡ Ok tt → MakingPassed file m
making_passed file time m e =
    let n = length m.state in
    let t₁ = held TableauFile (accepts file) _ e in
    let t₂ = held Dimension (shape_fits n (stages_of (tableau_of file)) n (length m.work) (length m.pivots)) _ t₁.1 in
    let t₃ = held NonFinite (all_finite m.state) _ t₂.1 in
    let t₄ = held NonFinite (all_finite (time ∷ [])) _ t₃.1 in
    let t₅ = passed UnsupportedTableau (eqb (tableau_of file).counts.kind 1) [] t₄.1 in
    record { file_accepted = t₁.0; not_hybrid = t₅.0; shape = shape_of _ _ _ _ _ t₂.0 }

-- ---- the calls

module _ (fx : Fixed) (x : Progress) (m : Lent) where
  file_passed : (file : List ℕ) (rest : List Test) → first_of (file_tests fx.s file ++ rest) ≡ Ok tt → first_of rest ≡ Ok tt
  file_passed file rest e =
      let t₁ = held TableauFile (accepts file) _ e in
      let t₂ = passed UnsupportedTableau (eqb (tableau_of file).counts.kind 1) _ t₁.1 in
      (held Dimension (eqb (stages_of (tableau_of file)) fx.s) rest t₂.1).1

  -- supply: an attempt is open, the length is the wanted one, and the pivots are rows where a stage would be solved
  pub supply_passed : (file : List ℕ) (values : List Float) → first_of (supply_tests fx file values x m) ≡ Ok tt → is_open x.request ≡ true
  supply_passed file values e = (held NoRequest (is_open x.request) _ (file_passed file _ (fits_passed fx x m _ e).1)).0

  pub supply_values : (file : List ℕ) (values : List Float) → first_of (supply_tests fx file values x m) ≡ Ok tt
      → let a = ask_of x.request x.stage in (length values ≡ wanted fx.n a) × (pivots_unfit fx.n m.pivots a ≡ false)
  supply_values file values e =
      let a = ask_of x.request x.stage in
      let t₁ = held NoRequest (is_open x.request) _ (file_passed file _ (fits_passed fx x m _ e).1) in
      let t₂ = held Dimension (eqb (length values) (wanted fx.n a)) _ t₁.1 in
      (eqb-true (length values) (wanted fx.n a) t₂.0, (passed PivotRange (pivots_unfit fx.n m.pivots a) [] t₂.1).0)

  -- accept and reject: a candidate is pending
  pub decision_passed : first_of (decision_tests fx x m) ≡ Ok tt → is_pending x.request ≡ true
  decision_passed e = (held NoCandidate (is_pending x.request) [] (passed AttemptOpen (is_open x.request) _ (fits_passed fx x m _ e).1).1).0

  -- inject_derivative: neither
  pub inject_passed : (derivative : List Float) → first_of (inject_tests fx derivative x m) ≡ Ok tt → (is_open x.request ≡ false) × (is_pending x.request ≡ false)
  inject_passed derivative e =
      let t₁ = passed AttemptOpen (is_open x.request) _ (fits_passed fx x m _ e).1 in
      let t₂ = passed PendingCandidate (is_pending x.request) _ t₁.1 in
      (t₁.0, t₂.0)

  pub inject_size : (derivative : List Float) → first_of (inject_tests fx derivative x m) ≡ Ok tt → length derivative ≡ fx.n
  inject_size derivative e =
      let t₁ = passed AttemptOpen (is_open x.request) _ (fits_passed fx x m _ e).1 in
      let t₂ = passed PendingCandidate (is_pending x.request) _ t₁.1 in
      eqb-true (length derivative) fx.n (held Dimension (eqb (length derivative) fx.n) _ t₂.1).0

pub record ResetPassed (fx : Fixed) (m : Lent) (time : Float) (state : List Float) : Type 0 where
  pub shape : LentShape fx m
  pub size : length state ≡ fx.n
  pub finite : all_finite state ≡ true
  pub finite_time : all_finite (time ∷ []) ≡ true

pub reset_passed : (fx : Fixed) (time : Float) (state : List Float) (x : Progress) (m : Lent) → first_of (reset_tests fx time state x m) ≡ Ok tt
    → ResetPassed fx m time state
reset_passed fx time state x m e =
    let t = fits_passed fx x m _ e in
    let t₁ = passed AttemptOpen (is_open x.request) _ t.1 in
    let t₂ = held Dimension (eqb (length state) fx.n) _ t₁.1 in
    let t₃ = held NonFinite (all_finite state) _ t₂.1 in
    let t₄ = held NonFinite (all_finite (time ∷ [])) [] t₃.1 in
    record { shape = t.0.shape; size = eqb-true (length state) fx.n t₂.0; finite = t₃.0; finite_time = t₄.0 }
