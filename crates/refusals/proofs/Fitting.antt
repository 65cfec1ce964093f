-- The first tests of every call: what they tell of n, s, the lengths that are lent and the request. Assumes nothing.
use Prim.Native.Nat.{ℕ, ◌≤◌}
use native.Mathlib.Omega.{arith}
use mathlib.Core.Path.{◌≡◌}
use mathlib.Core.Bool.{true}
use mathlib.Core.List.{List, [], ◌++◌}
use lib.ListN.{length}
use lib.Dec.{eqb, leb}
use borrow.Author.Tests.{leb-true, eqb-true, le-leb, eq-eqb}
use Rattle.float.proofs.Cases.{both, and_left, and_right}
use Rattle.vector.proofs.Parts.{length_part}
use Rattle.std.specs.Prelude.{Ok}
use Rattle.stepping.specs.declared.Refusal.TheVariants.{Dimension}
use Rattle.stepping.specs.Refusals.{Test, first_of}
use Rattle.stepping.proofs.Refusals.{none, held, holds_later}
use Rattle.stages.specs.Layout.{needed_work}
use Rattle.refusals.specs.declared.Fixed.{Fixed}
use Rattle.refusals.specs.declared.Progress.{Progress}
use Rattle.refusals.specs.Requests.{request_fits}
use Rattle.refusals.specs.Answers.{Lent, candidate_of}
use Rattle.refusals.specs.Tests.{shape_fits, fit_tests}

pub record Shape (n s state work pivots : ℕ) : Type 0 where
  pub n_from_1 : 1 ≤ n
  pub n_to_32 : n ≤ 32
  pub s_from_1 : 1 ≤ s
  pub s_to_8 : s ≤ 8
  pub of_state : state ≡ n
  pub of_work : work ≡ needed_work n s
  pub of_pivots : pivots ≡ n

module _ (n s state work pivots : ℕ) where
  pub shape_of : shape_fits n s state work pivots ≡ true → Shape n s state work pivots
  unfolding shape_fits
  shape_of h =
      let t₁ = and_right (leb 1 n) _ h in
      let t₂ = and_right (leb n 32) _ t₁ in
      let t₃ = and_right (leb 1 s) _ t₂ in
      let t₄ = and_right (leb s 8) _ t₃ in
      let t₅ = and_right (eqb state n) _ t₄ in
      record {
        n_from_1 = leb-true 1 n (and_left (leb 1 n) _ h);
        n_to_32 = leb-true n 32 (and_left (leb n 32) _ t₁);
        s_from_1 = leb-true 1 s (and_left (leb 1 s) _ t₂);
        s_to_8 = leb-true s 8 (and_left (leb s 8) _ t₃);
        of_state = eqb-true state n (and_left (eqb state n) _ t₄);
        of_work = eqb-true work (needed_work n s) (and_left (eqb work (needed_work n s)) _ t₅);
        of_pivots = eqb-true pivots n (and_right (eqb work (needed_work n s)) _ t₅);
      }

  pub shape_fits_lem : Shape n s state work pivots → shape_fits n s state work pivots ≡ true
  unfolding shape_fits
  shape_fits_lem h =
      both (le-leb 1 n h.n_from_1)
      (both (le-leb n 32 h.n_to_32)
      (both (le-leb 1 s h.s_from_1)
      (both (le-leb s 8 h.s_to_8)
      (both (eq-eqb state n h.of_state) (both (eq-eqb work (needed_work n s) h.of_work) (eq-eqb pivots n h.of_pivots))))))

-- of what is lent to a record
abbrev pub LentShape : Fixed → Lent → Type 0
LentShape fx m = Shape fx.n fx.s (length m.state) (length m.work) (length m.pivots)

pub candidate_length : (fx : Fixed) (m : Lent) → LentShape fx m → length (candidate_of fx m) ≡ fx.n
unfolding candidate_of needed_work
candidate_length fx m h = let e = h.of_work in length_part 0 fx.n m.work (omega arith)

-- the record and what is lent with it fit each other
pub record Fits (fx : Fixed) (x : Progress) (m : Lent) : Type 0 where
  pub shape : LentShape fx m
  pub request : request_fits fx.n fx.s x.request x.stage ≡ true

module _ (fx : Fixed) (x : Progress) (m : Lent) where
  -- the other tests follow
  pub fits_passed : (rest : List Test) → first_of (fit_tests fx x m ++ rest) ≡ Ok tt → Fits fx x m × (first_of rest ≡ Ok tt)
  fits_passed rest e =
      let t₁ = held Dimension _ _ e in
      let t₂ = held Dimension _ _ t₁.1 in
      (record { shape = shape_of _ _ _ _ _ t₁.0; request = t₂.0 }, t₂.1)

  pub fits_tests : Fits fx x m → first_of (fit_tests fx x m) ≡ Ok tt
  fits_tests h = holds_later Dimension _ (shape_fits_lem _ _ _ _ _ h.shape) (holds_later Dimension [] h.request none)
