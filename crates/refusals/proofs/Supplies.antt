-- The tests of a supply, after the first ones and those of the file. Assumes nothing.
use Prim.Native.Nat.{ℕ, ◌≤◌}
use mathlib.Core.Path.{◌≡◌, refl, sym, ap, ◌∙◌}
use mathlib.Core.Bool.{Bool, true, false, not}
use mathlib.Core.List.{List, [], ◌++◌}
use lib.Dec.{ltb}
use lib.ListN.{length, get_or}
use borrow.Author.Tests.{eq-eqb, ne_eqb}
use Rattle.std.specs.Prelude.{Result, Ok, Err, ⊤}
use Rattle.vector.specs.Lists.{every}
use Rattle.stepping.specs.declared.Refusal.{Refusal}
use Rattle.stepping.specs.declared.Refusal.TheVariants.{Dimension, PivotRange, NoRequest}
use Rattle.stepping.specs.Refusals.{Test, first_of, unless_refused}
use Rattle.stepping.proofs.Refusals.{here, later, holds_later, all_passed, is_refused, is_answered}
use Rattle.stepping.proofs.Refusals as laws
use Rattle.attempts.specs.declared.Ask.{Ask}
use Rattle.attempts.specs.declared.Ask.TheVariants.{Derivative, Jacobian, TimePartial, FirstProbe, SecondProbe, Column, Stage}
use Rattle.attempts.specs.Attempt.{wanted}
use Rattle.refusals.specs.declared.Fixed.{Fixed}
use Rattle.refusals.specs.declared.Progress.{Progress}
use Rattle.refusals.specs.Requests.{ask_of}
use Rattle.refusals.specs.Tests.{file_tests, pivots_unfit, answer_tests, supply_rest, lent_tests}
use Rattle.refusals.proofs.Tested.{fitted}
use Rattle.refusals.proofs.Phases.{IsOpen}

-- before a stage the pivots do not count
pub unread : (n : ℕ) (pivots : List ℕ) (a : Ask) → ((i : ℕ) → a ≡ Stage i → ⊥) → pivots_unfit n pivots a ≡ false
unfolding pivots_unfit
unread n pivots Derivative h = refl
unread n pivots Jacobian h = refl
unread n pivots TimePartial h = refl
unread n pivots FirstProbe h = refl
unread n pivots SecondProbe h = refl
unread n pivots (Column k) h = refl
unread n pivots (Stage i) h = absurd (h i refl)

pub read : (n : ℕ) (pivots : List ℕ) {a : Ask} (i : ℕ) {b : Bool} → a ≡ Stage i → length pivots ≡ n → b ≡ every (length pivots) (λ k. ltb (get_or pivots k 0) n) → pivots_unfit n pivots a ≡ not b
unfolding pivots_unfit
read n pivots i e l h =
    ap (pivots_unfit n pivots) e ∙ ap (λ (j : ℕ). not (every j (λ k. ltb (get_or pivots k 0) n))) (sym l) ∙ ap not (sym h)

module _ (fx : Fixed) (x : Progress) (state work : ℕ) (pivots file : List ℕ) (values : ℕ)
    (fit : first_of (lent_tests fx x state work (length pivots)) ≡ Ok tt) where
  pub small : fx.n ≤ 32
  small = (fitted fx x state work (length pivots) [] fit).n_to_32

  pub rows : length pivots ≡ fx.n
  rows = (fitted fx x state work (length pivots) [] fit).of_pivots

  module _ (f : first_of (file_tests fx.s file) ≡ Ok tt) {a : Ask} (o : IsOpen x.request x.stage a) where
    abbrev tests : List Test
    tests = lent_tests fx x state work (length pivots) ++ supply_rest fx file values pivots x

    abbrev answer : Result Ask Refusal
    answer = unless_refused Err (first_of tests) (Ok (ask_of x.request x.stage))

    tested : {r : Result ⊤ Refusal} → first_of (answer_tests fx x values pivots) ≡ r → first_of tests ≡ r
    tested h =
        all_passed (lent_tests fx x state work (length pivots)) _ fit
        ∙ all_passed (file_tests fx.s file) _ f ∙ holds_later NoRequest _ o.of_open h

    asks_at : {v : ℕ} → v ≡ wanted fx.n a → v ≡ wanted fx.n (ask_of x.request x.stage)
    asks_at e = e ∙ ap (wanted fx.n) (sym o.asks)

    pub other_length : {v : ℕ} → v ≡ wanted fx.n a → (values ≡ v → ⊥) → Err Dimension ≡ answer
    other_length e h = is_refused Err _ (tested (here Dimension _ (ap not (ne_eqb values _ (λ z. h (z ∙ sym (asks_at e)))))))

    module _ {v : ℕ} (e : v ≡ wanted fx.n a) (q : values ≡ v) where
      unfit_at : {b : Bool} → pivots_unfit fx.n pivots a ≡ b → pivots_unfit fx.n pivots (ask_of x.request x.stage) ≡ b
      unfit_at h = ap (pivots_unfit fx.n pivots) o.asks ∙ h

      pub pivots_off : pivots_unfit fx.n pivots a ≡ true → Err PivotRange ≡ answer
      pivots_off h = is_refused Err _ (tested (holds_later Dimension _ (eq-eqb values _ (q ∙ asks_at e)) (here PivotRange [] (unfit_at h))))

      pub asked : pivots_unfit fx.n pivots a ≡ false → Ok a ≡ answer
      asked h =
          is_answered Err (tested (holds_later Dimension _ (eq-eqb values _ (q ∙ asks_at e)) (later PivotRange [] (unfit_at h) laws.none)))
          (ap (λ (b : Ask). Ok b) (sym o.asks))
