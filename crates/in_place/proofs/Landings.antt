-- accept and reject answer a refusal, or are done. Assumes nothing.
use Prim.Native.Nat.{ℕ}
use mathlib.Core.Path.{◌≡◌, refl, sym, ap, ◌∙◌}
use mathlib.Core.List.{List}
use lib.Ieee.{Float}
use Rattle.std.specs.Prelude.{Result, Ok, Err, ⊤}
use Rattle.stepping.specs.declared.Refusal.{Refusal}
use Rattle.stepping.specs.Refusals.{Test, first_of, unless_refused}
use Rattle.refusals.specs.declared.Fixed.{Fixed}
use Rattle.refusals.specs.declared.Progress.{Progress}
use Rattle.rosenbrock.specs.declared.Answer.{Answer}
use Rattle.rosenbrock.specs.declared.Answer.TheVariants.{Asked, Shown, Done}
use Rattle.rosenbrock.specs.declared.Outcome.{Outcome}
use Rattle.refusals.specs.Answers as Answers
use Rattle.refusals.specs.Answers.{Lent, lending, refused, done}
use Rattle.refusals.specs.Tests.{decision_tests}
use Rattle.rosenbrock.specs.Calls.{Out, refusal, guarded, accepted, accept_of, rejected, reject_of}
use Rattle.rosenbrock.specs.Stepper.{by_value, in_place, accept, reject, called, System, needed, trimmed, Next, result, stepped}
use Rattle.rosenbrock.specs.Outcomes.{system_of, answer_by, next_of}
use Rattle.in_place.specs.Landing.{landed}

abbrev told : Result ⊤ Refusal → Answers.Answer
told k = unless_refused refused k done

guarded_tells : (tests : List Test) (x : Progress) (m : Lent) (o : Out) → o.answer ≡ done → (guarded tests x m o).answer ≡ told (first_of tests)
unfolding guarded unless_refused refusal
guarded_tells tests x m o e = go (first_of tests)
  where
    go : (k : Result ⊤ Refusal) → (unless_refused (refusal x m) k o).answer ≡ told k
    go (Ok z) = e
    go (Err r) = refl

-- what is not refused is done
done_told : (a : Answer) (fx : Fixed) (x : Progress) (m : Lent) (k : Result ⊤ Refusal) → answer_by (Ok a) fx x m ≡ told k → told k ≡ done
unfolding answer_by unless_refused
done_told a fx x m (Ok z) e = refl
done_told Asked fx x m (Err r) e = absurd cc
done_told Shown fx x m (Err r) e = absurd cc
done_told Done fx x m (Err r) e = absurd cc

abbrev memory : System → Lent
memory y = trimmed (needed y.stepper.fixed) y.lent

abbrev tests : System → List Test
tests y = decision_tests y.stepper.fixed y.stepper.progress (memory y)

module _ (o : Outcome) (state work : List Float) (pivots : List ℕ) where
  landed_refused : (n : Next) {r : Refusal} → o.answer ≡ Err r → next_of o state work pivots ≡ n → landed o.stepper (Err r) state work pivots ≡ n
  unfolding next_of answer_by landed unless_refused
  landed_refused n q e =
      (λ i. record {
        system = system_of o.stepper state work pivots;
        answer = answer_by (sym q i) o.stepper.fixed o.stepper.progress (trimmed (needed o.stepper.fixed) (lending state work pivots));
      })
      ∙ e

  landed_done : (n : Next) (k : Result ⊤ Refusal) {a : Answer} → n.answer ≡ told k → o.answer ≡ Ok a → next_of o state work pivots ≡ n → landed o.stepper (Ok tt) state work pivots ≡ n
  unfolding next_of landed unless_refused
  landed_done n k {a} t q e =
      let fx = o.stepper.fixed in
      let x = o.stepper.progress in
      let m = trimmed (needed fx) (lending state work pivots) in
      let d = done_told a fx x m k (ap (λ (b : Result Answer Refusal). answer_by b fx x m) (sym q) ∙ ap (λ (b : Next). b.answer) e ∙ t) in
      λ i. record { system = ap (λ (b : Next). b.system) e i; answer = sym (t ∙ d) i }

  module _ (y : System) where
    module _ (e : next_of o state work pivots ≡ stepped (accept by_value) y) where
      pub accept_refused : {r : Refusal} → o.answer ≡ Err r → landed o.stepper (Err r) state work pivots ≡ stepped (accept in_place) y
      unfolding stepped result called
      accept_refused q = landed_refused (stepped (accept by_value) y) q e

      pub accept_done : {a : Answer} → o.answer ≡ Ok a → landed o.stepper (Ok tt) state work pivots ≡ stepped (accept in_place) y
      unfolding stepped result called accept_of accepted
      accept_done q = landed_done (stepped (accept by_value) y) (first_of (tests y)) (guarded_tells (tests y) y.stepper.progress (memory y) (accepted y.stepper.fixed y.stepper.progress (memory y)) refl) q e

    module _ (e : next_of o state work pivots ≡ stepped (reject by_value) y) where
      pub reject_refused : {r : Refusal} → o.answer ≡ Err r → landed o.stepper (Err r) state work pivots ≡ stepped (reject in_place) y
      unfolding stepped result called
      reject_refused q = landed_refused (stepped (reject by_value) y) q e

      pub reject_done : {a : Answer} → o.answer ≡ Ok a → landed o.stepper (Ok tt) state work pivots ≡ stepped (reject in_place) y
      unfolding stepped result called reject_of rejected
      reject_done q = landed_done (stepped (reject by_value) y) (first_of (tests y)) (guarded_tells (tests y) y.stepper.progress (memory y) (rejected y.stepper.progress (memory y)) refl) q e
