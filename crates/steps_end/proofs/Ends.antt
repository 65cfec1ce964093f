-- A step of pond ends: eleven requests are enough. Assumes nothing.
use Prim.Native.Nat.{ℕ, ◌≤◌}
use mathlib.Core.Path.{◌≡◌, refl, sym, ap, subst, ◌∙◌}
use mathlib.Core.Bool.{Bool, true, false, not, cond}
use mathlib.Core.List.{List, [], ◌∷◌, ◌++◌}
use Rattle.std.specs.Prelude.{Option, Some, None, Ok}
use borrow.Author.Tests.{eqb-true}
use lib.Dec.{eqb}
use lib.Ieee.{Float, eq}
use Rattle.float.specs.Operators.{◌⊕◌, 𝟎, 𝟏}
use Rattle.stepping.specs.declared.Refusal.{Refusal}
use Rattle.stepping.specs.declared.Refusal.TheVariants.{TableauFile, UnsupportedTableau, Dimension}
use Rattle.stepping.specs.Refusals.{◌when◌, first_of}
use Rattle.stepping.proofs.Refusals.{passed, held}
use Rattle.tableau.specs.Tableau.{stages_of}
use Rattle.tableau.specs.File.{tableau_of, accepts}
use Rattle.refusals.specs.declared.Fixed.{Fixed}
use Rattle.refusals.specs.declared.Progress.{Progress}
use Rattle.rosenbrock.specs.declared.RosenbrockStepper.{RosenbrockStepper}
use Rattle.refusals.specs.Answers.{Lent, Answer, refused, asked, shown, told, done}
use Rattle.refusals.specs.Tests.{attempt_tests, step_tests, file_tests, open_test}
use Rattle.rosenbrock.specs.Calls.{Out, refusal, attempt_by, attempt_of, accepted, accept_of}
use Rattle.rosenbrock.specs.Stepper.{Call, attempt, accept, by_value, called, System, Next, needed, trimmed, result, stepped}
use Rattle.rosenbrock.proofs.Guards.{guarded_either}
use Rattle.refusals.proofs.Fitting.{Fits, fits_passed}
use Rattle.method.specs.Step.{Attempted, Caches, evaluated}
use Rattle.method.specs.Schedule.{schedule, ends_in}
use Rattle.method.specs.Conversation.{Conversation, Sized, attempted_by, caches_in, requests_of, last_answer, rest_view}
use Rattle.method.specs.Conversation as conversation
use Rattle.method.proofs.Attempt.{attempt_is_step}
use Rattle.decay.specs.Host.{decay, answered, if_shown, decided, one_step}
use Rattle.forecast.specs.Pond.{standing, after_step, advanced_by, advanced}
use Rattle.steps_end.specs.Claim.{is_end, StepEnds, NotOver}
use Rattle.steps_end.proofs.Counted.{requests_few}
use Rattle.steps_end.proofs.Talking.{settled, still, talk}

-- ---- the decision

accept_ends : (y : System) → is_end (stepped (accept by_value) y).answer ≡ true
unfolding stepped result called accept_of refusal accepted is_end
accept_ends y = guarded_either _ _ _ _ (λ (o : Out). is_end o.answer ≡ true) (λ k. refl) (λ h. refl)

decided_ends : (r : Next) (a : Answer) → r.answer ≡ a → settled a ≡ true → is_end (decided r).answer ≡ true
unfolding decided if_shown settled is_end
decided_ends r (shown v) e h = ap (λ (a : Answer). is_end (if_shown a (stepped (accept by_value) r.system) r).answer) e ∙ accept_ends r.system
decided_ends r (refused k) e h = ap (λ (a : Answer). is_end (if_shown a (stepped (accept by_value) r.system) r).answer) e ∙ ap is_end e
decided_ends r (asked q) e h = cc
decided_ends r (told t) e h = cc
decided_ends r done e h = cc

-- ---- the last answer of an attempt

last_settled : (p : Attempted) (end : Float) (c : Caches) → settled (conversation.answer_of p end c) ≡ true
unfolding conversation.answer_of last_answer settled
last_settled p end c = go (eq p.h 𝟎) (ends_in (schedule p c))
  where
    go : (b : Bool) (k : Option Refusal) → settled (cond b (shown (rest_view p end)) (last_answer p end k (evaluated p c))) ≡ true
    go true k = refl
    go false (Some refusal) = refl
    go false None = refl

-- ---- a step

sized_one : Sized 1 decay
unfolding decay
sized_one = record { of_f = λ t y. refl; of_J = λ t y. refl; of_fₜ = λ t y. refl }

module _ (file : List ℕ) (y : System) (one : y.stepper.fixed.n ≡ 1) where
  abbrev fx : Fixed
  fx = y.stepper.fixed

  abbrev x : Progress
  x = y.stepper.progress

  abbrev m : Lent
  m = trimmed (needed fx) y.lent

  abbrev opening : Call
  opening = attempt file 𝟏 true true

  abbrev r : Next
  r = stepped opening y

  abbrev Ending : Type 0
  Ending = is_end (decided (answered 11 file r)).answer ≡ true

  refused_ends : (k : Refusal) → r.answer ≡ refused k → Ending
  unfolding settled
  refused_ends k e = ap (λ (z : Next). is_end (decided z).answer) (still file 11 r (ap settled e)) ∙ decided_ends r (refused k) e refl

  module _ (h : first_of (attempt_tests fx file x m) ≡ Ok tt) (k : first_of (step_tests 𝟏 x) ≡ Ok tt) where
    both : Fits fx x m × (first_of (file_tests fx.s file ++ (open_test x ∷ [])) ≡ Ok tt)
    both = fits_passed fx x m _ h

    few : stages_of (tableau_of file) ≤ 8
    few =
        let rest = open_test x ∷ [] in
        let fits = Dimension when not (eqb (stages_of (tableau_of file)) fx.s) in
        let supported = UnsupportedTableau when eqb (tableau_of file).counts.kind 1 in
        let t₁ = held TableauFile (accepts file) (supported ∷ fits ∷ rest) both.1 in
        let t₂ = passed UnsupportedTableau (eqb (tableau_of file).counts.kind 1) (fits ∷ rest) t₁.1 in
        let e = eqb-true (stages_of (tableau_of file)) fx.s (held Dimension (eqb (stages_of (tableau_of file)) fx.s) rest t₂.1).0 in
        subst (λ (s : ℕ). s ≤ 8) (sym e) both.0.shape.s_to_8

    goes_through : Ending
    unfolding attempted_by
    goes_through =
        let p = attempted_by fx file decay 𝟏 true true x m in
        let c = caches_in fx x m in
        let end = x.time ⊕ 𝟏 in
        let last = last_settled p end c in
        decided_ends (answered 11 file r) (conversation.answer_of p end c)
        (talk file 11 (requests_of p end c) opening y (conversation.answer_of p end c) last
        (attempt_is_step file decay 𝟏 true true y h k (subst (λ (n : ℕ). Sized n decay) (sym one) sized_one))
        (requests_few p c refl refl few end))
        last

  attempt_ends : Ending
  unfolding stepped result called attempt_of attempt_by refusal
  attempt_ends =
      guarded_either _ x m _ (λ (o : Out). r.answer ≡ o.answer → Ending) refused_ends
      (λ h. guarded_either _ x m _ (λ (o : Out). r.answer ≡ o.answer → Ending) refused_ends (λ k _. goes_through h k))
      refl

pub step_ends : StepEnds
unfolding one_step
step_ends = attempt_ends

-- ---- so a forecast is over only after a refusal

standing_on : (a : Answer) (z : RosenbrockStepper) → is_end a ≡ true → standing a z ≡ None → ⊥
unfolding standing is_end
standing_on done z h e = cc
standing_on (refused refusal) z h e = cc
standing_on (asked q) z h e = cc
standing_on (shown v) z h e = cc
standing_on (told t) z h e = cc

pub not_over : NotOver
unfolding advanced advanced_by after_step
not_over file y m one e = let r = one_step file (record { stepper = y; lent = m }) in standing_on r.answer r.system.stepper (step_ends file (record { stepper = y; lent = m }) one) e
