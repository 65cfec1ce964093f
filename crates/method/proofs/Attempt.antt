-- An attempt is a step of the method: the proof of the claim at the end of Conversation. Assumes nothing.
use Prim.Native.Nat.{ℕ, ◌*◌}
use native.Mathlib.Omega.{arith}
use mathlib.Core.Path.{◌≡◌, refl, sym, ap, ◌∙◌, subst}
use mathlib.Core.Bool.{Bool, true, false, cond, ◌&&◌, true≢false}
use mathlib.Core.List.{List, [], ◌∷◌, ◌++◌}
use mathlib.Core.Option.{none, some}
use lib.Dec.{eqb}
use lib.ListN.{length}
use lib.Ieee.{Float, eq}
use Rattle.float.specs.Operators.{◌⊕◌, ◌⊖◌, 𝟎}
use Rattle.float.proofs.Cases.{by}
use Rattle.vector.specs.Parts.{part}
use Rattle.vector.proofs.Lists.{table-replicate}
use Rattle.std.specs.Prelude.{Option, Some, None, Ok, unwrap_or}
use Rattle.stepping.specs.Refusals.{Test, ◌when◌, first_of}
use Rattle.stepping.proofs.Refusals.{is_answered}
use Rattle.tableau.specs.Tableau.{present}
use Rattle.tableau.specs.File.{tableau_of}
use Rattle.stages.specs.Layout.{current_at, time_partial_at, jacobian_at, stages_at, rhs_stages_at, needed_work}
use Rattle.attempts.specs.Marks.{noting, with_error_shown, one_attempt}
use Rattle.attempts.specs.declared.Ask.TheVariants.{Derivative, Jacobian, TimePartial, FirstProbe, SecondProbe, Column, Stage}
use Rattle.attempts.specs.Attempt.{on_work, on_marks, halt, choose, show, begun, start, wanted}
use Rattle.attempts.specs.Attempt as attempts
use Rattle.refusals.specs.declared.Fixed.{Fixed}
use Rattle.refusals.specs.declared.Progress.{Progress}
use Rattle.refusals.specs.Requests.{request_after, stage_after}
use Rattle.refusals.specs.Answers.{Lent, Request, derivative, kind_of, asked, shown, candidate_of, error_shown, shown_part, stages_shown, rhs_stages_shown, jacobian_shown, time_partial_shown, view_of}
use Rattle.refusals.specs.Answers as answers
use Rattle.refusals.specs.Tests.{file_tests, attempt_tests, step_tests, decision_tests}
use Rattle.rosenbrock.specs.Calls.{Out, refusal, guarded, given_by, scratch_by, progress_after, settle, opened, attempt_by, attempt_of, supply_of, rejected, reject_of}
use Rattle.phases.specs.Phases.{opening}
use Rattle.rosenbrock.specs.Stepper.{attempt, supply, called, System, Next, needed, trimmed, stepped}
use Rattle.refusals.proofs.Fitting.{LentShape, fits_passed}
use Rattle.std.specs.Bool.{then_some}
use Rattle.method.specs.Step as method
use Rattle.method.specs.Step.{Problem, Answers, Attempted, Evaluated, Differentiation, Caches, evaluated, derivative_at, differentiation_at, partial_at}
use Rattle.method.specs.Schedule.{Item, evaluate, test, unless_cached, derivative_items, jacobian_items, partial_items, schedule, asks_for, ends_in}
use Rattle.method.specs.Conversation.{answer_to, Conversation, last_answer, shown_error, step_view, rest_view, requests_of, answer_of, Sized, caches_in, attempted_with, attempted_by, AttemptIsStep}
use Rattle.method.proofs.Conforms.{step_of, Long, Ready, Talks, Open, not_chosen}
use Rattle.method.proofs.Partial.{matrix_on}
use Rattle.method.proofs.Standing.{Stands, after_stands}
use Rattle.method.proofs.Start.{evaluates, begun_candidate, begun_error, begun_left, begun_sums}

-- ---- what the tests of an attempt establish

pub front_passed : (xs ys : List Test) → first_of (xs ++ ys) ≡ Ok tt → first_of xs ≡ Ok tt
unfolding first_of
front_passed [] ys h = refl
front_passed ((refusal when true) ∷ xs) ys h = cc
front_passed ((refusal when false) ∷ xs) ys h = front_passed xs ys h

module _ (fx : Fixed) (file : List ℕ) (x : Progress) (m : Lent) (h : first_of (attempt_tests fx file x m) ≡ Ok tt) where
  shape : LentShape fx m
  shape = (fits_passed fx x m _ h).0.shape

  ready : (answer : Answers) → Long fx.n answer → Ready fx file answer m
  ready answer long =
      record { shape = shape; file_passed = front_passed (file_tests fx.s file) _ (fits_passed fx x m _ h).1; long = long }

-- ---- what is cached

kept_or_new : {A : Type 0} (b : Bool) (u v : A) → b ≡ true → u ≡ unwrap_or (then_some b u) v
kept_or_new true u v h = refl
kept_or_new false u v h = absurd (true≢false (sym h))

made_anew : {A : Type 0} (b : Bool) (u v : A) → b ≡ false → v ≡ unwrap_or (then_some b u) v
made_anew true u v h = absurd (true≢false h)
made_anew false u v h = refl

-- ---- an attempt that has opened with the record x
module _ (fx : Fixed) (file : List ℕ) (answer : Answers) (x : Progress) (m : Lent) (long : length m.work ≡ needed_work fx.n fx.s) where
  abbrev p : Attempted
  p = step_of fx file answer x m

  abbrev c : Caches
  c = caches_in fx x m

  -- at the step 0 nothing is asked, and what is shown leaves the state
  module _ (state : length m.state ≡ fx.n) (still : eq x.step 𝟎 ≡ true) where
    empty : (at k : ℕ) → cond (eq x.step 𝟎) [] (part at k (begun (given_by fx file x m) m.work)) ≡ []
    empty at k = ap (λ (b : Bool). cond b [] (part at k (begun (given_by fx file x m) m.work))) still

    shows_rest : (settle fx x m (show (given_by fx file x m) (on_work (begun (given_by fx file x m)) (scratch_by one_attempt x m)))).answer ≡ shown (rest_view p x.end)
    unfolding show halt on_marks on_work noting with_error_shown settle progress_after request_after stage_after answers.answer_of view_of
        candidate_of error_shown shown_part stages_shown rhs_stages_shown jacobian_shown time_partial_shown rest_view shown_error given_by scratch_by
    shows_rest =
        let counts = (tableau_of file).counts in
        let v = begun_candidate fx file x m state long in
        let r = ap (λ (l : List Float). cond (eqb counts.estimator 0 && present counts) (some l) none)
        (begun_error fx file x m state long ∙ table-replicate 𝟎 fx.n) in
        cc (v, r, empty (stages_at fx.n) (fx.s * fx.n), empty (rhs_stages_at fx.n fx.s) (fx.s * fx.n), empty (jacobian_at fx.n) (fx.n * fx.n), empty (time_partial_at fx.n) fx.n)

    rests : (opened fx file x m).answer ≡ shown (rest_view p x.end)
    unfolding opened start choose given_by
    rests =
        let g = given_by fx file x m in
        let sc = on_work (begun g) (scratch_by one_attempt x m) in
        ap (λ (b : Bool). (settle fx x m (choose b (show g sc) (attempts.evaluate g sc))).answer) still ∙ shows_rest

  -- at any other it goes through the step's schedule
  goes_through : Ready fx file answer m → length m.pivots ≡ fx.n → eq x.step 𝟎 ≡ false
      → Talks fx file answer (shown (step_view p x.end (evaluated p c))) (schedule p c) (opened fx file x m)
  unfolding opened start on_work schedule caches_in evaluated derivative_at differentiation_at given_by scratch_by needed_work
  goes_through ready rows moves =
      let n = fx.n in
      let b = x.memo.derivative_valid in
      let k = x.memo.differentiation_valid in
      let state = ready.shape.of_state in
      let f₀ = derivative_at p c in
      let old : Differentiation = record { J = part (jacobian_at n) (n * n) m.work; fₜ = part (time_partial_at n) n m.work } in
      let new : Differentiation = record { J = method.jacobian_at p f₀; fₜ = partial_at p f₀ } in
      let o : Open = record { fx = fx; file = file; answer = answer; x = x; m = m; e = evaluated p c; ready = ready; moves = moves } in
      (not_chosen {o = o} _ moves
      (evaluates o b k _ old _ refl refl (begun_sums fx file x m state long answer (evaluated p c))
      (λ t. begun_left fx file x m state long (current_at n) n (omega arith) (omega arith) ∙ kept_or_new b _ _ t)
      (λ t. made_anew b _ _ t)
      (record {
        if_cached =
            λ t. (
              begun_left fx file x m state long (jacobian_at n) (n * n) (omega arith) (omega arith) ∙ ap (λ (d : Differentiation). d.J) (kept_or_new k old new t),
              begun_left fx file x m state long (time_partial_at n) n (omega arith) (omega arith) ∙ ap (λ (d : Differentiation). d.fₜ) (kept_or_new k old new t),
            );
        if_not = λ t. (ap (λ (d : Differentiation). d.J) (made_anew k old new t), ap (λ (d : Differentiation). d.fₜ) (made_anew k old new t));
      })
      rows)).talks

-- ---- the claim, for any answers
module _ (fx : Fixed) (file : List ℕ) (answer : Answers) (step : Float) (host-J host-fₜ : Bool) (x : Progress) (m : Lent) where
  abbrev about : Attempted
  about = attempted_with fx file answer step host-J host-fₜ x m

  abbrev cached : Caches
  cached = caches_in fx x m

  abbrev left : Out
  left = attempt_of fx file step host-J host-fₜ x m

  -- the record with which it opens
  abbrev y : Progress
  y = opening step host-J host-fₜ x

  module _ (passes : first_of (attempt_tests fx file x m) ≡ Ok tt) (steps : first_of (step_tests step x) ≡ Ok tt) where
    opens : opened fx file y m ≡ left
    unfolding attempt_of attempt_by guarded
    opens = is_answered (refusal x m) passes (is_answered (refusal x m) steps refl)

    pub stays : eq about.h 𝟎 ≡ true → left.answer ≡ shown (rest_view about (x.time ⊕ step))
    unfolding opening
    stays still =
        let s = shape fx file x m passes in
        subst (λ (o : Out). o.answer ≡ shown (rest_view about (x.time ⊕ step))) opens (rests fx file answer y m s.of_work s.of_state still)

    pub moves : Long fx.n answer → eq about.h 𝟎 ≡ false → Talks fx file answer (shown (step_view about (x.time ⊕ step) (evaluated about cached))) (schedule about cached) left
    unfolding opening caches_in
    moves long moving =
        let s = shape fx file x m passes in
        subst (Talks fx file answer (shown (step_view about (x.time ⊕ step) (evaluated about cached))) (schedule about cached)) opens
        (goes_through fx file answer y m s.of_work (ready fx file x m passes answer long) s.of_pivots moving)

-- ---- the claim, for the answers of f, J and fₜ

module _ (problem : Problem) where
  abbrev own : Answers
  own a = answer_to problem (kind_of a)

  own_long : (n : ℕ) → Sized n problem → Long n own
  unfolding answer_to kind_of wanted
  own_long n s Derivative t z = s.of_f t z
  own_long n s Jacobian t z = s.of_J t z
  own_long n s TimePartial t z = s.of_fₜ t z
  own_long n s FirstProbe t z = s.of_f t z
  own_long n s SecondProbe t z = s.of_f t z
  own_long n s (Column k) t z = s.of_f t z
  own_long n s (Stage i) t z = s.of_f t z

  converses : (fx : Fixed) (file : List ℕ) (p : Attempted) (end : Float) (e : Evaluated) (items : List Item) (out : Out) (next : Next)
      → Talks fx file own (shown (step_view p end e)) items out → Stands fx next out
      → Conversation file problem (asks_for items) next (last_answer p end (ends_in items) e)
  unfolding Talks Conversation asks_for ends_in last_answer called
  converses fx file p end e [] out next h s = s.answer ∙ h
  converses fx file p end e (evaluate a t z ∷ items) out next h s = (
    s.answer ∙ h.0.asks,
    converses fx file p end e items (supply_of fx file (own a t z) out.progress out.lent) (stepped (supply file (own a t z)) next.system) h.1
        (after_stands (supply file (own a t z)) next.system fx out.progress out.lent s.fixed s.progress s.lent),
  )
  converses fx file p end e (test (k when true) ∷ items) out next h s = s.answer ∙ h
  converses fx file p end e (test (k when false) ∷ items) out next h s = converses fx file p end e items out next h s

pub attempt_is_step : AttemptIsStep
unfolding attempted_by requests_of answer_of Conversation called
attempt_is_step file problem step host-J host-fₜ y passes steps sized =
    let fx = y.stepper.fixed in
    let x = y.stepper.progress in
    let m = trimmed (needed fx) y.lent in
    let p = attempted_by fx file problem step host-J host-fₜ x m in
    let c = caches_in fx x m in
    let s = after_stands (attempt file step host-J host-fₜ) y fx x m refl refl refl in
    by (eq p.h 𝟎)
    (λ still. rw still (s.answer ∙ stays fx file (own problem) step host-J host-fₜ x m passes steps still))
    (λ moving.
    rw moving
    (converses problem fx file p (x.time ⊕ step) (evaluated p c) (schedule p c) (attempt_of fx file step host-J host-fₜ x m)
    (stepped (attempt file step host-J host-fₜ) y)
    (moves fx file (own problem) step host-J host-fₜ x m passes steps (own_long problem fx.n sized) moving) s))

-- ---- what it means for the requests

module _ (p : Attempted) (end : Float) (c : Caches) (moves : eq p.h 𝟎 ≡ false) where
  abbrev e : Evaluated
  e = evaluated p c

  moving : requests_of p end c ≡ asks_for (schedule p c)
  unfolding requests_of
  moving = ap (λ (b : Bool). cond b [] (asks_for (schedule p c))) moves

  -- without a cached derivative they begin with the derivative at the accepted time and state
  pub begin_with_derivative : c.derivative ≡ None → (rs : List Request) × (requests_of p end c ≡ record { kind = derivative; time = p.t; state = p.y } ∷ rs)
  unfolding schedule unless_cached derivative_items asks_for kind_of
  begin_with_derivative q =
      (_, moving ∙ ap (λ (d : Option (List Float)). asks_for (unless_cached d (derivative_items p e) ++ (unless_cached c.differentiation (jacobian_items p e ++ partial_items p e) ++ matrix_on p e))) q)

  -- where all is cached they are those of the stages
  pub only_stages : (f₀ : List Float) (d : Differentiation) → c.derivative ≡ Some f₀ → c.differentiation ≡ Some d → requests_of p end c ≡ asks_for (matrix_on p e)
  unfolding schedule unless_cached
  only_stages f₀ d q r =
      moving
      ∙ ap (λ (k : Option (List Float)). asks_for (unless_cached k (derivative_items p e) ++ (unless_cached c.differentiation (jacobian_items p e ++ partial_items p e) ++ matrix_on p e))) q
      ∙ ap (λ (k : Option Differentiation). asks_for (unless_cached k (jacobian_items p e ++ partial_items p e) ++ matrix_on p e)) r

-- an attempt without a cached derivative asks for it first
pub first_request : (file : List ℕ) (problem : Problem) (step : Float) (host-J host-fₜ : Bool) (y : System)
    → let fx = y.stepper.fixed in
    let x = y.stepper.progress in
    let m = trimmed (needed fx) y.lent in
    first_of (attempt_tests fx file x m) ≡ Ok tt → first_of (step_tests step x) ≡ Ok tt → Sized fx.n problem → eq ((x.time ⊕ step) ⊖ x.time) 𝟎 ≡ false
    → x.memo.derivative_valid ≡ false
    → (stepped (attempt file step host-J host-fₜ) y).answer ≡ asked (record { kind = derivative; time = x.time; state = m.state })
unfolding Conversation attempted_by caches_in
first_request file problem step host-J host-fₜ y passes steps sized moves invalid =
    let fx = y.stepper.fixed in
    let x = y.stepper.progress in
    let m = trimmed (needed fx) y.lent in
    let p = attempted_by fx file problem step host-J host-fₜ x m in
    let c = caches_in fx x m in
    let next = stepped (attempt file step host-J host-fₜ) y in
    let b = begin_with_derivative p (x.time ⊕ step) c moves (ap (λ (v : Bool). then_some v (part (current_at fx.n) fx.n m.work)) invalid) in
    let conversation : Conversation file problem (record { kind = derivative; time = x.time; state = m.state } ∷ b.0) next _ =
    subst (λ (rs : List Request). Conversation file problem rs next (answer_of p (x.time ⊕ step) c)) b.1
    (attempt_is_step file problem step host-J host-fₜ y passes steps sized) in
    conversation.0

-- a reject leaves what is cached: where all of it is, a further attempt asks for the derivatives at stages only
pub after_reject : (fx : Fixed) (file : List ℕ) (problem : Problem) (step : Float) (host-J host-fₜ : Bool) (x : Progress) (m : Lent)
    → first_of (decision_tests fx x m) ≡ Ok tt → eq ((x.time ⊕ step) ⊖ x.time) 𝟎 ≡ false → x.memo.derivative_valid ≡ true → x.memo.differentiation_valid ≡ true
    → let o = reject_of fx x m in
    let p = attempted_by fx file problem step host-J host-fₜ o.progress o.lent in
    let c = caches_in fx o.progress o.lent in
    requests_of p (x.time ⊕ step) c ≡ asks_for (matrix_on p (evaluated p c))
unfolding reject_of rejected progress_after guarded attempted_by caches_in
after_reject fx file problem step host-J host-fₜ x m passes moves valid valid₂ =
    let n = fx.n in
    let w = m.work in
    let old : Differentiation = record { J = part (jacobian_at n) (n * n) w; fₜ = part (time_partial_at n) n w } in
    subst
    (λ (o : Out).
    let p = attempted_by fx file problem step host-J host-fₜ o.progress o.lent in
    let c = caches_in fx o.progress o.lent in
    requests_of p (x.time ⊕ step) c ≡ asks_for (matrix_on p (evaluated p c)))
    (is_answered (refusal x m) passes refl)
    (only_stages (attempted_by fx file problem step host-J host-fₜ x m) (x.time ⊕ step) (caches_in fx x m) moves (part (current_at n) n w) old
    (ap (λ (v : Bool). then_some v (part (current_at n) n w)) valid) (ap (λ (v : Bool). then_some v old) valid₂))
