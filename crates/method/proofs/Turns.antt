-- What the host does while a request stands, and the claim of specs/Turns. Assumes nothing.
use Prim.Native.Nat.{ℕ, suc, ◌+◌}
use native.Mathlib.Omega.{arith}
use mathlib.Core.Path.{◌≡◌, refl, sym, ap, ap₂, ◌∙◌, subst}
use mathlib.Core.Bool.{true, false, ◌&&◌}
use mathlib.Core.List.{List, [], ◌∷◌, ◌++◌}
use borrow.Author.Tests.{not-true}
use lib.Dec.{eqb}
use lib.ListN.{length, get_or}
use lib.Ieee.{Float, eq, nan}
use Rattle.std.specs.Prelude.{Result, Ok, is_ok, ⊤}
use Rattle.float.specs.Operators.{◌⊕◌, 𝟎}
use Rattle.float.proofs.Cases.{by, never, both}
use Rattle.vector.specs.Lists.{el, table}
use Rattle.vector.proofs.Lists.{length-table, table_own}
use Rattle.stepping.specs.declared.Refusal.{Refusal}
use Rattle.stepping.specs.declared.Refusal.TheVariants.{AttemptOpen, NoRequest, Dimension, HostFailure}
use Rattle.stepping.specs.Refusals.{Test, ◌when◌, first_of}
use Rattle.stepping.proofs.Refusals.{none, passed, held, holds_later, all_passed}
use Rattle.attempts.specs.declared.Ask.{Ask}
use Rattle.attempts.specs.declared.Ask.TheVariants.{Derivative, Jacobian, TimePartial, FirstProbe, SecondProbe, Column, Stage}
use Rattle.attempts.specs.Attempt.{wanted}
use Rattle.refusals.specs.declared.Fixed.{Fixed}
use Rattle.refusals.specs.declared.Progress.{Progress}
use Rattle.refusals.specs.Requests.{is_open, ask_of, ask_number, ask_stage}
use Rattle.refusals.specs.Answers.{Lent, Request, kind_of, Answer, refused, shown, told}
use Rattle.refusals.specs.Tests.{fit_tests, file_tests, open_test, candidate_test, request_test, answer_tests, attempt_rest, attempt_tests, supply_rest, supply_tests, fail_tests, decision_tests, inject_tests, reset_tests}
use Rattle.refusals.proofs.Requests.{read_back, asked_open}
use Rattle.refusals.proofs.Fitting.{Fits, fits_passed, fits_tests}
use Rattle.attempts.specs.Marks.{nothing_counted}
use Rattle.statistics.specs.Counters.{one_more, tallied}
use Rattle.rosenbrock.specs.Calls.{Out, refusal, guarded, progress_after, attempt_of, towards, attempt_to_of, supply_of, failed, fail_of, accept_of, reject_of, inject_of, reset_of}
use Rattle.rosenbrock.specs.Readers.{query_tests, reply, answered, read_of}
use Rattle.rosenbrock.specs.Stepper.{Call, attempt, attempt_to, supply, fail, accept, reject, inject_derivative, reset, read, called, System, Next, needed, trimmed, untrimmed, result, next_by, stepped}
use Rattle.rosenbrock.proofs.Guards.{guarded_either, guarded_passed}
use Rattle.rosenbrock.proofs.Readers.{untrimmed_same}
use Rattle.method.specs.Step.{Answers, Attempted, Evaluated, evaluated}
use Rattle.method.specs.Schedule.{Item, evaluate, test, schedule, asks_for, ends_in}
use Rattle.method.specs.Conversation.{last_answer, step_view, requests_of, answer_of, caches_in, attempted_with}
use Rattle.method.specs.Turns.{before_jacobian, before_partial, before_stages, place, in_turn, attempted_from, Turn, supplies, fails, calls, answers_in, values_for, beside, refused_or_told, Idle, closed, Exchange, AttemptIsStepOfItsAnswers, AttemptToIsAttempt}
use Rattle.method.proofs.Conforms.{Long, Awaits, Talks}
use Rattle.method.proofs.Order.{InOrder, in_order}
use Rattle.method.proofs.Attempt.{front_passed, stays, moves}
use Rattle.method.proofs.Standing.{Stands, after_stands}

-- the last of several tests
rear_passed : (xs ys : List Test) → first_of (xs ++ ys) ≡ Ok tt → first_of ys ≡ Ok tt
unfolding first_of
rear_passed [] ys h = h
rear_passed ((refusal when true) ∷ xs) ys h = cc
rear_passed ((refusal when false) ∷ xs) ys h = rear_passed xs ys h

for_kind : (n : ℕ) (a : Ask) → values_for n (kind_of a) ≡ wanted n a
unfolding values_for kind_of wanted
for_kind n Derivative = refl
for_kind n Jacobian = refl
for_kind n TimePartial = refl
for_kind n FirstProbe = refl
for_kind n SecondProbe = refl
for_kind n (Column k) = refl
for_kind n (Stage i) = refl

-- ---- a stepper of which a is asked
module _ (a : Ask) (y : System) where
  abbrev fx : Fixed
  fx = y.stepper.fixed

  abbrev x : Progress
  x = y.stepper.progress

  abbrev m : Lent
  m = trimmed (needed fx) y.lent

  module _ (number : x.request ≡ ask_number a) (index : x.stage ≡ ask_stage a) (fits : Fits fx x m) where
    stands : is_open x.request ≡ true
    stands = ap is_open number ∙ asked_open a

    is_asked : ask_of x.request x.stage ≡ a
    is_asked = ap₂ ask_of number index ∙ read_back a

    fail_passes : first_of (fail_tests fx x m) ≡ Ok tt
    fail_passes = all_passed (fit_tests fx x m) (request_test x ∷ []) (fits_tests fx x m fits) ∙ holds_later NoRequest [] stands none

    fail_closes : stepped fail y ≡ closed y
    unfolding stepped result called fail_of failed progress_after closed untrimmed trimmed tallied one_more
    fail_closes =
        ap (next_by y.stepper y.lent) (guarded_passed (fail_tests fx x m) x m (failed x m) fail_passes)
        ∙ (λ i. record {
          system =
              record {
                stepper = record y.stepper { progress = record y.stepper.progress { request = 0; stage = 0 } };
                lent = untrimmed_same (needed fx) y.lent i;
              };
          answer = refused HostFailure;
        })

    -- ---- any other call

    does_nothing : (c : Call) (r : Answer) → refused_or_told r ≡ true → called fx c x m ≡ record { progress = x; lent = m; counted = nothing_counted; answer = r } → Idle c y
    unfolding stepped result untrimmed trimmed tallied one_more
    does_nothing c r h e =
        record {
          answer = r;
          is_idle = h;
          leaves =
              ap (next_by y.stepper y.lent) e
              ∙ (λ i. record { system = record { stepper = y.stepper; lent = untrimmed_same (needed fx) y.lent i }; answer = r });
        }

    unless_passed : (c : Call) (tests : List Test) (o : Out) → called fx c x m ≡ guarded tests x m o → (first_of tests ≡ Ok tt → Idle c y) → Idle c y
    unfolding refusal refused_or_told
    unless_passed c tests o e f =
        guarded_either tests x m o (λ (q : Out). called fx c x m ≡ q → Idle c y) (λ k h. does_nothing c (refused k) refl h) (λ h _. f h) e

    module _ {A : Type 0} where
      -- 18 would come before all else
      not_open : (rest : List Test) → first_of (fit_tests fx x m ++ (open_test x ∷ rest)) ≡ Ok tt → A
      not_open rest h = never stands (passed AttemptOpen (is_open x.request) rest (fits_passed fx x m (open_test x ∷ rest) h).1).0

      no_attempt : (file : List ℕ) → first_of (attempt_tests fx file x m) ≡ Ok tt → A
      no_attempt file h =
          let last = rear_passed (file_tests fx.s file) (open_test x ∷ []) (fits_passed fx x m (attempt_rest fx file x) h).1 in
          never stands (passed AttemptOpen (is_open x.request) [] last).0

      -- 12, 3 or 1 for the file, and 1 for another length
      no_supply : (file : List ℕ) (values : List Float) → (is_ok (first_of (file_tests fx.s file)) && eqb (length values) (values_for fx.n (kind_of a))) ≡ false
          → first_of (supply_tests fx file values x m) ≡ Ok tt → A
      no_supply file values other h =
          let rest = answer_tests fx x (length values) m.pivots in
          let others = (fits_passed fx x m (supply_rest fx file (length values) m.pivots x) h).1 in
          let file_passed = front_passed (file_tests fx.s file) (request_test x ∷ rest) others in
          let long = (held Dimension _ _ (held NoRequest (is_open x.request) rest (rear_passed (file_tests fx.s file) (request_test x ∷ rest) others)).1).0 in
          never
          (both (ap (λ (q : Result ⊤ Refusal). is_ok q) file_passed)
          (ap (λ (k : ℕ). eqb (length values) k) (for_kind fx.n a ∙ ap (wanted fx.n) (sym is_asked)) ∙ long))
          other

    idles : (c : Call) → beside fx (kind_of a) c ≡ true → Idle c y
    unfolding beside called attempt_of attempt_to_of supply_of accept_of reject_of inject_of reset_of read_of answered refused_or_told
    idles (attempt file step host_J host_fₜ) h = unless_passed (attempt file step host_J host_fₜ) (attempt_tests fx file x m) _ refl (no_attempt file)
    idles (attempt_to file endpoint proposal host_J host_fₜ) h = unless_passed (attempt_to file endpoint proposal host_J host_fₜ) (attempt_tests fx file x m) _ refl (no_attempt file)
    idles (supply file values) h = unless_passed (supply file values) (supply_tests fx file values x m) _ refl (no_supply file values (not-true _ h))
    idles fail h = cc
    idles (accept f) h = unless_passed (accept f) (decision_tests fx x m) _ refl (not_open (candidate_test x ∷ []))
    idles (reject f) h = unless_passed (reject f) (decision_tests fx x m) _ refl (not_open (candidate_test x ∷ []))
    idles (inject_derivative values) h = unless_passed (inject_derivative values) (inject_tests fx values x m) _ refl (not_open _)
    idles (reset time state) h = unless_passed (reset time state) (reset_tests fx time state x m) _ refl (not_open _)
    idles (read q) h =
        let tests = fit_tests fx x m ++ query_tests q fx x in
        unless_passed (read q) tests (answered q fx x m) refl
        (λ h. does_nothing (read q) (told (reply q fx x m)) refl (guarded_passed tests x m (answered q fx x m) h))

-- ---- turns

-- nothing more is asked
ended : (file : List ℕ) (ts : List Turn) (next : Next) (last : Answer) → next.answer ≡ last → Exchange file ts [] next last
unfolding Exchange
ended file [] next last h = h
ended file (t ∷ ts) next last h = h

module _ (fx : Fixed) (file : List ℕ) (order : Ask → ℕ) (all : List (List Float)) where
  abbrev own : Answers
  own = in_turn fx.n order all

  own_long : Long fx.n own
  unfolding in_turn
  own_long a t z = length-table _ (wanted fx.n a)

  -- the answers among the turns are those from the k-th on
  abbrev From : ℕ → List Turn → Type 0
  From k ts = (i : ℕ) → get_or (answers_in ts) i [] ≡ get_or all (k + i) []

  -- the ask a stands, and `then` says what follows its answer
  module _ (a : Ask) (t : Float) (z : List Float) (k : ℕ) (out : Out) (last : Answer) (rs : List Request) (w : Awaits fx a t z out) (next : Next) (s : Stands fx next out)
      (then : (v : List Float) (ts : List Turn) → From k (supplies v ∷ ts) → length v ≡ wanted fx.n a → Exchange file ts rs (stepped (supply file v) next.system) last) where
    abbrev y : System
    y = next.system

    number_is : y.stepper.progress.request ≡ ask_number a
    number_is = ap (λ (x : Progress). x.request) s.progress ∙ w.number

    index_is : y.stepper.progress.stage ≡ ask_stage a
    index_is = ap (λ (x : Progress). x.stage) s.progress ∙ w.index

    fits_there : Fits y.stepper.fixed y.stepper.progress (trimmed (needed y.stepper.fixed) y.lent)
    fits_there = rw (s.fixed, s.progress, s.lent) w.fits

    standing : (ts : List Turn) → From k ts → Exchange file ts (record { kind = kind_of a; time = t; state = z } ∷ rs) next last
    unfolding Exchange answers_in
    standing [] f = s.answer ∙ w.asks
    standing (supplies v ∷ ts) f =
        (s.answer ∙ w.asks, λ long. then v ts f (long ∙ for_kind y.stepper.fixed.n a ∙ ap (λ (g : Fixed). wanted g.n a) s.fixed))
    standing (fails ∷ ts) f = (s.answer ∙ w.asks, fail_closes a y number_is index_is fits_there)
    standing (calls c ∷ ts) f = (s.answer ∙ w.asks, λ h. (idles a y number_is index_is fits_there c h, standing ts f))

  own_is : (a : Ask) (t : Float) (z : List Float) (k : ℕ) (v : List Float) (ts : List Turn) → order a ≡ k → From k (supplies v ∷ ts) → length v ≡ wanted fx.n a → own a t z ≡ v
  unfolding in_turn answers_in
  own_is a t z k v ts e f long =
      let g : get_or all (order a) [] ≡ v = ap (λ (i : ℕ). get_or all i []) (omega (arith, e)) ∙ sym (f 0) in
      ap (λ (l : List Float). table (el l) (wanted fx.n a)) g ∙ table_own nan v (wanted fx.n a) long

  exchanges : (p : Attempted) (end : Float) (e : Evaluated) (items : List Item) (k l : ℕ) (out : Out) (next : Next) → InOrder order k items l
      → Talks fx file own (shown (step_view p end e)) items out → Stands fx next out
      → (ts : List Turn) → From k ts → Exchange file ts (asks_for items) next (last_answer p end (ends_in items) e)
  unfolding InOrder Talks asks_for ends_in last_answer answers_in called
  exchanges p end e [] k l out next o h s = λ ts f. ended file ts next _ (s.answer ∙ h)
  exchanges p end e (evaluate a t z ∷ items) k l out next o h s =
      let last = last_answer p end (ends_in items) e in
      standing a t z k out last (asks_for items) h.0 next s
      (λ v ts f long.
      subst (λ (q : List Float). Exchange file ts (asks_for items) (stepped (supply file q) next.system) last) (own_is a t z k v ts o.0 f long)
      (exchanges p end e items (suc k) l (supply_of fx file (own a t z) out.progress out.lent) (stepped (supply file (own a t z)) next.system) o.1 h.1
      (after_stands (supply file (own a t z)) next.system fx out.progress out.lent s.fixed s.progress s.lent)
      ts
      (λ i. f (suc i) ∙ ap (λ (j : ℕ). get_or all j []) (omega arith))))
  exchanges p end e (test (r when true) ∷ items) k l out next o h s = λ ts f. ended file ts next _ (s.answer ∙ h)
  exchanges p end e (test (r when false) ∷ items) k l out next o h s = exchanges p end e items k l out next o h s

pub attempt_is_step_of_its_answers : AttemptIsStepOfItsAnswers
unfolding attempted_from requests_of answer_of place before_jacobian before_partial before_stages called
attempt_is_step_of_its_answers file step host-J host-fₜ y turns passes steps =
    let fx = y.stepper.fixed in
    let x = y.stepper.progress in
    let m = trimmed (needed fx) y.lent in
    let all = answers_in turns in
    let c = caches_in fx x m in
    let end = x.time ⊕ step in
    let order = place (attempted_with fx file (λ a t y. []) step host-J host-fₜ x m) c in
    let p = attempted_from fx file all step host-J host-fₜ x m in
    let next = stepped (attempt file step host-J host-fₜ) y in
    let s = after_stands (attempt file step host-J host-fₜ) y fx x m refl refl refl in
    by (eq p.h 𝟎)
    (λ still. rw still (ended file turns next _ (s.answer ∙ stays fx file (own fx file order all) step host-J host-fₜ x m passes steps still)))
    (λ moving.
    rw moving
    (exchanges fx file order all p end (evaluated p c) (schedule p c) 0 _ (attempt_of fx file step host-J host-fₜ x m) next (in_order p c)
    (moves fx file (own fx file order all) step host-J host-fₜ x m passes steps (own_long fx file order all) moving) s
    turns (λ i. ap (λ (j : ℕ). get_or all j []) (omega arith))))

pub attempt_to_is_attempt : AttemptToIsAttempt
unfolding stepped result called attempt_to_of attempt_of towards
attempt_to_is_attempt file endpoint proposal step host-J host-fₜ y e =
    let fx = y.stepper.fixed in
    let x = y.stepper.progress in
    let m = trimmed (needed fx) y.lent in
    ap (λ (q : Result Float Refusal). next_by y.stepper y.lent (guarded (attempt_tests fx file x m) x m (towards q fx file host-J host-fₜ x m))) e
