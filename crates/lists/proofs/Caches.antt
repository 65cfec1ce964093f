-- What is cached is told by the calls. Assumes nothing.
use Prim.Native.Nat.{ℕ, ◌*◌, ◌≤◌}
use native.Mathlib.Omega.{arith}
use mathlib.Core.Path.{◌≡◌, refl, sym, ap, ◌∙◌, subst}
use mathlib.Core.Bool.{Bool, true, false, not, ◌&&◌, ◌||◌, cond}
use mathlib.Core.List.{List, [], ◌∷◌}
use lib.ListN.{length}
use lib.Ieee.{Float, eq}
use Rattle.float.specs.Operators.{𝟎}
use Rattle.float.proofs.Cases.{never, or_yes, and_no}
use Rattle.std.specs.Prelude.{Result, Ok, Err}
use Rattle.vector.specs.Lists.{all_finite}
use Rattle.vector.specs.Parts.{part}
use Rattle.stepping.specs.declared.Refusal.{Refusal}
use Rattle.stepping.specs.declared.Refusal.TheVariants.{NonFinite}
use Rattle.stepping.specs.Refusals.{Test, first_of}
use Rattle.stepping.specs.Time.{endpoint_step}
use Rattle.time_difference.specs.declared.TimeDifferencePolicy.{TimeDifferencePolicy}
use Rattle.time_difference.specs.Policy.{probes}
use Rattle.stages.specs.Layout.{current_at, time_partial_at, needed_work}
use Rattle.attempts.specs.declared.Ask.{Ask}
use Rattle.attempts.specs.declared.Ask.TheVariants.{Derivative, Jacobian, TimePartial, FirstProbe, SecondProbe, Column, Stage}
use Rattle.attempts.specs.declared.Memo.{Memo}
use Rattle.attempts.specs.Marks.{with_caches, with_derivative, with_error_shown, with_request_time, noting, counting, nothing_counted, one_attempt}
use Rattle.attempts.specs.Attempt.{Ending, Asks, Ends, Shows, Given, Scratch, Stopped, on_work, on_marks, halt, refuse, ask, ask_rhs, choose, show, evaluate, start, written, resume, wanted}
use Rattle.refusals.specs.declared.Fixed.{Fixed}
use Rattle.refusals.specs.declared.Progress.{Progress}
use Rattle.refusals.specs.Requests.{is_open, ask_of, request_after, stage_after}
use Rattle.refusals.specs.Answers.{Lent}
use Rattle.refusals.specs.Tests.{step_tests, supply_tests}
use Rattle.refusals.proofs.Fitting.{fits_passed}
use Rattle.refusals.proofs.Requests.{read_back}
use Rattle.refusals.proofs.Passed.{supply_passed, supply_values}
use Rattle.phases.specs.Phases.{opening, memo_accepted, fresh}
use Rattle.rosenbrock.specs.Calls.{Out, refusal, guarded, given_by, scratch_by, progress_after, settle, opened, attempt_by, attempt_of, towards, attempt_to_of, supply_of, failed, fail_of, accepted, accept_of, rejected, reject_of, injected, inject_of, restarted, reset_of}
use Rattle.rosenbrock.specs.Readers.{answered, read_of}
use Rattle.rosenbrock.specs.Stepper.{Call, attempt, attempt_to, supply, fail, accept, reject, inject_derivative, reset, read, called, System, result, stepped, made, made_of, make}
use Rattle.rosenbrock.proofs.Guards.{guarded_either}
use Rattle.rosenbrock.proofs.Memory.{memory_after}
use Rattle.lists.specs.Run.{after}
use Rattle.lists.specs.Opening.{memory, pass}
use Rattle.lists.specs.Accepting.{is_done}
use Rattle.lists.specs.Caching.{supplies, awaited, is_derivative, has_second, two_probes, is_last_of_partial, derivative_came, partial_came, Caches, none_cached, cached_after, cached, EveryCache}
use Rattle.lists.proofs.Fresh.{made_is}
use Rattle.lists.proofs.Tallied.{provided_either}
use Rattle.lists.proofs.Known.{guarded_known, passes}
use Rattle.lists.proofs.Noted.{is_probe, first_probe, Noted, or_false, differentiate_noted, start_noted, resume_noted}

-- ---- how an open attempt stops: what is asked beyond the derivative is asked where that is cached

abbrev pub Beyond : Memo → Ending → Type 0
Beyond memo (Asks a) = is_derivative a ≡ false → memo.derivative_valid ≡ true
Beyond memo (Ends k) = Unit {0}
Beyond memo Shows = Unit {0}

abbrev pub Nest : Memo → Type 0
Nest memo = memo.differentiation_valid ≡ true → memo.derivative_valid ≡ true

pub record Nested (r : Stopped) : Type 0 where
  pub nest : Nest r.stop.marks.memo
  pub beyond : Beyond r.stop.marks.memo r.stop.ending

beyond_of : (memo : Memo) (e : Ending) → memo.derivative_valid ≡ true → Beyond memo e
beyond_of memo (Asks a) h = λ _. h
beyond_of memo (Ends k) h = tt
beyond_of memo Shows h = tt

nested_of : (r : Stopped) → r.stop.marks.memo.derivative_valid ≡ true → Nested r
nested_of r h = record { nest = λ _. h; beyond = beyond_of r.stop.marks.memo r.stop.ending h }

choose_nested : (b : Bool) (q r : Stopped) → (b ≡ true → Nested q) → (b ≡ false → Nested r) → Nested (choose b q r)
unfolding choose
choose_nested true q r f g = f refl
choose_nested false q r f g = g refl

module _ (g : Given) (x : Scratch) (h : Nest x.marks.memo) where
  abbrev two : Bool
  two = has_second (probes g.setting.policy g.setting.time g.setting.step)

  start_nested : Nested (start g x)
  unfolding start on_work show halt evaluate on_marks noting counting with_error_shown ask_rhs ask with_request_time is_derivative
  start_nested =
      choose_nested _ _ _ (λ _. record { nest = h; beyond = tt })
      (λ _. choose_nested x.marks.memo.derivative_valid _ _
      (λ d. nested_of _ (differentiate_noted two g true x.marks.memo.differentiation_valid refl _ (d, refl)).derivative) (λ _. record { nest = h; beyond = λ n. never refl n }))

  module _ (room : 5 * g.setting.n ≤ length x.work) (values : List Float) where
    derivative_nested : Nested (resume g Derivative values x)
    unfolding resume written on_work on_marks noting with_derivative with_caches refuse halt
    derivative_nested =
        let y = written g (current_at g.setting.n) g.setting.n values x in
        provided_either Nested (all_finite values) NonFinite y _ (record { nest = h; beyond = tt })
        (nested_of _ (differentiate_noted two g true x.marks.memo.differentiation_valid refl (on_marks (noting with_derivative) y) (refl, refl)).derivative)

    later_nested : (a : Ask) → length values ≡ wanted g.setting.n a → x.marks.memo.derivative_valid ≡ true → Nested (resume g a values x)
    later_nested a l d = nested_of _ ((resume_noted two g refl x room a values l).derivative ∙ or_yes _ d)

    resume_nested : (a : Ask) → length values ≡ wanted g.setting.n a → (is_derivative a ≡ false → x.marks.memo.derivative_valid ≡ true) → Nested (resume g a values x)
    unfolding is_derivative
    resume_nested Derivative l b = derivative_nested
    resume_nested Jacobian l b = later_nested Jacobian l (b refl)
    resume_nested TimePartial l b = later_nested TimePartial l (b refl)
    resume_nested FirstProbe l b = later_nested FirstProbe l (b refl)
    resume_nested SecondProbe l b = later_nested SecondProbe l (b refl)
    resume_nested (Column k) l b = later_nested (Column k) l (b refl)
    resume_nested (Stage i) l b = later_nested (Stage i) l (b refl)

-- ---- each call

-- the two probes of the open attempt, or the one
abbrev pub two_of : Fixed → Progress → Bool
two_of fx x = has_second (probes fx.policy x.time x.step)

-- the record's caches are those that the calls tell, k
pub record Follows (fx : Fixed) (k : Caches) (x : Progress) : Type 0 where
  pub derivative : x.memo.derivative_valid ≡ k.derivative
  pub differentiation : x.memo.differentiation_valid ≡ k.differentiation
  pub nest : Nest x.memo
  pub beyond : is_open x.request ≡ true → is_derivative (ask_of x.request x.stage) ≡ false → x.memo.derivative_valid ≡ true
  pub probes : is_open x.request ≡ true → is_probe (ask_of x.request x.stage) ≡ true → x.memo.two_probes ≡ two_of fx x

-- nothing is asked
idle_follows : (fx : Fixed) (k : Caches) (x : Progress) → x.request ≡ 0 → x.memo.derivative_valid ≡ k.derivative → x.memo.differentiation_valid ≡ k.differentiation → Nest x.memo
    → Follows fx k x
unfolding is_open
idle_follows fx k x e d v h =
    record { derivative = d; differentiation = v; nest = h; beyond = λ o. never o (ap is_open e); probes = λ o. never o (ap is_open e) }

flags_kept : (same d v : Bool) (k : Caches) → d ≡ k.derivative → v ≡ k.differentiation → (v ≡ true → d ≡ true)
    → let k' = cond (not same) none_cached k in ((same && d) ≡ k'.derivative) × ((same && v) ≡ k'.differentiation) × ((same && v) ≡ true → (same && d) ≡ true)
flags_kept true d v k e f h = (e, f, h)
flags_kept false d v k e f h = (refl, refl, λ n. n)

pub last_same : (a : Ask) (p q : Bool) → (is_probe a ≡ true → p ≡ q) → is_last_of_partial p a ≡ is_last_of_partial q a
unfolding is_last_of_partial
last_same Derivative p q e = refl
last_same Jacobian p q e = refl
last_same TimePartial p q e = refl
last_same FirstProbe p q e = ap not (e refl)
last_same SecondProbe p q e = refl
last_same (Column k) p q e = refl
last_same (Stage i) p q e = refl

module _ (fx : Fixed) (m : Lent) where
  ended_follows : (k : Caches) (x : Progress) (memo : Memo) (e : Ending) → memo.derivative_valid ≡ k.derivative → memo.differentiation_valid ≡ k.differentiation → Nest memo
      → Beyond memo e → (first_probe e ≡ true → memo.two_probes ≡ two_of fx x) → Follows fx k (progress_after x memo (request_after e) (stage_after e))
  unfolding progress_after request_after stage_after is_open
  ended_follows k x memo (Asks a) d v h b p =
      record {
        derivative = d;
        differentiation = v;
        nest = h;
        beyond = λ _ n. b (ap is_derivative (sym (read_back a)) ∙ n);
        probes = λ _ n. p (ap is_probe (sym (read_back a)) ∙ n);
      }
  ended_follows k x memo (Ends r) d v h b p = record { derivative = d; differentiation = v; nest = h; beyond = λ o. never o refl; probes = λ o. never o refl }
  ended_follows k x memo Shows d v h b p = record { derivative = d; differentiation = v; nest = h; beyond = λ o. never o refl; probes = λ o. never o refl }

  settle_follows : (k : Caches) (x : Progress) (r : Stopped) → Noted (two_of fx x) k.derivative k.differentiation r → Nested r → Follows fx k (settle fx x m r).progress
  unfolding settle
  settle_follows k x r d h = ended_follows k x r.stop.marks.memo r.stop.ending d.derivative d.differentiation h.nest h.beyond d.probes

  -- an attempt, a fail, a reject and a reader leave the caches
  module _ (k : Caches) (x : Progress) (h : Follows fx k x) where
    abbrev As : Out → Type 0
    As o = Follows fx k o.progress

    guarded_follows : (tests : List Test) (o : Out) → As o → As (guarded tests x m o)
    unfolding refusal
    guarded_follows tests o g = guarded_either tests x m o As (λ r. h) (λ _. g)

    closed_follows : Follows fx k (progress_after x x.memo 0 0)
    unfolding progress_after
    closed_follows = idle_follows fx k _ refl h.derivative h.differentiation h.nest

    attempt_by_follows : (file : List ℕ) (step : Float) (jacobian partial : Bool) → As (attempt_by fx file step jacobian partial x m)
    unfolding attempt_by opened given_by scratch_by opening
    attempt_by_follows file step jacobian partial =
        let x' = opening step jacobian partial x in
        let g = given_by fx file x' m in
        let y = scratch_by one_attempt x' m in
        guarded_follows (step_tests step x) _
        (settle_follows k x' (start g y) (start_noted (two_of fx x') g k.derivative k.differentiation refl y (h.derivative, h.differentiation)) (start_nested g y h.nest))

    towards_follows : (r : Result Float Refusal) (file : List ℕ) (jacobian partial : Bool) → As (towards r fx file jacobian partial x m)
    unfolding towards refusal
    towards_follows (Ok step) file jacobian partial = attempt_by_follows file step jacobian partial
    towards_follows (Err r) file jacobian partial = h

    -- an accept over a step other than 0 clears both
    accepted_follows : Follows fx (cond (not (eq x.step 𝟎)) none_cached k) (accepted fx x m).progress
    unfolding accepted memo_accepted with_caches
    accepted_follows =
        let f = flags_kept (eq x.step 𝟎) x.memo.derivative_valid x.memo.differentiation_valid k h.derivative h.differentiation h.nest in
        idle_follows fx _ _ refl f.0 f.1 f.2

-- ---- a call on a stepper

module _ (k : Caches) (y : System) (h : Follows y.stepper.fixed k y.stepper.progress) where
  abbrev fx : Fixed
  fx = y.stepper.fixed

  abbrev x : Progress
  x = y.stepper.progress

  abbrev m : Lent
  m = memory y

  -- after a supply, from the memory that it leaves
  abbrev supplied_caches : Bool → List Float → Caches
  supplied_caches sup work =
      record {
        derivative = k.derivative || (sup && is_derivative (awaited y));
        differentiation = k.differentiation || (sup && (is_last_of_partial (two_probes y) (awaited y) && all_finite (part (time_partial_at fx.n) fx.n work)));
      }

  abbrev supplied_out : List ℕ → List Float → Out
  supplied_out file values = settle fx x m (resume (given_by fx file x m) (ask_of x.request x.stage) values (scratch_by nothing_counted x m))

  supplied_follows : (file : List ℕ) (values : List Float) → first_of (supply_tests fx file values x m) ≡ Ok tt
      → let o = supplied_out file values in
      Follows fx (supplied_caches (all_finite values) o.lent.work) o.progress
  unfolding settle given_by scratch_by needed_work two_probes
  supplied_follows file values e =
      let shape = (fits_passed fx x m _ e).0.shape in
      let long = shape.of_work in
      let room : 5 * fx.n ≤ length m.work = omega arith in
      let open_now = supply_passed fx x m file values e in
      let a = ask_of x.request x.stage in
      let l = (supply_values fx x m file values e).0 in
      let g = given_by fx file x m in
      let s = scratch_by nothing_counted x m in
      let r = resume g a values s in
      let n : Noted (two_of fx x) (x.memo.derivative_valid || (all_finite values && is_derivative a))
      (x.memo.differentiation_valid || (all_finite values && (is_last_of_partial x.memo.two_probes a && all_finite (part (time_partial_at fx.n) fx.n r.work)))) r =
      resume_noted (two_of fx x) g refl s room a values l in
      settle_follows fx m (supplied_caches (all_finite values) r.work) x r
      (record {
        derivative = n.derivative ∙ (λ i. h.derivative i || (all_finite values && is_derivative a));
        differentiation =
            n.differentiation
            ∙ (λ i. h.differentiation i
            || (all_finite values && (last_same a x.memo.two_probes (two_of fx x) (h.probes open_now) i && all_finite (part (time_partial_at fx.n) fx.n r.work))));
        probes = n.probes;
      })
      (resume_nested g s h.nest room values a l (h.beyond open_now))

  -- a refusal leaves them
  refused_caches : (work : List Float) (sup : Bool) → sup ≡ false → Follows fx (supplied_caches sup work) x
  refused_caches work sup e =
      subst (λ (b : Bool). Follows fx (supplied_caches b work) x) (sym e)
      (record {
        derivative = h.derivative ∙ or_false k.derivative;
        differentiation = h.differentiation ∙ or_false k.differentiation;
        nest = h.nest;
        beyond = h.beyond;
        probes = h.probes;
      })

  pub step_follows : (c : Call) → Follows fx (cached_after k c y) (stepped c y).system.stepper.progress
  unfolding stepped result called cached_after derivative_came partial_came attempt_of attempt_to_of supply_of fail_of failed accept_of reject_of rejected inject_of injected reset_of restarted fresh read_of answered refusal is_done supplies accepted progress_after with_caches
  step_follows (attempt file step jacobian partial) = guarded_follows fx m k x h _ _ (attempt_by_follows fx m k x h file step jacobian partial)
  step_follows (attempt_to file endpoint proposal jacobian partial) =
      guarded_follows fx m k x h _ _ (towards_follows fx m k x h (endpoint_step x.time endpoint proposal) file jacobian partial)
  step_follows (supply file values) =
      let c = supply file values in
      let tests = supply_tests fx file values x m in
      subst (λ (l : Lent). Follows fx (supplied_caches (pass tests && all_finite values) l.work) (result c y).progress) (sym (memory_after c y))
      (guarded_known (λ (o : Out). Follows fx (supplied_caches (pass tests && all_finite values) o.lent.work) o.progress) tests x m _
      (λ r e. refused_caches m.work _ (and_no (all_finite values) e))
      (λ e. let o = supplied_out file values in
      subst (λ (b : Bool). Follows fx (supplied_caches (b && all_finite values) o.lent.work) o.progress) (sym (passes e)) (supplied_follows file values e)))
  step_follows fail = guarded_follows fx m k x h _ (failed x m) (closed_follows fx m k x h)
  step_follows (accept f) =
      guarded_either _ x m (accepted fx x m) (λ (o : Out). Follows fx (cond (is_done o.answer && not (eq x.step 𝟎)) none_cached k) o.progress) (λ r. h)
      (λ _. accepted_follows fx m k x h)
  step_follows (reject f) = guarded_follows fx m k x h _ (rejected x m) (closed_follows fx m k x h)
  step_follows (inject_derivative derivative) =
      guarded_either _ x m (injected fx derivative x m)
      (λ (o : Out). Follows fx (cond (is_done o.answer) (record { derivative = true; differentiation = false }) k) o.progress)
      (λ r. h)
      (λ _. record { derivative = refl; differentiation = refl; nest = λ _. refl; beyond = λ _ _. refl; probes = h.probes })
  step_follows (reset time state) =
      guarded_either _ x m (restarted time state m) (λ (o : Out). Follows fx (cond (is_done o.answer) none_cached k) o.progress) (λ r. h)
      (λ _. idle_follows fx none_cached _ refl refl refl (λ n. n))
  step_follows (read q) = guarded_follows fx m k x h _ (answered q fx x m) h

-- ---- a list

abbrev pub AllFollows : Caches → System → Type 0
AllFollows k y = Follows y.stepper.fixed k y.stepper.progress

pub after_follows : (k : Caches) (y : System) (cs : List Call) → AllFollows k y → AllFollows (cached k y cs) (after y cs)
unfolding after cached stepped
after_follows k y [] h = h
after_follows k y (c ∷ cs) h = after_follows (cached_after k c y) (stepped c y).system cs (step_follows k y h c)

pub made_follows : (file : List ℕ) (policy : TimeDifferencePolicy) (time : Float) (m : Lent) (y : System) → make file policy time m ≡ made y → AllFollows none_cached y
unfolding made_of fresh
made_follows file policy time m y e =
    subst (λ (z : System). AllFollows none_cached z) (made_is file policy time m y e) (idle_follows _ none_cached _ refl refl refl (λ n. n))

pub every_cache : EveryCache
every_cache file policy time m y e calls =
    let h = after_follows none_cached y calls (made_follows file policy time m y e) in
    record { derivative = h.derivative; differentiation = h.differentiation; beside = λ n. sym h.derivative ∙ h.nest (h.differentiation ∙ n) }
