-- What an open attempt notes of its caches, as it goes on and where it stops. Assumes nothing.
use Prim.Native.Nat.{ℕ, suc, ◌*◌, ◌≤◌}
use native.Mathlib.Omega.{arith}
use mathlib.Core.Path.{◌≡◌, refl, sym, ap, ◌∙◌, subst}
use mathlib.Core.Bool.{Bool, true, false, not, ◌&&◌, ◌||◌}
use mathlib.Core.List.{List}
use lib.ListN.{length}
use lib.Ieee.{Float, nan}
use Rattle.float.proofs.Cases.{never}
use Rattle.std.specs.Prelude.{Option, None, Some, Result, Ok, Err}
use Rattle.vector.specs.Lists.{el, all_finite}
use Rattle.vector.specs.Parts.{part}
use Rattle.vector.proofs.Parts.{part_stored}
use Rattle.vector.proofs.Stores.{length-puts}
use Rattle.stepping.specs.declared.Refusal.{Refusal}
use Rattle.stepping.specs.declared.Refusal.TheVariants.{NonFinite}
use Rattle.time_difference.specs.Policy.{probes}
use Rattle.stages.specs.Layout.{current_at, time_partial_at, probe_rhs_at, jacobian_at, rhs_stage_at}
use Rattle.differentiation.proofs.Lengths.{length_partial}
use Rattle.attempts.specs.declared.Ask.{Ask}
use Rattle.attempts.specs.declared.Ask.TheVariants.{Derivative, Jacobian, TimePartial, FirstProbe, SecondProbe, Column, Stage}
use Rattle.attempts.specs.Marks.{with_caches, with_derivative, with_differentiation, with_error_shown, with_probes, with_request_time, noting, counting}
use Rattle.attempts.specs.Attempt.{Ending, Asks, Ends, Shows, Given, Scratch, Stopped, on_work, on_marks, halt, refuse, ask, ask_rhs, choose, provided, show, finish, ask_stage, open_stage, next_stage, solve_stage, first_stage, factor, partial_done, combine, ask_first_probe, ask_partial, jacobian_done, open_column, next_column, ask_jacobian, differentiate, evaluate, start, written, resume, wanted}
use Rattle.lists.specs.Caching.{is_derivative, has_second, is_last_of_partial}
use Rattle.lists.proofs.Tallied.{choose_either, provided_either}
use Rattle.lists.proofs.Kept.{unchanged, partial_done_kept}

abbrev pub is_probe : Ask → Bool
is_probe FirstProbe = true
is_probe a = false

abbrev pub first_probe : Ending → Bool
first_probe (Asks a) = is_probe a
first_probe (Ends k) = false
first_probe Shows = false

-- whether the derivative is cached, and the Jacobian with the time partial, and whether there are two probes where the first is asked for
abbrev pub Now : Bool → Bool → Scratch → Type 0
Now d v x = (x.marks.memo.derivative_valid ≡ d) × (x.marks.memo.differentiation_valid ≡ v)

pub record Noted (two d v : Bool) (r : Stopped) : Type 0 where
  pub derivative : r.stop.marks.memo.derivative_valid ≡ d
  pub differentiation : r.stop.marks.memo.differentiation_valid ≡ v
  pub probes : first_probe r.stop.ending ≡ true → r.stop.marks.memo.two_probes ≡ two

module _ (two d v : Bool) where
  halt_noted : (e : Ending) (x : Scratch) → Now d v x → first_probe e ≡ false → Noted two d v (halt e x)
  unfolding halt
  halt_noted e x h n = record { derivative = h.0; differentiation = h.1; probes = λ p. never p n }

  pub refuse_noted : (k : Refusal) (x : Scratch) → Now d v x → Noted two d v (refuse k x)
  unfolding refuse
  refuse_noted k x h = halt_noted _ x h refl

  ask_noted : (a : Ask) (t : Float) (x : Scratch) → Now d v x → is_probe a ≡ false → Noted two d v (ask a t x)
  unfolding ask on_marks noting with_request_time
  ask_noted a t x h n = halt_noted _ _ h n

  ask_rhs_noted : (a : Ask) (t : Float) (x : Scratch) → Now d v x → is_probe a ≡ false → Noted two d v (ask_rhs a t x)
  unfolding ask_rhs on_marks counting
  ask_rhs_noted a t x h n = ask_noted a t _ h n

  choose_noted : (b : Bool) (q r : Stopped) → Noted two d v q → Noted two d v r → Noted two d v (choose b q r)
  choose_noted b q r h g = choose_either (Noted two d v) b q r h g

  provided_noted : (b : Bool) (k : Refusal) (x : Scratch) (r : Stopped) → Now d v x → Noted two d v r → Noted two d v (provided b k x r)
  provided_noted b k x r h c = provided_either (Noted two d v) b k x r (refuse_noted k x h) c

module _ (two : Bool) (g : Given) (d v : Bool) where
  show_noted : (x : Scratch) → Now d v x → Noted two d v (show g x)
  unfolding show on_marks noting with_error_shown
  show_noted x h = halt_noted two d v _ _ h refl

  finish_noted : (x : Scratch) → Now d v x → Noted two d v (finish g x)
  unfolding finish
  finish_noted x h = provided_noted two d v _ _ x _ h (provided_noted two d v _ _ x _ h (show_noted x h))

  ask_stage_noted : (i : ℕ) (x : Scratch) → Now d v x → Noted two d v (ask_stage g i x)
  unfolding ask_stage
  ask_stage_noted i x h = provided_noted two d v _ _ x _ h (ask_rhs_noted two d v (Stage i) _ x h refl)

  open_stage_noted : (i : ℕ) (x : Scratch) → Now d v x → Noted two d v (open_stage g i x)
  unfolding open_stage on_work
  open_stage_noted i x h = provided_noted two d v _ _ _ _ h (ask_stage_noted i _ h)

  next_stage_noted : (i : ℕ) (x : Scratch) → Now d v x → Noted two d v (next_stage g i x)
  unfolding next_stage
  next_stage_noted i x h = choose_noted two d v _ _ _ (finish_noted x h) (open_stage_noted i x h)

  solve_stage_noted : (i : ℕ) (x : Scratch) → Now d v x → Noted two d v (solve_stage g i x)
  unfolding solve_stage on_work on_marks counting
  solve_stage_noted i x h = provided_noted two d v _ _ _ _ h (next_stage_noted (suc i) _ h)

  first_stage_noted : (x : Scratch) → Now d v x → Noted two d v (first_stage g x)
  unfolding first_stage on_work
  first_stage_noted x h = provided_noted two d v _ _ _ _ h (choose_noted two d v _ _ _ (solve_stage_noted 0 _ h) (ask_stage_noted 0 _ h))

  factor_noted : (x : Scratch) → Now d v x → Noted two d v (factor g x)
  unfolding factor on_work on_marks counting
  factor_noted x h = provided_noted two d v _ _ _ _ h (provided_noted two d v _ _ _ _ h (first_stage_noted _ h))

  ask_first_probe_noted : (p : Result (Float × Option Float) Refusal) (x : Scratch) → has_second p ≡ two → Now d v x → Noted two d v (ask_first_probe g p x)
  unfolding ask_first_probe ask_rhs ask halt on_marks noting counting with_probes with_request_time has_second
  ask_first_probe_noted (Ok (first, None)) x e h = record { derivative = h.0; differentiation = h.1; probes = λ _. e }
  ask_first_probe_noted (Ok (first, Some second)) x e h = record { derivative = h.0; differentiation = h.1; probes = λ _. e }
  ask_first_probe_noted (Err k) x e h = refuse_noted two d v k x h

  module _ (e : has_second (probes g.setting.policy g.setting.time g.setting.step) ≡ two) where
    ask_partial_noted : (x : Scratch) → Now d v x → Noted two d v (ask_partial g x)
    unfolding ask_partial
    ask_partial_noted x h = choose_noted two d v _ _ _ (ask_noted two d v TimePartial _ x h refl) (ask_first_probe_noted _ x e h)

    jacobian_done_noted : (x : Scratch) → Now d v x → Noted two d v (jacobian_done g x)
    unfolding jacobian_done
    jacobian_done_noted x h = provided_noted two d v _ _ x _ h (ask_partial_noted x h)

    open_column_noted : (k : ℕ) (x : Scratch) → Now d v x → Noted two d v (open_column g k x)
    unfolding open_column on_work
    open_column_noted k x h = provided_noted two d v _ _ _ _ h (provided_noted two d v _ _ _ _ h (ask_rhs_noted two d v (Column k) _ _ h refl))

    next_column_noted : (k : ℕ) (x : Scratch) → Now d v x → Noted two d v (next_column g k x)
    unfolding next_column
    next_column_noted k x h = choose_noted two d v _ _ _ (jacobian_done_noted x h) (open_column_noted k x h)

    pub differentiate_noted : (x : Scratch) → Now d v x → Noted two d v (differentiate g x)
    unfolding differentiate ask_jacobian on_marks counting
    differentiate_noted x h =
        choose_noted two d v _ _ _ (factor_noted x h) (choose_noted two d v _ _ _ (ask_noted two d v Jacobian _ _ h refl) (next_column_noted 0 _ h))

    pub start_noted : (x : Scratch) → Now d v x → Noted two d v (start g x)
    unfolding start on_work evaluate
    start_noted x h = choose_noted two d v _ _ _ (show_noted _ h) (choose_noted two d v _ _ _ (differentiate_noted _ h) (ask_rhs_noted two d v Derivative _ _ h refl))

-- ---- a supply: a cache holds after it as before, or because what was asked came

pub or_false : (b : Bool) → b ≡ (b || false)
or_false true = refl
or_false false = refl

or_true : (b : Bool) → true ≡ (b || true)
or_true true = refl
or_true false = refl

none_came : (b fin : Bool) → b ≡ (b || (fin && false))
none_came true fin = refl
none_came false true = refl
none_came false false = refl

came : (fin : Bool) {c : Bool} → c ≡ fin → c ≡ (fin && c)
came true e = refl
came false e = e

noted_as : (two : Bool) {d v d' v' : Bool} (r : Stopped) → d ≡ d' → v ≡ v' → Noted two d v r → Noted two d' v' r
noted_as two r e f h = record { derivative = h.derivative ∙ e; differentiation = h.differentiation ∙ f; probes = h.probes }

module _ (two d v : Bool) where
  as_before : (r : Stopped) → Noted two d v r → Noted two (d || false) (v || false) r
  as_before r h = noted_as two r (or_false d) (or_false v) h

  -- what is supplied is finite or not
  taken_noted : (fin D : Bool) (C : Stopped → Bool) (y : Scratch) (q : Stopped) → Now d v y → Noted two (d || D) (v || C q) q
      → let r = provided fin NonFinite y q in Noted two (d || (fin && D)) (v || (fin && C r)) r
  unfolding provided choose
  taken_noted true D C y q h t = t
  taken_noted false D C y q h t = as_before _ (refuse_noted two d v NonFinite y h)

  -- so is the time partial
  partial_noted : (P : Bool) (x : Scratch) (q : Stopped) → Now d v x → Noted two d true q → Noted two d (v || P) (provided P NonFinite x q)
  unfolding provided choose
  partial_noted true x q h t = noted_as two q refl (or_true v) t
  partial_noted false x q h t = noted_as two _ refl (or_false v) (refuse_noted two d v NonFinite x h)

module _ (two : Bool) (g : Given) (e : has_second (probes g.setting.policy g.setting.time g.setting.step) ≡ two) (d v : Bool) where
  abbrev n : ℕ
  n = g.setting.n

  abbrev partial_in : Stopped → Bool
  partial_in r = all_finite (part (time_partial_at n) n r.work)

  partial_done_noted : (x : Scratch) → 5 * n ≤ length x.work → Now d v x → let r = partial_done g x in Noted two d (v || partial_in r) r
  unfolding partial_done on_marks noting with_differentiation with_caches
  partial_done_noted x room h =
      let r = partial_done g x in
      noted_as two r refl (ap (λ (w : List Float). v || all_finite w) (sym (partial_done_kept g x.work room x (unchanged n x.work room)).partial))
      (partial_noted two d v _ x _ h (factor_noted two g d true (on_marks (noting with_differentiation) x) (h.0, refl)))

  combine_noted : (x : Scratch) → 5 * n ≤ length x.work → Now d v x → let r = combine g x in Noted two d (v || partial_in r) r
  unfolding combine on_work
  combine_noted x room h = partial_done_noted _ (subst (λ (l : ℕ). 5 * n ≤ l) (sym (length_partial n _ _ _ x.work)) room) h

  probe_noted : (second : Bool) (q r : Stopped) → Noted two d v q → Noted two d (v || partial_in r) r
      → let c = choose second q r in Noted two (d || false) (v || (not second && partial_in c)) c
  unfolding choose
  probe_noted true q r h t = as_before two d v q h
  probe_noted false q r h t = noted_as two r (or_false d) refl t

module _ (two : Bool) (g : Given) (e : has_second (probes g.setting.policy g.setting.time g.setting.step) ≡ two) (x : Scratch) (room : 5 * g.setting.n ≤ length x.work) where
  abbrev d : Bool
  d = x.marks.memo.derivative_valid

  abbrev v : Bool
  v = x.marks.memo.differentiation_valid

  pub resume_noted : (a : Ask) (values : List Float) → length values ≡ wanted g.setting.n a
      → let fin = all_finite values in
      let r = resume g a values x in
      Noted two (d || (fin && is_derivative a)) (v || (fin && (is_last_of_partial x.marks.memo.two_probes a && all_finite (part (time_partial_at g.setting.n) g.setting.n r.work)))) r
  unfolding resume written on_work on_marks noting with_derivative with_caches is_derivative is_last_of_partial wanted
  resume_noted Derivative values l =
      let y = written g (current_at g.setting.n) g.setting.n values x in
      taken_noted two d v (all_finite values) true (λ r. false) y _ (refl, refl)
      (noted_as two _ (or_true d) (or_false v) (differentiate_noted two g true v e (on_marks (noting with_derivative) y) (refl, refl)))
  resume_noted Jacobian values l =
      let q = jacobian_done_noted two g d v e (written g (jacobian_at g.setting.n) (g.setting.n * g.setting.n) values x) (refl, refl) in
      noted_as two _ (none_came d (all_finite values)) (none_came v (all_finite values)) q
  resume_noted TimePartial values l =
      let n = g.setting.n in
      let y = written g (time_partial_at n) n values x in
      let long : 5 * n ≤ length y.work = let k = length-puts x.work (time_partial_at n) (el values) n in omega arith in
      let there : part (time_partial_at n) n y.work ≡ values = part_stored x.work (time_partial_at n) values n nan l (omega arith) in
      let kept = (partial_done_kept g y.work long y (unchanged n y.work long)).partial in
      noted_as two _ (none_came d (all_finite values)) (ap (λ (b : Bool). v || b) (came (all_finite values) (ap all_finite (kept ∙ there))))
      (partial_done_noted two g e d v y long (refl, refl))
  resume_noted FirstProbe values l =
      let n = g.setting.n in
      let y = written g (time_partial_at n) n values x in
      let long : 5 * n ≤ length y.work = let k = length-puts x.work (time_partial_at n) (el values) n in omega arith in
      taken_noted two d v (all_finite values) false (λ r. not x.marks.memo.two_probes && all_finite (part (time_partial_at n) n r.work)) y _ (refl, refl)
      (probe_noted two g e d v x.marks.memo.two_probes _ _ (ask_rhs_noted two d v SecondProbe _ y (refl, refl) refl) (combine_noted two g e d v y long (refl, refl)))
  resume_noted SecondProbe values l =
      let n = g.setting.n in
      let y = written g (probe_rhs_at n) n values x in
      let long : 5 * n ≤ length y.work = let k = length-puts x.work (probe_rhs_at n) (el values) n in omega arith in
      taken_noted two d v (all_finite values) false (λ r. all_finite (part (time_partial_at n) n r.work)) y _ (refl, refl)
      (noted_as two _ (or_false d) refl (combine_noted two g e d v y long (refl, refl)))
  resume_noted (Column k) values l =
      let y = written g (probe_rhs_at g.setting.n) g.setting.n values x in
      taken_noted two d v (all_finite values) false (λ r. false) y _ (refl, refl) (as_before two d v _ (next_column_noted two g d v e (suc k) _ (refl, refl)))
  resume_noted (Stage i) values l =
      let y = written g (rhs_stage_at g.setting.n g.setting.s i) g.setting.n values x in
      taken_noted two d v (all_finite values) false (λ r. false) y _ (refl, refl) (as_before two d v _ (solve_stage_noted two g d v i y (refl, refl)))
