-- What an open attempt counts, told by what record and memory hold before and after it. Assumes nothing.
use Prim.Native.Nat.{ℕ, suc, ◌+◌, ◌*◌, ◌≤◌}
use native.Mathlib.Omega.{arith}
use mathlib.Core.Path.{◌≡◌, refl, sym, ap, ◌∙◌, subst}
use mathlib.Core.Bool.{Bool, true, false, not, ◌&&◌, ◌||◌}
use mathlib.Core.List.{List}
use mathlib.Core.Logic.{inr}
use lib.ListN.{length}
use lib.Ieee.{Float, eq, nan}
use Rattle.float.specs.Operators.{𝟎}
use Rattle.vector.specs.Lists.{el, all_finite}
use Rattle.vector.specs.Parts.{part, puts}
use Rattle.vector.proofs.Lists.{table_own}
use Rattle.vector.proofs.Parts.{part_left, part_stored}
use Rattle.vector.proofs.Stores.{length-puts}
use Rattle.stepping.specs.declared.Refusal.TheVariants.{NonFinite, Singular}
use Rattle.tableau.specs.Tableau.{c_of}
use Rattle.stages.specs.Layout.{candidate_at, error_at, stage_state_at, current_at, time_partial_at, probe_rhs_at, jacobian_at, stages_at, rhs_stage_at, needed_work}
use Rattle.stages.specs.Method.{stage_state, plus_multiples, stage_matrix}
use Rattle.stages.specs.Memory.{component, with_stage_state, with_matrix, elimination_in, with_factors}
use Rattle.stages.proofs.Writes.{state_written, matrix_written}
use Rattle.stages.proofs.Lengths.{length_matrix, length_factors}
use Rattle.differentiation.specs.Memory.{with_partial}
use Rattle.attempts.specs.declared.Ask.{Ask}
use Rattle.attempts.specs.declared.Ask.TheVariants.{Derivative, Jacobian, TimePartial, FirstProbe, SecondProbe, Column, Stage}
use Rattle.attempts.specs.declared.Memo.{Memo}
use Rattle.attempts.specs.Marks.{Counted, with_caches, with_derivative, with_differentiation, noting, counting, counting_jacobian, counting_factorization, counting_solve}
use Rattle.attempts.specs.Calls.{marked}
use Rattle.attempts.specs.Attempt.{Given, Scratch, scratch, Stopped, on_work, on_marks, halt, refuse, choose, provided, ask_stage, solve_stage, first_stage, factor, partial_done, combine, ask_jacobian, differentiate, begun, evaluate, start, written, resume, wanted}
use Rattle.refusals.specs.Answers.{kind_of}
use Rattle.lists.specs.Caching.{is_derivative, is_last_of_partial}
use Rattle.lists.specs.Counting.{of_derivative, is_stage, is_singular}
use Rattle.lists.proofs.Tallied.{rhs_asked, singular, Plain, ask_rhs_plain, show_plain, ask_stage_plain, solve_stage_plain, jacobian_done_plain, next_column_plain, ask_jacobian_plain, Regular, ask_stage_regular, solve_stage_regular}
use Rattle.lists.proofs.Kept.{unchanged, partial_done_kept}

-- ---- what is counted

-- where the attempt opens or not: a request, a Jacobian, a matrix, a stage
abbrev pub full : Bool → Bool → Bool → Bool → Bool → Counted
full opened rhs jacobian matrix stage =
    record {
      attempts = opened;
      rhs_evaluations = rhs;
      accepted_steps = false;
      rejected_steps = false;
      jacobian_evaluations = jacobian;
      factorizations = matrix;
      linear_solves = stage;
    }

abbrev pub first : Bool → Counted
first opened = full opened false false false false

pub record Counts (opened jacobian matrix stage : Bool) (r : Stopped) : Type 0 where
  pub counted : r.stop.marks.counted ≡ full opened (rhs_asked r.stop.ending) jacobian matrix stage

or_false : (b : Bool) → (b || false) ≡ b
or_false true = refl
or_false false = refl

plain_counts : (o j f s : Bool) (r : Stopped) → Plain (full o false j f s) r → Counts o j f s r
plain_counts o j f s r h = record { counted = h.counted ∙ (λ i. full o (or_false (rhs_asked r.stop.ending) i) j f s) }

-- the first stage: its state is finite or not, it is solved at once or asked for
first_either : (S Z o : Bool) (y : Scratch) (a b : Stopped) → y.marks.counted ≡ full o false false true false → Plain (full o false false true true) a → Regular a
    → Plain (full o false false true false) b → Regular b
    → let r = provided S NonFinite y (choose Z a b) in Plain (full o false false true (Z && S)) r × Regular r
unfolding provided choose refuse halt is_singular
first_either true true o y a b e p u q v = (p, u)
first_either true false o y a b e p u q v = (q, v)
first_either false true o y a b e p u q v = (record { counted = e }, record { regular = refl })
first_either false false o y a b e p u q v = (record { counted = e }, record { regular = refl })

-- the matrix: it is finite or not, and has factors or not
matrix_either : (F A K o : Bool) (y z : Scratch) (q : Stopped) → y.marks.counted ≡ first o → z.marks.counted ≡ full o false false true false
    → Plain (full o false false true K) q × Regular q
    → let r = provided F NonFinite y (provided A Singular z q) in Counts o false F (F && (not (singular r.stop.ending) && K)) r
unfolding provided choose refuse halt is_singular
matrix_either true true K o y z q e f h =
    let k = plain_counts o false true K q h.0 in
    record { counted = k.counted ∙ (λ i. full o (rhs_asked q.stop.ending) false true (not (sym h.1.regular i) && K)) }
matrix_either true false K o y z q e f h = record { counted = f }
matrix_either false A K o y z q e f h = record { counted = e }

module _ (g : Given) (w₀ : List Float) (long : length w₀ ≡ needed_work g.setting.n g.setting.s) (of_state : length g.state ≡ g.setting.n) where
  abbrev n : ℕ
  n = g.setting.n

  abbrev s : ℕ
  s = g.setting.s

  -- the Jacobian, and whether the matrix and the state are finite
  abbrev pub J : List Float
  J = part (jacobian_at n) (n * n) w₀

  abbrev pub matrix_finite : Bool
  matrix_finite = all_finite (stage_matrix g.tableau g.setting.step n J)

  abbrev pub at_once : Bool
  at_once = eq (c_of g.tableau 0) 𝟎 && all_finite g.state

  -- the work has its length and the Jacobian
  pub record Has (w : List Float) : Type 0 where
    pub same_length : length w ≡ length w₀
    pub jacobian : part (jacobian_at n) (n * n) w ≡ J

  first_state : (w : List Float) → length w ≡ length w₀ → part (stage_state_at n) n (with_stage_state n g.tableau g.state 0 w) ≡ g.state
  unfolding stage_state plus_multiples needed_work
  first_state w l =
      state_written n s g.tableau w g.state 0 (part (stages_at n) (0 * n) w) (omega arith) refl ∙ table_own nan g.state n of_state

  -- the state of the first stage is the accepted one
  first_stage_counts : (o : Bool) (z : Scratch) → length z.work ≡ length w₀ → z.marks.counted ≡ full o false false true false
      → Plain (full o false false true at_once) (first_stage g z) × Regular (first_stage g z)
  unfolding first_stage on_work counting_solve
  first_stage_counts o z l e =
      let y = on_work (with_stage_state n g.tableau g.state 0) z in
      let v = on_work (λ w. puts w (rhs_stage_at n s 0) (component w (current_at n)) n) y in
      subst (λ (b : Bool). Plain (full o false false true (eq (c_of g.tableau 0) 𝟎 && b)) (first_stage g z) × Regular (first_stage g z))
      (ap all_finite (first_state z.work l))
      (first_either _ (eq (c_of g.tableau 0) 𝟎) o y _ _ e (subst (λ (c : Counted). Plain (counting_solve c) (solve_stage g 0 v)) e (solve_stage_plain g 0 v))
      (solve_stage_regular g 0 v)
      (subst (λ (c : Counted). Plain c (ask_stage g 0 y)) e (ask_stage_plain g 0 y))
      (ask_stage_regular g 0 y))

  -- matrix and first stage, by how it stops
  abbrev pub Factored : Bool → Stopped → Type 0
  Factored o r = Counts o false matrix_finite (matrix_finite && (not (singular r.stop.ending) && at_once)) r

  factor_counts : (o : Bool) (x : Scratch) → Has x.work → x.marks.counted ≡ first o → Factored o (factor g x)
  unfolding factor on_work on_marks counting counting_factorization needed_work
  factor_counts o x h e =
      let l = h.same_length in
      let y = on_work (with_matrix n g.tableau g.setting.step) x in
      let p = (elimination_in n y.pivots y.work).pivots in
      let z = on_marks (counting counting_factorization) (scratch y.marks (with_factors n y.pivots y.work) p) in
      let r = factor g x in
      let e' : z.marks.counted ≡ full o false false true false = ap counting_factorization e in
      subst (λ (b : Bool). Counts o false b (b && (not (singular r.stop.ending) && at_once)) r)
      (ap all_finite (matrix_written n s g.tableau x.work g.setting.step J (omega arith) h.jacobian))
      (matrix_either _ _ at_once o y z (first_stage g z) e e'
      (first_stage_counts o z (length_factors n _ _ ∙ length_matrix n g.tableau g.setting.step x.work ∙ l) e'))

  -- ---- all that is counted: the derivative is at hand or not, the last of the time partial came or not, a stage's derivative came or not

  module _ (o V : Bool) where
    abbrev pub reached : Bool → Bool → Bool
    reached D C = ((D && V) || C) && matrix_finite

    pub record Claim (D : Bool) (C : Stopped → Bool) (T : Bool) (r : Stopped) : Type 0 where
      pub counts : Counts o (D && not V) (reached D (C r)) (T || (reached D (C r) && (not (singular r.stop.ending) && at_once))) r

    -- nothing but the request
    nothing_claim : (r : Stopped) → Plain (first o) r → Claim false (λ r. false) false r
    nothing_claim r h = record { counts = plain_counts o false false false r h }
    -- the derivative is at hand

  derivative_claim : (o V : Bool) (a b : Stopped) → Factored o a → Plain (full o false true false false) b → Claim o V true (λ r. false) false (choose V a b)
  unfolding choose
  derivative_claim o true a b h p = record { counts = h }
  derivative_claim o false a b h p = record { counts = plain_counts o true false false b p }

  differentiate_claim : (o : Bool) (x : Scratch) → Has x.work → x.marks.counted ≡ first o → Claim o x.marks.memo.differentiation_valid true (λ r. false) false (differentiate g x)
  unfolding differentiate on_marks counting counting_jacobian
  differentiate_claim o x h e =
      derivative_claim o x.marks.memo.differentiation_valid _ _ (factor_counts o x h e)
      (subst (λ (c : Counted). Plain (counting_jacobian c) (ask_jacobian g (on_marks (counting counting_jacobian) x))) e (ask_jacobian_plain g (on_marks (counting counting_jacobian) x)))

  -- ---- the start

  start_either : (E dv V : Bool) (a b c : Stopped) → Plain (first true) a → Claim true V true (λ r. false) false b → Plain (first true) c
      → Claim true V (not E && dv) (λ r. false) false (choose E a (choose dv b c))
  unfolding choose
  start_either true dv V a b c p q t = nothing_claim true V a p
  start_either false true V a b c p q t = q
  start_either false false V a b c p q t = nothing_claim true V c t

  begun_has : (w : List Float) → length w ≡ length w₀ → part (jacobian_at n) (n * n) w ≡ J → Has (begun g w)
  unfolding begun needed_work
  begun_has w l e =
      let a = puts w (candidate_at n) (el g.state) n in
      let la : length a ≡ length w = length-puts w _ _ n in
      record {
        same_length = length-puts a _ _ n ∙ la ∙ l;
        jacobian =
            part_left a (error_at n) _ n (jacobian_at n) (n * n) nan (omega arith) (inr (omega arith))
            ∙ part_left w (candidate_at n) _ n (jacobian_at n) (n * n) nan (omega arith) (inr (omega arith))
            ∙ e;
      }

  pub start_claim : (memo : Memo) (p : List ℕ)
      → Claim true memo.differentiation_valid (not (eq g.setting.step 𝟎) && memo.derivative_valid) (λ r. false) false (start g (scratch (marked memo (first true)) w₀ p))
  unfolding start on_work evaluate of_derivative kind_of
  start_claim memo p =
      let y = on_work (begun g) (scratch (marked memo (first true)) w₀ p) in
      start_either (eq g.setting.step 𝟎) memo.derivative_valid memo.differentiation_valid _ _ _ (show_plain g y)
      (differentiate_claim true y (begun_has w₀ refl refl) refl)
      (ask_rhs_plain Derivative g.setting.time y refl)

  -- ---- a supply

  abbrev pub partial_in : Stopped → Bool
  partial_in r = all_finite (part (time_partial_at n) n r.work)

  -- what is supplied is finite or not
  taken : (V fin : Bool) (y : Scratch) (q : Stopped) (D : Bool) (C : Stopped → Bool) (T : Bool) → y.marks.counted ≡ first false → Claim false V D C T q
      → Claim false V (fin && D) (λ r. fin && C r) (fin && T) (provided fin NonFinite y q)
  unfolding provided choose refuse halt
  taken V true y q D C T e h = record { counts = h.counts }
  taken V false y q D C T e h = record { counts = record { counted = e } }

  fits : (at : ℕ) → at + n ≤ 8 * n → at + n ≤ length w₀
  unfolding needed_work
  fits at b = omega arith

  below : (w : List Float) (at : ℕ) (f : ℕ → Float) → at + n ≤ 8 * n → Has w → Has (puts w at f n)
  unfolding needed_work
  below w at f b h =
      let l = h.same_length in
      record {
        same_length = length-puts w at f n ∙ l;
        jacobian = part_left w at f n (jacobian_at n) (n * n) nan (omega arith) (inr b) ∙ h.jacobian;
      }

  -- the time partial is finite or not
  partial_either : (V P : Bool) (x : Scratch) (q : Stopped) → x.marks.counted ≡ first false → Factored false q → Claim false V false (λ r. P) false (provided P NonFinite x q)
  unfolding provided choose refuse halt
  partial_either V true x q e h = record { counts = h }
  partial_either V false x q e h = record { counts = record { counted = e } }

  -- what comes after it leaves it
  partial_left : (x : Scratch) → Has x.work → part (time_partial_at n) n (partial_done g x).work ≡ part (time_partial_at n) n x.work
  unfolding needed_work
  partial_left x h = let l = h.same_length in (partial_done_kept g x.work (omega arith) x (unchanged n x.work (omega arith))).partial

  partial_done_claim : (V : Bool) (x : Scratch) → Has x.work → x.marks.counted ≡ first false → Claim false V false partial_in false (partial_done g x)
  unfolding partial_done on_marks noting with_differentiation
  partial_done_claim V x h e =
      let q = partial_either V _ x _ e (factor_counts false (on_marks (noting with_differentiation) x) h e) in
      record {
        counts =
            (subst (λ (b : Bool). Claim false V false (λ r. b) false (partial_done g x)) (ap all_finite (sym (partial_left x h))) q).counts;
      }

  combine_claim : (V : Bool) (x : Scratch) → Has x.work → x.marks.counted ≡ first false → Claim false V false partial_in false (combine g x)
  unfolding combine on_work with_partial
  combine_claim V x h e = partial_done_claim V _ (below x.work (time_partial_at n) _ (omega arith) h) e

  probe_either : (V two : Bool) (a b : Stopped) → Plain (first false) a → Claim false V false partial_in false b → Claim false V false (λ r. not two && partial_in r) false (choose two a b)
  unfolding choose
  probe_either V true a b p h = record { counts = (nothing_claim false V a p).counts }
  probe_either V false a b p h = record { counts = h.counts }

  stage_claim : (V : Bool) (r : Stopped) → Plain (full false false false false true) r → Claim false V false (λ r. false) true r
  stage_claim V r p = record { counts = plain_counts false false false true r p }

  -- of each request
  abbrev pub Supplied : Bool → Bool → Bool → Ask → Stopped → Type 0
  Supplied V two fin a r = Claim false V (fin && is_derivative a) (λ r. fin && (is_last_of_partial two a && partial_in r)) (fin && is_stage a) r

  nothing_supplied : (V fin : Bool) (r : Stopped) → Plain (first false) r → Claim false V (fin && false) (λ r. fin && false) (fin && false) r
  nothing_supplied V true r p = record { counts = (nothing_claim false V r p).counts }
  nothing_supplied V false r p = record { counts = (nothing_claim false V r p).counts }

  partial_supplied : (V fin : Bool) (r : Stopped) → partial_in r ≡ fin → Claim false V false partial_in false r → Claim false V (fin && false) (λ r. fin && partial_in r) (fin && false) r
  partial_supplied V true r e h = record { counts = h.counts }
  partial_supplied V false r e h =
      record { counts = (subst (λ (b : Bool). Claim false V false (λ r. b) false r) e (record { counts = h.counts })).counts }

  module _ (memo : Memo) (p : List ℕ) (values : List Float) where
    abbrev x : Scratch
    x = scratch (marked memo (first false)) w₀ p

    abbrev V : Bool
    V = memo.differentiation_valid

    abbrev fin : Bool
    fin = all_finite values

    has : Has w₀
    has = record { same_length = refl; jacobian = refl }

    pub resume_claim : (a : Ask) → length values ≡ wanted n a → Supplied V memo.two_probes fin a (resume g a values x)
    unfolding resume written on_work on_marks noting with_derivative with_caches is_derivative is_last_of_partial is_stage wanted of_derivative kind_of counting_solve
    resume_claim Derivative l =
        let y = written g (current_at n) n values x in
        taken V fin y _ true (λ r. false) false refl
        (differentiate_claim false (on_marks (noting with_derivative) y) (below w₀ (current_at n) (el values) (omega arith) has) refl)
    resume_claim Jacobian l = nothing_supplied V fin _ (jacobian_done_plain g (written g (jacobian_at n) (n * n) values x))
    resume_claim TimePartial l =
        let y = written g (time_partial_at n) n values x in
        let h = below w₀ (time_partial_at n) (el values) (omega arith) has in
        let there : part (time_partial_at n) n y.work ≡ values = part_stored w₀ (time_partial_at n) values n nan l (fits (time_partial_at n) (omega arith)) in
        partial_supplied V fin _ (ap all_finite (partial_left y h ∙ there)) (partial_done_claim V y h refl)
    resume_claim FirstProbe l =
        let y = written g (time_partial_at n) n values x in
        taken V fin y _ false (λ r. not memo.two_probes && partial_in r) false refl
        (probe_either V memo.two_probes _ _ (ask_rhs_plain SecondProbe memo.second_probe y refl)
        (combine_claim V y (below w₀ (time_partial_at n) (el values) (omega arith) has) refl))
    resume_claim SecondProbe l =
        let y = written g (probe_rhs_at n) n values x in
        taken V fin y _ false partial_in false refl (combine_claim V y (below w₀ (probe_rhs_at n) (el values) (omega arith) has) refl)
    resume_claim (Column k) l =
        let y = written g (probe_rhs_at n) n values x in
        taken V fin y _ false (λ r. false) false refl (nothing_claim false V _ (next_column_plain g (suc k) _))
    resume_claim (Stage i) l =
        let y = written g (rhs_stage_at n s i) n values x in
        taken V fin y _ false (λ r. false) true refl (stage_claim V _ (solve_stage_plain g i y))
