-- What a reader tells is what the definitions answer. Assumes nothing.
use Prim.Native.Nat.{ℕ, zero, suc, min, ◌+◌, ◌*◌, ◌≤◌, ◌<◌}
use native.Mathlib.Omega.{arith}
use mathlib.Core.Path.{◌≡◌, refl, sym, ap, ◌∙◌}
use mathlib.Core.Bool.{Bool, true, false, not, cond}
use mathlib.Core.List.{List, [], ◌∷◌, ◌++◌}
use lib.Dec.{eqb}
use lib.Ieee.{Float, eq}
use lib.ListN.{length, take}
use lib.Seq.{take-take}
use borrow.Author.Tests.{eq-eqb, ne_eqb, ltb-true, not-false}
use Rattle.std.specs.Prelude.{Result, Ok, Err, ⊤}
use Rattle.std.proofs.Math.Option.{none, some}
use Rattle.float.specs.Operators.{𝟎}
use Rattle.float.proofs.Cases.{by, or_left}
use Rattle.vector.specs.Parts.{part}
use Rattle.vector.proofs.Matrices.{row_inside}
use Rattle.stepping.specs.declared.Refusal.{Refusal}
use Rattle.stepping.specs.declared.Refusal.TheVariants.{Dimension}
use Rattle.stepping.specs.Refusals.{Test, ◌when◌, first_of}
use Rattle.stepping.proofs.Refusals.{here, holds_later, later, passed, first_refused, all_passed, is_refused}
use Rattle.stepping.proofs.Refusals as laws
use Rattle.stages.specs.Layout.{needed_work, stages_at, stage_at, rhs_stages_at, rhs_stage_at}
use Rattle.attempts.specs.declared.Ask.{Ask}
use Rattle.attempts.specs.declared.Ask.TheVariants as ask
use Rattle.rosenbrock.specs.declared.RosenbrockStepper.{RosenbrockStepper}
use Rattle.refusals.specs.Requests.{ask_of}
use Rattle.refusals.specs.Answers.{Lent, lending, Answer, derivative, vector, request, told, kind_of, state_asked, request_of, shown_part}
use Rattle.refusals.specs.Tests.{fit_tests, open_test, candidate_test, lent_tests}
use Rattle.rosenbrock.specs.Calls.{Out, refusal, guarded}
use Rattle.rosenbrock.specs.Readers.{Query, the_request, no_stage, query_tests, optional, reply, answered, read_of}
use Rattle.rosenbrock.specs.Stepper.{read, called, needed, trimmed, result, stepped}
use Rattle.rosenbrock.specs.Outcomes.{system_of}
use Rattle.rosenbrock.proofs.Guards.{guarded_passed}
use Rattle.refusals.proofs.Fitting.{Shape}
use Rattle.rosenbrock.proofs.Memory.{cut}
use Rattle.refusals.proofs.Tested.{fitted, vectors_in}
use Rattle.readers.specs.declared.Told.{Told}
use Rattle.readers.specs.declared.Told.TheVariants.{Part, Absent}
use Rattle.readers.specs.Telling.{kind_by, reply_of, tells, asked_by}

-- a part of the needed work is that of the work
pub part_cut : {A : Type 0} (at n k : ℕ) (w : List A) → at + n ≤ k → part at n (take k w) ≡ part at n w
part_cut zero n k w h = take-take n k w (omega arith)
part_cut (suc at) n zero w h = absurd (omega arith)
part_cut (suc at) n (suc k) [] h = refl
part_cut (suc at) n (suc k) (x ∷ w) h = part_cut at n k w (omega arith)

-- where all tests pass the last ones do
all_told : (xs ys : List Test) → first_of (xs ++ ys) ≡ Ok tt → first_of ys ≡ Ok tt
unfolding first_of
all_told [] ys e = e
all_told ((r when true) ∷ xs) ys e = absurd cc
all_told ((r when false) ∷ xs) ys e = all_told xs ys e

-- the places of the matrices in the needed work
module _ (n s : ℕ) where
  pub jacobian_in : 8 * n + n * n ≤ needed_work n s
  unfolding needed_work
  jacobian_in = omega arith

  pub stages_in : stages_at n + s * n ≤ needed_work n s
  unfolding needed_work
  stages_in = omega arith

  pub rhs_stages_in : rhs_stages_at n s + s * n ≤ needed_work n s
  unfolding needed_work
  rhs_stages_in = omega arith

  module _ (i : ℕ) (h : i < s) where
    pub stage_in : stage_at n i + n ≤ needed_work n s
    unfolding needed_work
    stage_in = omega (arith, row_inside n s i h)

    pub rhs_stage_in : rhs_stage_at n s i + n ≤ needed_work n s
    unfolding needed_work
    rhs_stage_in = omega (arith, row_inside n s i h)

module _ (y : RosenbrockStepper) (state work : List Float) (pivots : List ℕ) where
  abbrev m : Lent
  m = lending state work pivots

  abbrev n : ℕ
  n = y.fixed.n

  abbrev need : ℕ
  need = needed_work y.fixed.n y.fixed.s

  abbrev cut_m : Lent
  cut_m = trimmed (needed y.fixed) m

  abbrev answer : Query → Answer
  answer q = (stepped (read q) (system_of y state work pivots)).answer

  abbrev lent : List Test
  lent = lent_tests y.fixed y.progress (length state) (length work) (length pivots)

  module _ (q : Query) {k : Result ⊤ Refusal} (e : k ≡ first_of (lent ++ query_tests q y.fixed y.progress)) where
    tested : k ≡ first_of (fit_tests y.fixed y.progress cut_m ++ query_tests q y.fixed y.progress)
    tested = e ∙ cut y.fixed y.progress state work pivots _

    pub read_refused : {r : Refusal} → k ≡ Err r → tells (Err r) m ≡ answer q
    unfolding stepped result called read_of guarded refusal tells
    read_refused h = ap (λ (o : Out). o.answer) (is_refused (refusal y.progress cut_m) _ (sym tested ∙ h))

    module _ (z : k ≡ Ok tt) where
      pub read_told : (t : Told) → reply_of t m ≡ reply q y.fixed y.progress cut_m → tells (Ok t) m ≡ answer q
      unfolding stepped result called read_of answered tells
      read_told t h = ap told h ∙ ap (λ (o : Out). o.answer) (sym (guarded_passed _ y.progress cut_m _ (sym tested ∙ z)))

      pub read_shape : Shape y.fixed.n y.fixed.s (length state) (min need (length work)) (length pivots)
      read_shape = fitted y.fixed y.progress (length state) (length work) (length pivots) _ (sym e ∙ z)

      pub read_part : (at count : ℕ) → at + count ≤ need → reply q y.fixed y.progress cut_m ≡ vector (part at count cut_m.work) → tells (Ok (Part at count)) m ≡ answer q
      unfolding reply_of trimmed needed
      read_part at count h r = read_told (Part at count) (ap (λ (l : List Float). vector l) (sym (part_cut at count need work h)) ∙ sym r)

      pub read_shown : (at count : ℕ) {t : Told} {a c : ℕ} → a ≡ at → c ≡ count → t ≡ cond (eq y.progress.step 𝟎) (Part 0 0) (Part a c) → at + count ≤ need
          → reply q y.fixed y.progress cut_m ≡ vector (shown_part at count y.progress cut_m) → tells (Ok t) m ≡ answer q
      unfolding shown_part reply_of
      read_shown at count {t} {a} {c} p v g h u =
          by (eq y.progress.step 𝟎)
          (λ (b : eq y.progress.step 𝟎 ≡ true).
          let g' : t ≡ Part 0 0 = simp b at g in
          let u' : reply q y.fixed y.progress cut_m ≡ vector [] = simp b at u in
          ap (λ (x : Told). tells (Ok x) m) g' ∙ read_told (Part 0 0) (sym u'))
          (λ (b : eq y.progress.step 𝟎 ≡ false).
          let g' : t ≡ Part a c = simp b at g in
          let u' : reply q y.fixed y.progress cut_m ≡ vector (part at count cut_m.work) = simp b at u in
          ap (λ (x : Told). tells (Ok x) m) g' ∙ (λ i. tells (Ok (Part (p i) (v i))) m) ∙ read_part at count h u')

      pub read_cached : (at count : ℕ) (valid : Bool) {t : Told} → t ≡ cond valid (Part at count) Absent → at + count ≤ need
          → reply q y.fixed y.progress cut_m ≡ optional (cond valid (some (part at count cut_m.work)) none) → tells (Ok t) m ≡ answer q
      unfolding optional reply_of
      read_cached at count true g h u = ap (λ (x : Told). tells (Ok x) m) g ∙ read_part at count h u
      read_cached at count false g h u = ap (λ (x : Told). tells (Ok x) m) g ∙ read_told Absent (sym u)

  -- ---- the request

  asked_reply : (a : Ask) (time : Float) → reply_of (asked_by n a time) m ≡ request (record { kind = kind_of a; time = time; state = state_asked y.fixed cut_m a })
  unfolding reply_of asked_by kind_by kind_of state_asked trimmed needed
  asked_reply ask.Derivative time = refl
  asked_reply ask.Jacobian time = refl
  asked_reply ask.TimePartial time = refl
  asked_reply ask.FirstProbe time = refl
  asked_reply ask.SecondProbe time = refl
  asked_reply (ask.Column k) time =
      ap (λ (l : List Float). request (record { kind = derivative; time = time; state = l }))
      (sym (part_cut (5 * n) n need work (omega (arith, vectors_in n y.fixed.s))))
  asked_reply (ask.Stage i) time =
      ap (λ (l : List Float). request (record { kind = derivative; time = time; state = l }))
      (sym (part_cut (2 * n) n need work (omega (arith, vectors_in n y.fixed.s))))

  module _ {k : Result ⊤ Refusal} (e : k ≡ first_of (lent ++ query_tests the_request y.fixed y.progress)) (z : k ≡ Ok tt) where
    pub read_asked : {a : Ask} {t : Told} → ask_of y.progress.request y.progress.stage ≡ a → t ≡ asked_by n a y.progress.memo.request_time → tells (Ok t) m ≡ answer the_request
    unfolding reply request_of
    read_asked {a} q h =
        ap (λ (x : Told). tells (Ok x) m) (h ∙ ap (λ (b : Ask). asked_by n b y.progress.memo.request_time) (sym q))
        ∙ read_told the_request e z (asked_by n (ask_of y.progress.request y.progress.stage) y.progress.memo.request_time) (asked_reply (ask_of y.progress.request y.progress.stage) y.progress.memo.request_time)

  -- ---- a stage by its number

  module _ (i : ℕ) {k : Result ⊤ Refusal} (e : k ≡ first_of (lent ++ (open_test y.progress ∷ candidate_test y.progress ∷ (Dimension when no_stage y.fixed y.progress i) ∷ []))) where
    pub is_stage : k ≡ Ok tt → i < y.fixed.s
    unfolding no_stage
    is_stage z =
        let t = all_told (lent ++ (open_test y.progress ∷ candidate_test y.progress ∷ [])) ((Dimension when no_stage y.fixed y.progress i) ∷ []) (sym e ∙ z) in
        ltb-true i y.fixed.s (not-false _ (or_left _ _ (passed Dimension _ [] t).0))

  -- ---- a copy

  module _ (count : ℕ) {k : Result ⊤ Refusal} (e : k ≡ first_of (lent ++ (open_test y.progress ∷ []))) where
    abbrev copy_tests : List Test
    copy_tests = lent ++ (open_test y.progress ∷ (Dimension when not (eqb count n)) ∷ [])

    pub not_copied : {r : Refusal} → k ≡ Err r → first_of copy_tests ≡ Err r
    not_copied h = first_refused (lent ++ (open_test y.progress ∷ [])) ((Dimension when not (eqb count n)) ∷ []) (sym e ∙ h)

    module _ (z : k ≡ Ok tt) where
      after_open : first_of copy_tests ≡ first_of ((Dimension when not (eqb count n)) ∷ [])
      after_open = all_passed (lent ++ (open_test y.progress ∷ [])) ((Dimension when not (eqb count n)) ∷ []) (sym e ∙ z)

      pub other_length : (count ≡ n → ⊥) → first_of copy_tests ≡ Err Dimension
      other_length h = after_open ∙ here Dimension [] (ap not (ne_eqb count n h))

      pub its_length : count ≡ n → first_of copy_tests ≡ Ok tt
      its_length h = after_open ∙ holds_later Dimension [] (eq-eqb count n h) laws.none

      pub as_long : count ≡ n → count ≡ length state
      as_long h = h ∙ sym (fitted y.fixed y.progress (length state) (length work) (length pivots) _ (sym e ∙ z)).of_state
