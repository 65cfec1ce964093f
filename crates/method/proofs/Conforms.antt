-- A stop of an open attempt against a list of evaluations and tests: one law for each way in which the attempt goes on. Assumes nothing.
use Prim.Native.Nat.{ℕ}
use mathlib.Core.Path.{◌≡◌, refl, sym, ap, ◌∙◌, subst}
use mathlib.Core.Bool.{Bool, true, false, not, cond}
use mathlib.Core.List.{List, [], ◌∷◌, ◌++◌}
use lib.Dec.{eqb}
use lib.ListN.{length}
use lib.Ieee.{Float, eq}
use Rattle.float.specs.Operators.{𝟎}
use borrow.Author.Tests.{eq-eqb}
use Rattle.std.specs.Prelude.{Ok}
use Rattle.stepping.specs.declared.Refusal.{Refusal}
use Rattle.stepping.specs.Refusals.{◌when◌, first_of}
use Rattle.stepping.proofs.Refusals.{later, none, holds_later, all_passed, is_answered}
use Rattle.tableau.specs.File.{tableau_of}
use Rattle.stages.specs.Layout.{needed_work}
use Rattle.attempts.specs.declared.Ask.{Ask}
use Rattle.attempts.specs.declared.Memo.{Memo}
use Rattle.attempts.specs.Marks.{nothing_counted, with_request_time, counting, noting}
use Rattle.attempts.specs.Attempt.{Asks, Given, Scratch, scratch, Stopped, on_marks, halt, refuse, ask, ask_rhs, choose, provided, resume, wanted}
use Rattle.attempts.proofs.Requests.{AskInRange}
use Rattle.refusals.specs.declared.Fixed.{Fixed}
use Rattle.refusals.specs.declared.Progress.{Progress}
use Rattle.refusals.specs.Requests.{ask_of, ask_number, ask_stage, request_after, stage_after}
use Rattle.refusals.specs.Answers.{Lent, lending, kind_of, state_asked, request_of, Answer, refused, asked, shown, answer_of}
use Rattle.refusals.specs.Tests.{pivots_unfit, file_tests, supply_tests}
use Rattle.rosenbrock.specs.Calls.{Out, refusal, guarded, given_by, scratch_by, progress_after, settle, supply_of}
use Rattle.refusals.proofs.Requests.{read_back, asked_open, fits_after}
use Rattle.refusals.proofs.Fitting.{LentShape, Fits, fits_tests}
use Rattle.method.specs.Step.{Answers, Attempted, Evaluated}
use Rattle.method.specs.Schedule.{Item, evaluate, test}
use Rattle.method.specs.Conversation.{step_view}

-- the step of an open attempt
abbrev pub step_of : Fixed → List ℕ → Answers → Progress → Lent → Attempted
step_of fx file answer x m =
    record {
      answer = answer;
      tableau = tableau_of file;
      policy = fx.policy;
      n = fx.n;
      t = x.time;
      h = x.step;
      y = m.state;
      host_jacobian = x.host_jacobian;
      host_time_partial = x.host_time_partial;
    }

-- each answer has as many values as are wanted
abbrev pub Long : ℕ → Answers → Type 0
Long n answer = (a : Ask) (t : Float) (z : List Float) → length (answer a t z) ≡ wanted n a

-- what an attempt finds with the record and the file that it opens with, and what is answered
pub record Ready (fx : Fixed) (file : List ℕ) (answer : Answers) (m : Lent) : Type 0 where
  pub shape : LentShape fx m
  pub file_passed : first_of (file_tests fx.s file) ≡ Ok tt
  pub long : Long fx.n answer

-- a request that the next supply may answer
pub record Answerable (fx : Fixed) (sc : Scratch) (a : Ask) : Type 0 where
  pub work : length sc.work ≡ needed_work fx.n fx.s
  pub pivots : length sc.pivots ≡ fx.n
  pub range : AskInRange fx.n fx.s a
  pub rows : pivots_unfit fx.n sc.pivots a ≡ false

-- what the supply after a request for the time t finds
abbrev pub supplied : Float → Scratch → Scratch
supplied t sc = scratch (record { memo = with_request_time t sc.marks.memo; counted = nothing_counted }) sc.work sc.pivots

-- a supply of as many values as are wanted passes its tests
module _ (fx : Fixed) (file : List ℕ) (answer : Answers) (x : Progress) (m : Lent) (ready : Ready fx file answer m) (sc : Scratch) (memo : Memo) (a : Ask)
    (fit : Answerable fx sc a) (values : List Float) (long : length values ≡ wanted fx.n a) where
  abbrev Then : Progress
  Then = progress_after x memo (ask_number a) (ask_stage a)

  abbrev There : Lent
  There = lending m.state sc.work sc.pivots

  fits : Fits fx Then There
  unfolding progress_after request_after stage_after
  fits =
      let shape : LentShape fx There = rw (fit.work ∙ sym ready.shape.of_work, fit.pivots ∙ sym ready.shape.of_pivots) ready.shape in
      record { shape = shape; request = fits_after fx.n fx.s (Asks a) fit.range }

  supply_passes : first_of (supply_tests fx file values Then There) ≡ Ok tt
  unfolding progress_after
  supply_passes =
      let wants : eqb (length values) (wanted fx.n (ask_of (ask_number a) (ask_stage a))) ≡ true =
      eq-eqb _ _ (long ∙ ap (wanted fx.n) (sym (read_back a))) in
      all_passed _ _ (fits_tests fx Then There fits)
      ∙ all_passed (file_tests fx.s file) _ ready.file_passed
      ∙ holds_later _ _ (asked_open a) (holds_later _ _ wants (later _ _ (ap (pivots_unfit fx.n sc.pivots) (read_back a) ∙ fit.rows) none))

  resumed : settle fx x m (resume (given_by fx file x m) a values (scratch (record { memo = memo; counted = nothing_counted }) sc.work sc.pivots))
      ≡ supply_of fx file values Then There
  unfolding supply_of guarded settle given_by scratch_by progress_after
  resumed =
      is_answered (refusal Then There) supply_passes
      (ap (λ (b : Ask). settle fx x m (resume (given_by fx file x m) b values (scratch (record { memo = memo; counted = nothing_counted }) sc.work sc.pivots))) (sym (read_back a)))

-- ---- what is asked after a call, and answered

-- after a call that left `out` the ask a stands, at the time t and the state z
pub record Awaits (fx : Fixed) (a : Ask) (t : Float) (z : List Float) (out : Out) : Type 0 where
  pub asks : out.answer ≡ asked (record { kind = kind_of a; time = t; state = z })
  pub number : out.progress.request ≡ ask_number a
  pub index : out.progress.stage ≡ ask_stage a
  pub fits : Fits fx out.progress out.lent

-- The items are gone through after a call that left `out`: each ask is answered, until a test holds. Where none does, the last answer is `last`.
unfoldable pub Talks : Fixed → List ℕ → Answers → Answer → List Item → Out → Type 0
Talks fx file answer last [] out = out.answer ≡ last
Talks fx file answer last (evaluate a t z ∷ items) out =
    Awaits fx a t z out × Talks fx file answer last items (supply_of fx file (answer a t z) out.progress out.lent)
Talks fx file answer last (test (k when true) ∷ items) out = out.answer ≡ refused k
Talks fx file answer last (test (k when false) ∷ items) out = Talks fx file answer last items out

-- an attempt that is open, with what its requests are answered and the evaluations of its step
pub record Open : Type 0 where
  pub fx : Fixed
  pub file : List ℕ
  pub answer : Answers
  pub x : Progress
  pub m : Lent
  pub e : Evaluated
  pub ready : Ready fx file answer m
  pub moves : eq x.step 𝟎 ≡ false

abbrev pub step_in : Open → Attempted
step_in o = step_of o.fx o.file o.answer o.x o.m

abbrev pub given_in : Open → Given
given_in o = given_by o.fx o.file o.x o.m

-- after a stop the items are gone through
pub record Conforms (o : Open) (items : List Item) (r : Stopped) : Type 0 where
  pub talks : Talks o.fx o.file o.answer (shown (step_view (step_in o) o.x.end o.e)) items (settle o.fx o.x o.m r)

module _ {o : Open} where
  pub stops : {k : Refusal} {items : List Item} (sc : Scratch) → Conforms o (test (k when true) ∷ items) (refuse k sc)
  unfolding Talks refuse halt settle answer_of
  stops sc = record { talks = refl }

  -- a test that is passed, or ends the attempt
  module _ {k : Refusal} {r : Stopped} {items : List Item} (sc : Scratch) where
    by_test : (b : Bool) → (b ≡ true → Conforms o items r) → Conforms o (test (k when not b) ∷ items) (provided b k sc r)
    unfolding Talks provided choose
    by_test true h = record { talks = (h refl).talks }
    by_test false h = stops sc

    pub goes_on : {ok b : Bool} → ok ≡ b → (b ≡ true → Conforms o items r) → Conforms o (test (k when not b) ∷ items) (provided ok k sc r)
    goes_on {ok} {b} q h = subst (λ (c : Bool). Conforms o (test (k when not b) ∷ items) (provided c k sc r)) (sym q) (by_test b h)

    pub goes_on_unless : {b : Bool} → (b ≡ false → Conforms o items r) → Conforms o (test (k when b) ∷ items) (provided (not b) k sc r)
    unfolding Talks provided choose
    goes_on_unless {b = true} h = stops sc
    goes_on_unless {b = false} h = record { talks = (h refl).talks }

  -- a choice between items
  pub chooses : (us vs items : List Item) {b : Bool} {q r : Stopped} → (b ≡ true → Conforms o (us ++ items) q) → (b ≡ false → Conforms o (vs ++ items) r)
      → Conforms o (cond b us vs ++ items) (choose b q r)
  unfolding choose
  chooses us vs items {b = true} h k = h refl
  chooses us vs items {b = false} h k = k refl

  -- a choice that the items do not show
  module _ {b : Bool} {items : List Item} where
    pub chosen : (r : Stopped) {q : Stopped} → b ≡ true → Conforms o items q → Conforms o items (choose b q r)
    unfolding choose
    chosen r {q} t h = subst (λ (c : Bool). Conforms o items (choose c q r)) (sym t) h

    pub not_chosen : (q : Stopped) {r : Stopped} → b ≡ false → Conforms o items r → Conforms o items (choose b q r)
    unfolding choose
    not_chosen q {r} t h = subst (λ (c : Bool). Conforms o items (choose c q r)) (sym t) h

  -- a request, answered: z is the state at which it asks
  module _ {a : Ask} {t : Float} {items : List Item} {z : List Float} where
    pub asks : {sc : Scratch} → state_asked o.fx (lending o.m.state sc.work sc.pivots) a ≡ z → Answerable o.fx sc a
        → Conforms o items (resume (given_in o) a (o.answer a t z) (supplied t sc))
        → Conforms o (evaluate a t z ∷ items) (ask a t sc)
    unfolding Talks ask halt on_marks noting with_request_time settle answer_of request_of request_after stage_after progress_after
    asks {sc} state fit then =
        let memo = with_request_time t sc.marks.memo in
        let long = o.ready.long a t z in
        record {
          talks = (
            record {
              asks = ap (λ (l : List Float). asked (record { kind = kind_of a; time = t; state = l })) state;
              number = refl;
              index = refl;
              fits = fits o.fx o.file o.answer o.x o.m o.ready sc memo a fit (o.answer a t z) long;
            },
            subst (λ (q : Out). Talks o.fx o.file o.answer (shown (step_view (step_in o) o.x.end o.e)) items q)
                (resumed o.fx o.file o.answer o.x o.m o.ready sc memo a fit (o.answer a t z) long)
                then.talks,
          );
        }

    pub asks_rhs : {sc : Scratch} → state_asked o.fx (lending o.m.state sc.work sc.pivots) a ≡ z → Answerable o.fx sc a
        → Conforms o items (resume (given_in o) a (o.answer a t z) (supplied t sc))
        → Conforms o (evaluate a t z ∷ items) (ask_rhs a t sc)
    unfolding ask_rhs on_marks counting
    asks_rhs state fit then = asks state (record { work = fit.work; pivots = fit.pivots; range = fit.range; rows = fit.rows }) then
