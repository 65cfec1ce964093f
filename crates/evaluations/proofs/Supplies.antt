-- What is supplied: where it is not finite, whatever was asked for; and what it is read back as. Assumes nothing.
use Prim.Native.Nat.{ℕ, ◌+◌, ◌*◌, ◌<◌, ◌≤◌}
use native.Mathlib.Omega.{arith}
use mathlib.Core.Path.{◌≡◌, refl, sym, ap, ◌∙◌}
use mathlib.Core.Bool.{false}
use mathlib.Core.List.{List, [], ◌∷◌}
use lib.ListN.{length}
use lib.Ieee.{Float, nan}
use borrow.Author.Tests.{not-true}
use Rattle.std.specs.Prelude.{Err}
use Rattle.vector.specs.Lists.{el, all_finite}
use Rattle.vector.specs.Parts.{part, puts}
use Rattle.vector.proofs.Parts.{part_stored}
use Rattle.stepping.specs.declared.Refusal.{Refusal}
use Rattle.stepping.specs.declared.Refusal.TheVariants.{NonFinite}
use Rattle.stepping.specs.Refusals.{first_of, finite_test}
use Rattle.stepping.proofs.Refusals.{stopped}
use Rattle.stages.specs.declared.work.Work.{Work}
use Rattle.stages.specs.Lent.{Becomes}
use Rattle.attempts.specs.declared.Memo.{Memo}
use Rattle.attempts.specs.declared.Given as code
use Rattle.attempts.specs.Marks.{Marks, with_caches}
use Rattle.stages.specs.Layout.{Room, PivotRows}
use Rattle.attempts.specs.declared.Setting.{Setting}
use Rattle.attempts.specs.declared.Ask.{Ask}
use Rattle.attempts.specs.declared.Ask.TheVariants.{Derivative, Jacobian, TimePartial, FirstProbe, SecondProbe, Column, Stage}
use Rattle.attempts.specs.Attempt.{Given, Scratch, Stopped, scratch, on_work, on_marks, refuse, choose, provided, partial_done, jacobian_done, written, resume, wanted, place}
use Rattle.attempts.specs.Calls.{Sizes, Answers, given_by, marked, halt_stop, moved_marks, moved_stop, nothing, MovesFrom}

pub read_back : (w values : List Float) (at n : ℕ) → length values ≡ n → at + n ≤ length w → part at n (puts w at (el values) n) ≡ values
read_back w values at n h l = part_stored w at values n nan h l

ended : {l l' : List Float} (x : Scratch) (s : Stopped) → l ≡ l' → all_finite l' ≡ false → provided (all_finite l) NonFinite x s ≡ refuse NonFinite x
unfolding provided choose
ended x s e h = rw (ap all_finite e ∙ h)

pub not_finite : (g : Given) (a : Ask) (values : List Float) (x : Scratch) → Room g.setting.n g.setting.s (length x.work) → length values ≡ wanted g.setting.n a → all_finite values ≡ false
    → resume g a values x ≡ refuse NonFinite (scratch x.marks (puts x.work (place g.setting.n g.setting.s a) (el values) (wanted g.setting.n a)) x.pivots)
unfolding resume written on_work jacobian_done partial_done wanted place
not_finite g Derivative values x r l h = ended _ _ refl h
not_finite g Jacobian values x r l h = ended _ _ (read_back x.work values (8 * g.setting.n) (g.setting.n * g.setting.n) l (omega (arith, r.needed))) h
not_finite g TimePartial values x r l h = ended _ _ (read_back x.work values (4 * g.setting.n) g.setting.n l (omega (arith, r.needed))) h
not_finite g FirstProbe values x r l h = ended _ _ refl h
not_finite g SecondProbe values x r l h = ended _ _ refl h
not_finite g (Column k) values x r l h = ended _ _ refl h
not_finite g (Stage i) values x r l h = ended _ _ refl h

-- a stage is solved only where each pivot is a row
pub rows : (g : Setting) (p : List ℕ) (i count : ℕ) → length p ≡ g.n → Answers g p (Stage i) count → (i < g.s) × PivotRows g.n p
rows g p i count h a = (a.stage i refl, record { count = h; within = a.within i refl })

same_refusal : {k k' : Refusal} (m : Marks) {w w' : List Float} (p : List ℕ) → k ≡ k' → w ≡ w' → refuse k (scratch m w p) ≡ refuse k' (scratch m w' p)
same_refusal m p e q = cc

-- what the code does where what is supplied is not finite
pub refused : (g : code.Given) (a : Ask) (values : List Float) (memo : Memo) (p : List ℕ) (old new : Work) {k : Refusal} → Sizes g old → length values ≡ wanted g.setting.n a
    → Becomes old new (λ l w. puts w (place l.n l.s a) (el values) (wanted l.n a)) → Err k ≡ first_of (finite_test values ∷ [])
    → MovesFrom memo (nothing (Err k)) old new p p (resume (given_by g) a values)
unfolding moved_stop moved_marks on_marks with_caches halt_stop
refused g a values memo p old new {k} z l b e =
    let t = stopped NonFinite (all_finite values) e refl in
    let r : Room g.setting.n g.setting.s (length old.cells.now) = rw (← z.components, ← z.stages) old.room in
    let cells : new.cells.now ≡ puts old.cells.now (place g.setting.n g.setting.s a) (el values) (wanted g.setting.n a) = rw (← z.components, ← z.stages) b.0 in
    record {
      stops = λ c. same_refusal (marked memo c) p t.1 cells ∙ sym (not_finite (given_by g) a values (scratch (marked memo c) old.cells.now p) r l (not-true _ t.0));
      same = b.1;
    }
