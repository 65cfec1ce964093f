-- How far the elimination gets, and what it leaves. Assumes nothing.
use Prim.Native.Nat.{ℕ, zero, suc, ◌+◌, ◌<◌, ◌≤◌}
use native.Mathlib.Nat.{zero-add}
use native.Mathlib.Numerals.{add-one}
use native.Mathlib.Omega.{arith}
use mathlib.Core.Path.{◌≡◌, refl, sym, ap, ◌∙◌}
use mathlib.Core.Bool.{Bool, true, false, cond}
use mathlib.Core.List.{List}
use lib.Dec.{eqb}
use lib.ListN.{set}
use lib.Ieee.{Float}
use borrow.Author.Tests.{eqb-true, eqb-false, eq-eqb, ne_eqb}
use Rattle.float.proofs.Cases.{by}
use Rattle.vector.specs.Parts.{puts}
use Rattle.vector.proofs.Stores.{puts_more}
use Rattle.vector.proofs.Loops.{puts_none}
use Rattle.std.specs.Prelude.{Result, Ok, Err, ⊤}
use Rattle.stepping.specs.declared.Refusal.{Refusal}
use Rattle.stepping.specs.declared.Refusal.TheVariants.{Singular}
use Rattle.linear.specs.Elimination.{unusable, pivot_row, stops, stepped, eliminated, pivot_of, pivot_magnitude, steps_done}
use Rattle.linear.specs.Calls.{outcome, after, elimination_of}

pub outcome_same : {r r' : Result ⊤ Refusal} {m m' : List Float} {p p' : List ℕ} → r ≡ r' → m ≡ m' → p ≡ p' → outcome r m p ≡ outcome r' m' p'
outcome_same a b c = λ i. record { answer = a i; matrix = b i; pivots = c i }

module _ (n : ℕ) (t : Float) (a : List Float) where
  abbrev Stops : ℕ → Bool
  Stops k = unusable (pivot_magnitude n a k) t

  pub none_done : steps_done n t a 0 ≡ 0
  unfolding steps_done
  none_done = refl

  pub done_more : (k : ℕ) → steps_done n t a k ≡ k → Stops k ≡ false → steps_done n t a (k + 1) ≡ k + 1
  unfolding steps_done
  done_more k e s = rw add-one (rw (e, s, eq-eqb k k refl))

  pub done_stop : (k j : ℕ) → steps_done n t a k ≡ k → Stops k ≡ true → k ≤ j → steps_done n t a j ≡ k
  unfolding steps_done
  done_stop k zero e s h = let z : 0 ≡ k = omega arith in ap (steps_done n t a) z ∙ e
  done_stop k (suc j) e s h =
      by (eqb k (suc j))
      (λ q. ap (steps_done n t a) (sym (eqb-true k (suc j) q)) ∙ e)
      (λ q. let r : steps_done n t a j ≡ k = done_stop k j e s (omega (arith, eqb-false k (suc j) q)) in
      rw r
      (by (eqb k j)
      (λ u. let z : Stops j ≡ true = ap Stops (sym (eqb-true k j u)) ∙ s in rw (u, z))
      (λ u. rw u)))

-- ---- a step of the code
pub none_eliminated : (n : ℕ) (a : List Float) → a ≡ eliminated n a 0
unfolding eliminated
none_eliminated n a = refl

pub put_more : (p : List ℕ) (f : ℕ → ℕ) (k : ℕ) {q : List ℕ} {v : ℕ} → q ≡ puts p 0 f k → v ≡ f k → set q k v ≡ puts p 0 f (k + 1)
put_more p f k {q} {v} e g = rw e (ap (λ (i : ℕ). set (puts p 0 f k) i v) (sym (zero-add k)) ∙ puts_more p 0 f k g)

-- what the step answers and leaves of the matrix that the steps before it left; j is n by another name
module _ (n : ℕ) (t : Float) (a : List Float) (k : ℕ) {j : ℕ} {m m' : List Float} {r : Result ℕ Refusal} (e : m ≡ eliminated n a k) (z : j ≡ n)
    (f : r ≡ cond (stops j t m k) (Err Singular) (Ok (pivot_row j m k))) (g : m' ≡ cond (stops j t m k) m (stepped j k (pivot_row j m k) m)) where
  judged : stops n t m k ≡ Stops n t a k
  judged = ap (λ (x : List Float). stops n t x k) e

  answered : (b : Bool) → stops n t m k ≡ b → r ≡ cond b (Err Singular) (Ok (pivot_row n m k))
  answered b u =
      f
      ∙ ap (λ (i : ℕ). cond (stops i t m k) (Err Singular) (Ok (pivot_row i m k))) z
      ∙ ap (λ (x : Bool). cond x (Err Singular) (Ok (pivot_row n m k))) u

  left_is : (b : Bool) → stops n t m k ≡ b → m' ≡ cond b m (stepped n k (pivot_row n m k) m)
  left_is b u =
      g
      ∙ ap (λ (i : ℕ). cond (stops i t m k) m (stepped i k (pivot_row i m k) m)) z
      ∙ ap (λ (x : Bool). cond x m (stepped n k (pivot_row n m k) m)) u

  -- it found no pivot
  pub record Refused (x : Refusal) : Type 0 where
    pub singular : x ≡ Singular
    pub stopped : Stops n t a k ≡ true
    pub kept : m' ≡ eliminated n a k

  pub step_refused : {x : Refusal} → r ≡ Err x → Refused x
  step_refused {x} h =
      by (stops n t m k)
      (λ u. let q = answered true u in record { singular = cc; stopped = sym judged ∙ u; kept = left_is true u ∙ e })
      (λ u. let q = answered false u in absurd (cc))

  -- it was done
  pub record Done (row : ℕ) : Type 0 where
    pub row_is : row ≡ pivot_of n a k
    pub matrix : m' ≡ eliminated n a (k + 1)
    pub counted : steps_done n t a k ≡ k → steps_done n t a (k + 1) ≡ k + 1

  pub step_done : {row : ℕ} → r ≡ Ok row → Done row
  unfolding eliminated
  step_done {row} h =
      by (stops n t m k)
      (λ u. let q = answered true u in absurd (cc))
      (λ u. let q = answered false u in
      let own : row ≡ pivot_row n m k = cc in
      record {
        row_is = own ∙ ap (λ (z : List Float). pivot_row n z k) e;
        matrix = rw add-one (left_is false u ∙ ap (λ (z : List Float). stepped n k (pivot_row n z k) z) e);
        counted = λ q. done_more n t a k q (sym judged ∙ u);
      })

-- ---- what is left, and the answer
module _ (n : ℕ) (t : Float) (a : List Float) (p : List ℕ) (k : ℕ) {m : List Float} {q : List ℕ} (e : m ≡ eliminated n a k) (f : q ≡ puts p 0 (pivot_of n a) k) where
  left : {r : Result ⊤ Refusal} → steps_done n t a n ≡ k → r ≡ cond (eqb k n) (Ok tt) (Err Singular) → outcome r m q ≡ elimination_of n t a p
  unfolding elimination_of
  left {r} g h = outcome_same h e f ∙ ap (λ (j : ℕ). after n a p j (cond (eqb j n) (Ok tt) (Err Singular))) (sym g)

  pub left_singular : steps_done n t a k ≡ k → unusable (pivot_magnitude n a k) t ≡ true → k < n → {x : Refusal} → x ≡ Singular → outcome (Err x) m q ≡ elimination_of n t a p
  left_singular g s h {x} z = left (done_stop n t a k n g s (omega arith)) (rw (ne_eqb k n (λ z. omega arith)) (ap Err z))

  pub left_factored : steps_done n t a k ≡ k → k ≡ n → outcome (Ok tt) m q ≡ elimination_of n t a p
  left_factored g h = left (ap (steps_done n t a) (sym h) ∙ g) (rw (eq-eqb k n h))

-- ---- how far the code is: k steps are done, and their pivots are listed
module _ (n : ℕ) (t : Float) (a : List Float) (p : List ℕ) where
  pub record Reached (k : ℕ) (m : List Float) (q : List ℕ) : Type 0 where
    pub matrix : m ≡ eliminated n a k
    pub pivots : q ≡ puts p 0 (pivot_of n a) k
    pub counted : steps_done n t a k ≡ k

  pub reached_none : Reached 0 a p
  reached_none = record { matrix = none_eliminated n a; pivots = puts_none p 0 (pivot_of n a); counted = none_done n t a }

  pub reached_all : (k : ℕ) {m : List Float} {q : List ℕ} → Reached k m q → k ≡ n → outcome (Ok tt) m q ≡ elimination_of n t a p
  reached_all k g h = left_factored n t a p k g.matrix g.pivots g.counted h

  -- by the step of the code
  module _ (k : ℕ) {j : ℕ} {m m' : List Float} {q : List ℕ} {r : Result ℕ Refusal} (g : Reached k m q) (z : j ≡ n)
      (f : r ≡ cond (stops j t m k) (Err Singular) (Ok (pivot_row j m k))) (h : m' ≡ cond (stops j t m k) m (stepped j k (pivot_row j m k) m)) where
    pub reached_more : {row : ℕ} → r ≡ Ok row → Reached (k + 1) m' (set q k row)
    reached_more e =
        let d = step_done n t a k g.matrix z f h e in
        record { matrix = d.matrix; pivots = put_more p (pivot_of n a) k g.pivots d.row_is; counted = d.counted g.counted }

    pub reached_stop : {x : Refusal} → r ≡ Err x → k < n → outcome (Err x) m' q ≡ elimination_of n t a p
    reached_stop e l = let d = step_refused n t a k g.matrix z f h e in left_singular n t a p k d.kept g.pivots g.counted d.stopped l d.singular
