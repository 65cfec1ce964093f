-- What raw factorize leaves where it succeeds; its answer does not depend on the pivots handed in, and every pivot is a row. Assumes nothing.
use Prim.Native.Nat.{ℕ, zero, suc, ◌*◌}
use native.Mathlib.Omega.{arith}
use mathlib.Core.Path.{◌≡◌, refl, ap, ◌∙◌}
use mathlib.Core.Bool.{Bool, true, false, cond}
use mathlib.Core.List.{List}
use lib.Dec.{eqb, ltb}
use lib.ListN.{length, get_or}
use lib.Ieee.{Float}
use borrow.Author.Tests.{lt-ltb, eqb-true}
use Rattle.float.specs.Operators.{𝟎}
use Rattle.float.proofs.Cases.{by}
use Rattle.vector.specs.Lists.{table, every}
use Rattle.vector.specs.Matrices.{entry}
use Rattle.vector.specs.Parts.{puts}
use Rattle.vector.proofs.Lists.{table_at, every_of}
use Rattle.vector.proofs.Matrices.{length-rows}
use Rattle.std.specs.Prelude.{Result, Ok, Err, ⊤}
use Rattle.stepping.specs.declared.Refusal.{Refusal}
use Rattle.stepping.specs.declared.Refusal.TheVariants.{Singular}
use Rattle.linear.specs.Elimination.{scale, threshold, unusable, eliminated, pivot_of, stepped, steps_done}
use Rattle.linear.specs.Calls.{Outcome, outcome, after, elimination_of, raw_of}
use Rattle.linear.proofs.Pivoting.{search_below}

pub length-eliminated : (n : ℕ) (a : List Float) (k : ℕ) → length a ≡ n * n → length (eliminated n a k) ≡ n * n
unfolding eliminated stepped
length-eliminated n a zero h = h
length-eliminated n a (suc k) h = length-rows _ n n

pub pivots_below : (n : ℕ) (a : List Float) → every n (λ k. ltb (get_or (table (pivot_of n a) n) k 0) n) ≡ true
pivots_below n a =
    every_of (λ k. ltb (get_or (table (pivot_of n a) n) k 0) n) n
    (λ k h. ap (λ (r : ℕ). ltb r n) (table_at 0 (pivot_of n a) n k h)
    ∙ lt-ltb (pivot_of n a k) n (search_below (entry n (eliminated n a k)) k n n h (omega arith)))

module _ (n : ℕ) (a : List Float) where
  pub raw_answer : (p q : List ℕ) → (raw_of n a p).answer ≡ (raw_of n a q).answer
  unfolding raw_of elimination_of
  raw_answer p q = by (unusable (scale a) 𝟎) (λ t. rw t) (λ t. rw t)

  -- where it succeeds, all steps are done
  pub record Succeeds (p : List ℕ) (o : Outcome) : Type 0 where
    pub matrix : o.matrix ≡ eliminated n a n
    pub pivots : o.pivots ≡ puts p 0 (pivot_of n a) n

  all_steps : (k : ℕ) (p : List ℕ) (b : Bool) → (b ≡ true → k ≡ n) → ◌≡◌ {A = Result ⊤ Refusal} (cond b (Ok tt) (Err Singular)) (Ok tt) → Succeeds p (after n a p k (cond b (Ok tt) (Err Singular)))
  all_steps k p true h e = record { matrix = ap (eliminated n a) (h refl); pivots = ap (puts p 0 (pivot_of n a)) (h refl) }
  all_steps k p false h e = cc

  pub raw_succeeds : (p : List ℕ) → (raw_of n a p).answer ≡ Ok tt → Succeeds p (raw_of n a p)
  unfolding raw_of elimination_of
  raw_succeeds p e = go (unusable (scale a) 𝟎) e
    where
      k : ℕ
      k = steps_done n (threshold n (scale a)) a n

      go : (b : Bool) → (cond b (outcome (Err Singular) a p) (elimination_of n (threshold n (scale a)) a p)).answer ≡ Ok tt
          → Succeeds p (cond b (outcome (Err Singular) a p) (elimination_of n (threshold n (scale a)) a p))
      go true e = cc
      go false e = all_steps k p (eqb k n) (eqb-true k n) e
