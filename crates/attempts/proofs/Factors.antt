-- What the elimination of the matrix of the stages answers. Assumes nothing.
use Prim.Native.Nat.{ℕ, ◌<◌}
use mathlib.Core.Path.{◌≡◌, sym, ap, ◌∙◌, subst}
use mathlib.Core.List.{List}
use lib.ListN.{length, get_or}
use lib.Dec.{ltb, eqb}
use lib.Ieee.{Float}
use borrow.Author.Tests.{ltb-true}
use Rattle.std.specs.Prelude.{false, Ok, Err, is_ok}
use Rattle.float.specs.Operators.{𝟎}
use Rattle.float.proofs.Cases.{by}
use Rattle.vector.specs.Lists.{table}
use Rattle.vector.proofs.Lists.{length-table, every_at}
use Rattle.vector.proofs.Parts.{puts_all}
use Rattle.stepping.specs.declared.Refusal.TheVariants.{Singular}
use Rattle.linear.specs.Elimination.{scale, threshold, unusable, pivot_of, steps_done}
use Rattle.linear.specs.Calls.{elimination_of, raw_of}
use Rattle.linear.proofs.Outcomes.{pivots_below, raw_succeeds}
use Rattle.stages.specs.Layout.{PivotRows}

-- where it fails, the matrix is singular
pub singular : (n : ℕ) (a : List Float) (p : List ℕ) → is_ok (raw_of n a p).answer ≡ false → (raw_of n a p).answer ≡ Err Singular
unfolding raw_of elimination_of
singular n a p e = by (unusable (scale a) 𝟎) (λ t. simp t) (λ t. by (eqb (steps_done n (threshold n (scale a)) a n) n) (λ u. let q = simp (t, u) at e in cc) (λ u. simp (t, u)))

-- where it succeeds, each pivot is a row
pub pivot_rows : (n : ℕ) (a : List Float) (p : List ℕ) → length p ≡ n → (raw_of n a p).answer ≡ Ok tt → PivotRows n (raw_of n a p).pivots
pivot_rows n a p c e =
    let t : (raw_of n a p).pivots ≡ table (pivot_of n a) n = (raw_succeeds n a p e).pivots ∙ puts_all p (pivot_of n a) n 0 c in
    record {
      count = ap length t ∙ length-table (pivot_of n a) n;
      within = λ k b. subst (λ (x : List ℕ). get_or x k 0 < n) (sym t) (ltb-true _ n (every_at (λ k. ltb (get_or (table (pivot_of n a) n) k 0) n) n k (pivots_below n a) b));
    }
