-- An elimination leaves as many pivots as there were, whatever it does. Assumes nothing.
use Prim.Native.Nat.{ℕ}
use mathlib.Core.Path.{◌≡◌, refl}
use mathlib.Core.Bool.{Bool, true, false, cond}
use mathlib.Core.List.{List}
use lib.ListN.{length}
use lib.Ieee.{Float}
use Rattle.float.specs.Operators.{𝟎}
use Rattle.vector.proofs.Stores.{length-puts}
use Rattle.linear.specs.Elimination.{scale, threshold, unusable, pivot_of, steps_done}
use Rattle.linear.specs.Calls.{Outcome, elimination_of, raw_of}

elimination_pivots : (n : ℕ) (t : Float) (a : List Float) (p : List ℕ) → length (elimination_of n t a p).pivots ≡ length p
unfolding elimination_of
elimination_pivots n t a p = length-puts p 0 (pivot_of n a) (steps_done n t a n)

one_of : (b : Bool) (k : ℕ) (x y : Outcome) → length x.pivots ≡ k → length y.pivots ≡ k → length (cond b x y).pivots ≡ k
one_of true k x y e h = e
one_of false k x y e h = h

pub raw_pivots : (n : ℕ) (a : List Float) (p : List ℕ) → length (raw_of n a p).pivots ≡ length p
unfolding raw_of
raw_pivots n a p = one_of (unusable (scale a) 𝟎) _ _ _ refl (elimination_pivots n (threshold n (scale a)) a p)
