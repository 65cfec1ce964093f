-- What `same_dimension` tells of three lengths. Assumes nothing.
use mathlib.Core.Path.{◌≡◌}
use Prim.Native.Nat.{ℕ, ◌≤◌}
use mathlib.Core.Bool.{Bool, false, not}
use lib.Dec.{eqb, leb}
use borrow.Author.Tests.{leb-true, eqb-true}
use Rattle.float.proofs.Cases.{told_yes, and_left, and_right}
use Rattle.stepping.specs.Dimension.{same_dimension}

pub record Sizes (n m k : ℕ) : Type 0 where
  pub most : n ≤ 32
  pub second : m ≡ n
  pub third : k ≡ n

pub sizes : (n m k : ℕ) {d : Bool} → d ≡ same_dimension n m k → not d ≡ false → Sizes n m k
unfolding same_dimension
sizes n m k e h =
    let h₂ = and_right (leb 1 n) _ (told_yes e h) in
    let h₃ = and_right (leb n 32) _ h₂ in
    record {
      most = leb-true n 32 (and_left (leb n 32) _ h₂);
      second = eqb-true m n (and_left (eqb m n) _ h₃);
      third = eqb-true k n (and_right (eqb m n) _ h₃);
    }
