-- Sizes and pivots that passed their tests, and the unknowns from what the parts of a solve leave. Assumes nothing.
use Prim.Native.Nat.{ℕ, ◌*◌, ◌<◌, ◌≤◌}
use mathlib.Core.Path.{◌≡◌, sym, ap, ◌∙◌}
use mathlib.Core.Bool.{Bool, true, cond, ◌&&◌}
use mathlib.Core.List.{List}
use lib.Dec.{ltb, leb, eqb}
use lib.ListN.{length, get_or}
use lib.Ieee.{Float}
use borrow.Author.Tests.{ltb-true, leb-true, eqb-true, eq-eqb}
use Rattle.float.proofs.Cases.{by, and_left, and_right}
use Rattle.std.specs.Prelude.{Ok, Err}
use Rattle.stepping.specs.declared.Refusal.TheVariants.{PivotRange}
use Rattle.stepping.specs.Refusals.{first_of, unless_refused}
use Rattle.vector.specs.Lists.{el, every}
use Rattle.vector.proofs.Lists.{every_at}
use Rattle.linear.specs.Substitution.{lower, upper, interchanges, forward_substitution, back_substitution, solution}
use Rattle.linear.specs.Calls.{square, Solvable, solved, solve_of}

-- ---- sizes that passed their tests
pub record Sizes (n : ℕ) (m : List Float) (p : List ℕ) : Type 0 where
  pub some : 0 < n
  pub small : n ≤ 32
  pub matrix : length m ≡ n * n
  pub pivots : length p ≡ n

pub sizes : (n : ℕ) (m : List Float) (p : List ℕ) → square n m p ≡ true → Sizes n m p
unfolding square
sizes n m p e =
    let A = ltb 0 n in
    let B = leb n 32 in
    let C = eqb (length m) (n * n) in
    let D = eqb (length p) n in
    let bcd = and_right A (B && (C && D)) e in
    let cd = and_right B (C && D) bcd in
    record {
      some = ltb-true 0 n (and_left A (B && (C && D)) e);
      small = leb-true n 32 (and_left B (C && D) bcd);
      matrix = eqb-true (length m) (n * n) (and_left C D cd);
      pivots = eqb-true (length p) n (and_right C D cd);
    }

-- ---- solve
-- the unknowns, from what the three parts of the call left
pub solution_is : (n : ℕ) (f : List Float) (p : List ℕ) (b : List Float) {x y z : List Float} → x ≡ interchanges p b n
    → y ≡ forward_substitution (lower n f) (el x) n → z ≡ back_substitution n (upper n f) (el y) n → z ≡ solution n f p b
unfolding solution
solution_is n f p b e g h =
    h
    ∙ ap (λ (w : List Float). back_substitution n (upper n f) (el w) n)
    (g ∙ ap (λ (w : List Float). forward_substitution (lower n f) (el w) n) e)

-- sizes and pivots that passed their tests
pub solvable : (n : ℕ) (f : List Float) (p : List ℕ) (b : List Float) → square n f p ≡ true → length b ≡ n
    → every (length p) (λ k. ltb (get_or p k 0) n) ≡ true → Solvable n f p b
solvable n f p b h g e =
    let s = sizes n f p h in
    let w : every n (λ k. ltb (get_or p k 0) n) ≡ true = ap (λ (k : ℕ). every k (λ j. ltb (get_or p j 0) n)) (sym s.pivots) ∙ e in
    record {
      some = s.some;
      small = s.small;
      factors = s.matrix;
      pivots = s.pivots;
      rhs = g;
      within = λ k q. ltb-true (get_or p k 0) n (every_at (λ j. ltb (get_or p j 0) n) n k w q);
    }

-- what a solve whose sizes fit answers, by the test of its pivots
pub solve_sized : (n : ℕ) (f : List Float) (p : List ℕ) (b : List Float) {r : Bool} → square n f p ≡ true → length b ≡ n
    → r ≡ every (length p) (λ k. ltb (get_or p k 0) n) → cond r (solved (Ok tt) (solution n f p b)) (solved (Err PivotRange) b) ≡ solve_of n f p b
unfolding solve_of first_of unless_refused
solve_sized n f p b {r} h g e =
    let w : every n (λ k. ltb (get_or p k 0) n) ≡ r = ap (λ (k : ℕ). every k (λ j. ltb (get_or p j 0) n)) (sym (sizes n f p h).pivots) ∙ sym e in
    rw (h, eq-eqb (length b) n g, w) (by r (λ t. rw t) (λ t. rw t))
