-- The order of floats: what lies below does not lie above, nor is it equal. Assumes nothing.
use mathlib.Core.Path.{◌≡◌, refl}
use Prim.Native.Nat.{ℕ, ◌+◌, ◌*◌, ◌<◌, ◌≤◌}
use native.Mathlib.Omega.{arith}
use mathlib.Core.Bool.{Bool, true, false, ◌&&◌, ◌||◌, false≢true}
use lib.Dec.{ltb, eqb}
use borrow.Author.Tests.{ltb-true, ltb-false, eqb-true, le-ltb, eq-eqb, ne_eqb}
use lib.Ieee.{Float, nan, inf, fin, up, down, below, level, lt, eq, le}
use lib.Ieee.Scale.{finite}
use Rattle.float.proofs.Cases.{neither, and_no, or_left}

over : (a b : ℕ) → a < b → ltb b a ≡ false
over a b h = le-ltb b a (omega arith)

other : (a b : ℕ) → a < b → eqb b a ≡ false
other a b h = ne_eqb b a (λ e. omega arith)

mixed : (a b : ℕ) → 0 < a + b → (eqb b a && (false || eqb b 0)) ≡ false
mixed a b h = go (eqb b a) (eqb b 0) refl refl
  where
    go : (x y : Bool) → eqb b a ≡ x → eqb b 0 ≡ y → (x && (false || y)) ≡ false
    go false y p q = refl
    go true false p q = refl
    go true true p q = absurd (none (eqb-true b a p) (eqb-true b 0 q))
      where
        none : b ≡ a → b ≡ 0 → ⊥
        none e f = omega arith

back : (s t : Bool) (a b : ℕ) → below s a t b ≡ true → (below t b s a || level t b s a) ≡ false
back false false a b h = neither (over a b (ltb-true a b h)) (and_no _ (other a b (ltb-true a b h)))
back false true a b h = absurd (false≢true h)
back true false a b h = mixed a b (ltb-true 0 (a + b) h)
back true true a b h = neither (le-ltb a b (low (ltb-true b a h))) (and_no _ (ne_eqb b a (apart (ltb-true b a h))))
  where
    low : b < a → b ≤ a
    low k = omega arith

    apart : b < a → b ≡ a → ⊥
    apart k e = omega arith

-- x < y, so y ≤ x is false
pub lt_not_le : (x y : Float) → lt x y ≡ true → le y x ≡ false
unfolding lt le eq
lt_not_le nan y h = absurd (false≢true h)
lt_not_le (inf s) nan h = absurd (false≢true h)
lt_not_le (inf true) (inf true) h = absurd (false≢true h)
lt_not_le (inf true) (inf false) h = refl
lt_not_le (inf false) (inf t) h = absurd (false≢true h)
lt_not_le (inf true) (fin t n d) h = refl
lt_not_le (inf false) (fin t n d) h = absurd (false≢true h)
lt_not_le (fin s m e) nan h = absurd (false≢true h)
lt_not_le (fin s m e) (inf true) h = absurd (false≢true h)
lt_not_le (fin s m e) (inf false) h = refl
lt_not_le (fin s m e) (fin t n d) h = back s t (m * up e * down d) (n * up d * down e) h

-- nor is y < x
pub lt_not_gt : (x y : Float) → lt x y ≡ true → lt y x ≡ false
unfolding le
lt_not_gt x y h = or_left (lt y x) (eq y x) (lt_not_le x y h)

-- ---- of two numbers one is at most the other

at_most : (a b : ℕ) → b ≤ a → (ltb b a || (eqb b a && true)) ≡ true
at_most a b h = go (ltb b a) refl
  where
    same : ltb b a ≡ false → b ≡ a
    same p = let k : a ≤ b = ltb-false b a p in omega arith

    go : (x : Bool) → ltb b a ≡ x → (x || (eqb b a && true)) ≡ true
    go true p = refl
    go false p = simp (eq-eqb b a (same p))

zeros : (a b : ℕ) → a + b ≤ 0 → (eqb b a && (false || eqb b 0)) ≡ true
zeros a b h = let p : b ≡ a = omega arith in let q : b ≡ 0 = omega arith in simp (eq-eqb b a p, eq-eqb b 0 q)

forth : (s t : Bool) (a b : ℕ) → below s a t b ≡ false → (below t b s a || level t b s a) ≡ true
forth false false a b h = at_most a b (ltb-false a b h)
forth false true a b h = go (ltb 0 (b + a)) refl
  where
    go : (x : Bool) → ltb 0 (b + a) ≡ x → (x || (eqb b a && (false || eqb b 0))) ≡ true
    go true p = refl
    go false p = let k : b + a ≤ 0 = ltb-false 0 (b + a) p in zeros a b (omega arith)
forth true false a b h = zeros a b (ltb-false 0 (a + b) h)
forth true true a b h = go (ltb a b) refl
  where
    same : ltb a b ≡ false → b ≡ a
    same p = let k : b ≤ a = ltb-false a b p in let l : a ≤ b = ltb-false b a h in omega arith

    go : (x : Bool) → ltb a b ≡ x → (x || (eqb b a && (true || eqb b 0))) ≡ true
    go true p = refl
    go false p = simp (eq-eqb b a (same p))

-- x < y is false of two numbers, so y ≤ x
pub not_lt_le : (x y : Float) → finite x ≡ true → finite y ≡ true → lt x y ≡ false → le y x ≡ true
unfolding lt le eq
not_lt_le nan y p q h = absurd (false≢true p)
not_lt_le (inf s) y p q h = absurd (false≢true p)
not_lt_le (fin s m e) nan p q h = absurd (false≢true q)
not_lt_le (fin s m e) (inf t) p q h = absurd (false≢true q)
not_lt_le (fin s m e) (fin t n d) p q h = forth s t (m * up e * down d) (n * up d * down e) h
