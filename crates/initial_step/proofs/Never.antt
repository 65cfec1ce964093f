-- The guess of a first step that is not refused is a finite number above 0: no test of the guess could refuse one. So the step goes in the direction.
-- And the maximum is no zero: so a minimum with it is never of two zeros. Assumes nothing.
use mathlib.Core.Path.{◌≡◌, refl, sym, ap, ◌∙◌, subst}
use mathlib.Core.Bool.{Bool, true, false, not, ◌&&◌, ◌||◌, cond, false≢true}
use mathlib.Core.List.{List, [], ◌∷◌}
use Prim.Native.Nat.{ℕ, zero, suc, ◌*◌, ◌^◌, ◌≤◌, ◌<◌}
use native.Mathlib.Nat.{le_trans, le_of_eq, le_of_lt, one-mul, mul_comm, mul_assoc, mul_left_comm, mul-le-mul_left, mul-le-mul, le_of_mul-le-mul_left, mul-pos, zero-lt-suc}
use native.Mathlib.Omega.{arith}
use lib.ListN.{length}
use lib.IntN.{ℤ, pos}
use lib.Dec.{T, leb, ltb, eqb, leb→le, ltb→lt}
use lib.Pow.{pow_pos}
use lib.Ieee.{Float, nan, inf, fin, binary64, up, down, unlike, neg, round, of_bits, mul, div, lt, eq, le, ne, fits, is_nan, of_int}
use borrow.Author.Tests.{lt-ltb, eqb-true, not-false}
use lib.Ieee.Fits.{up_pos, down_pos, mul-fits, div-fits, neg-fits, cond-fits}
use lib.Ieee.Bits.{of_bits-fits}
use lib.Ieee.Scale.{finite}
use lib.Ieee.Order.{round_mono}
use lib.Ieee.Positive.{num, den, positive, above, above_of_le, le→cross, mul_mono}
use Rattle.std.specs.Prelude.{Result, Ok, Err, ⊤, IfOk, OnOk}
use Rattle.float.specs.Operators.{◌⊗◌, ◌⊘◌, 𝟎, 𝟏}
use Rattle.float.specs.Constants.{ten⁻⁵, ten⁻⁶, hundredth}
use Rattle.float.specs.Methods.{abs, min_num, finite_positive}
use Rattle.float.proofs.Cases.{holds, both, and_left, or_left, or_right}
use Rattle.float.proofs.Laws.{some}
use Rattle.float.proofs.Own.{fit, round_own}
use Rattle.float.proofs.Positive.{above-finite, positive-finite, positive_some, over_zero, smaller, div_some}
use Rattle.float.proofs.Order.{not_lt_le}
use Rattle.float.proofs.Quotients.{lt_self}
use Rattle.vector.specs.Lists.{every, all_finite}
use Rattle.vector.proofs.Lists.{finite_at}
use Rattle.square_root.specs.Root.{square_root}
use Rattle.stepping.specs.declared.Refusal.{Refusal}
use Rattle.stepping.specs.declared.Refusal.TheVariants.{Dimension, NonFinite, Direction, FirstStep}
use Rattle.stepping.specs.Refusals.{first_of, unless_refused}
use Rattle.stepping.proofs.Refusals.{passed, held}
use Rattle.initial_step.specs.Norm.{scaled_sum, mean, ratios, rms}
use Rattle.initial_step.specs.First.{Directed, all_above, undirected, input_tests, slight, unbounded, guess, proposed, initial_step}

positive_told : (x : Float) → T (positive x) → finite_positive x ≡ true
unfolding finite_positive lt of_bits
positive_told nan p = absurd p
positive_told (inf s) p = absurd p
positive_told (fin true m e) p = absurd p
positive_told (fin false zero e) p = absurd p
positive_told (fin false (suc m) e) p = both (lt-ltb (0 * 1 * down e) (suc m * up e * 1) (omega (arith, some m e))) refl

-- ---- the constants
ten⁻⁵-positive : T (positive ten⁻⁵)
unfolding of_bits
ten⁻⁵-positive = tt

hundredth-positive : T (positive hundredth)
unfolding of_bits
hundredth-positive = tt

ten⁻⁶-positive : T (positive ten⁻⁶)
unfolding of_bits
ten⁻⁶-positive = tt

ten⁻⁵-finite : finite ten⁻⁵ ≡ true
unfolding of_bits
ten⁻⁵-finite = refl

-- a norm that is not slight
least : (d : Float) → finite d ≡ true → lt d ten⁻⁵ ≡ false → T (le ten⁻⁵ d)
least d f h = holds (not_lt_le d ten⁻⁵ f ten⁻⁵-finite h)

least_positive : (d : Float) → finite d ≡ true → lt d ten⁻⁵ ≡ false → T (positive d)
least_positive d f h = above-finite d f (above_of_le ten⁻⁵ d ten⁻⁵-positive (least d f h))

-- ---- the quotient: at least about 1e-7, divided by less than 2 ^ 1024, is at least 2 ^ -1074
abbrev floor : Float
floor = hundredth ⊗ ten⁻⁵

floor-positive : T (positive floor)
unfolding of_bits mul round
floor-positive = tt

floor_size : T (leb (den floor) (num floor * 2 ^ 50))
unfolding of_bits mul round
floor_size = tt

floor_some : T (ltb 0 (num floor))
unfolding of_bits mul round
floor_some = tt

hundredth_itself : T (le hundredth hundredth)
unfolding of_bits le lt eq
hundredth_itself = tt

product_least : (d : Float) → finite d ≡ true → lt d ten⁻⁵ ≡ false → T (le floor (hundredth ⊗ d))
product_least d f h =
    mul_mono binary64 hundredth hundredth ten⁻⁵ d hundredth-positive hundredth-positive ten⁻⁵-positive (least_positive d f h) hundredth_itself (least d f h)

-- t / c is at least 2 ^ -50 (w), P / Q at least t / c, N / K at most u
bound : (t c P Q N K u w v : ℕ) → 0 < t → c ≤ t * w → t * Q ≤ P * c → N ≤ u * K → u * w ≡ v → 1 * (N * Q) ≤ P * K * v
bound t c P Q N K u w v T C h k e =
    let a : t * Q ≤ t * (P * w) = le_trans h (le_trans (mul-le-mul_left P C) (le_of_eq (mul_left_comm P t w))) in
    let b : Q ≤ P * w = le_of_mul-le-mul_left a T in
    let q : u * K * (P * w) ≡ P * K * (u * w) = simp (mul_assoc, mul_comm, mul_left_comm) in
    le_trans (le_of_eq (one-mul (N * Q))) (le_trans (mul-le-mul k b) (le_of_eq (q ∙ ap (λ (z : ℕ). P * K * z) e)))

tiniest_positive : T (positive (round binary64 false 1 (2 ^ 1074)))
unfolding round
tiniest_positive = tt

powers : 2 ^ 1024 * 2 ^ 50 ≡ 2 ^ 1074
powers = refl

quotient_above : (p d : Float) → T (le floor p) → T (above p) → T (positive d) → T (fits binary64 d) → T (above (p ⊘ d))
unfolding div
quotient_above nan d l a q f = absurd a
quotient_above (inf true) d l a q f = absurd a
quotient_above (inf false) nan l a q f = absurd q
quotient_above (inf false) (inf t) l a q f = absurd q
quotient_above (inf false) (fin true n k) l a q f = absurd q
quotient_above (inf false) (fin false n k) l a q f = tt
quotient_above (fin true m e) d l a q f = absurd a
quotient_above (fin false m e) nan l a q f = absurd q
quotient_above (fin false m e) (inf t) l a q f = absurd q
quotient_above (fin false m e) (fin true n k) l a q f = absurd q
quotient_above (fin false m e) (fin false zero k) l a q f = absurd q
quotient_above (fin false m e) (fin false (suc n) k) l a q f =
    subst (λ (z : Float). T (above z)) (sym (div_some m n e k))
    (above_of_le (round binary64 false 1 (2 ^ 1074)) (round binary64 false (m * up e * down k) (suc n * up k * down e)) tiniest_positive
    (round_mono binary64 1 (2 ^ 1074) (m * up e * down k) (suc n * up k * down e) (pow_pos 1074) (mul-pos (mul-pos (zero-lt-suc n) (up_pos k)) (down_pos e))
    (bound (num floor) (den floor) (m * up e) (down e) (suc n * up k) (down k) (2 ^ 1024) (2 ^ 50) (2 ^ 1074)
    (ltb→lt 0 (num floor) floor_some) (leb→le (den floor) (num floor * 2 ^ 50) floor_size) (le→cross floor (fin false m e) floor-positive a l) (le_of_lt (fit false n k f).under) powers)))

-- ---- the smaller of it and the maximum
module _ (d₀ d₁ maximum : Float) (held : T (fits binary64 d₁)) (top : T (positive maximum)) where
  quotient_positive : slight d₀ d₁ ≡ false → finite d₀ ≡ true → finite d₁ ≡ true → T (positive (min_num (hundredth ⊗ d₀ ⊘ d₁) maximum))
  unfolding slight
  quotient_positive s f g =
      let l = product_least d₀ f (or_left (lt d₀ ten⁻⁵) (lt d₁ ten⁻⁵) s) in
      smaller (hundredth ⊗ d₀ ⊘ d₁) maximum
      (quotient_above (hundredth ⊗ d₀) d₁ l (above_of_le floor (hundredth ⊗ d₀) floor-positive l) (least_positive d₁ g (or_right (lt d₀ ten⁻⁵) (lt d₁ ten⁻⁵) s)) held) top

  -- where the norms are not refused, the guess is a finite number above 0
  pub guess-positive : unbounded d₀ d₁ ≡ false → T (positive (guess d₀ d₁ maximum))
  unfolding unbounded guess
  guess-positive = go (slight d₀ d₁) (finite d₀) (finite d₁) refl refl refl
    where
      go : (x y z : Bool) → slight d₀ d₁ ≡ x → finite d₀ ≡ y → finite d₁ ≡ z → (not x && not (y && z)) ≡ false
          → T (positive (cond x ten⁻⁶ (min_num (hundredth ⊗ d₀ ⊘ d₁) maximum)))
      go true y z p q r h = ten⁻⁶-positive
      go false true true p q r h = quotient_positive p q r
      go false true false p q r h = absurd (false≢true (sym h))
      go false false z p q r h = absurd (false≢true (sym h))

-- ---- the call
rms-fits : (v s : List Float) → T (fits binary64 (rms v s))
unfolding rms mean fits
rms-fits v s = go (every (length v) (λ j. finite (ratios v s j)))
  where
    go : (b : Bool) → T (fits binary64 (cond b (mean (scaled_sum (ratios v s) (length v)) (length v)) (inf false)))
    go true =
        let t = scaled_sum (ratios v s) (length v) in
        mul-fits binary64 t.largest (square_root (t.sum ⊘ of_int binary64 (pos (length v))))
    go false = tt

-- ---- a positive number in a direction
times : (s t : Bool) (m n : ℕ) (e d : ℤ) → T (fits binary64 (fin (unlike s t) n d)) → m * up e ≡ down e → fin s m e ⊗ fin t n d ≡ fin (unlike s t) n d
unfolding mul
times s t m n e d f h =
    let k : n * up d * (down e * down d) ≡ down e * (n * up d) * down d = simp (mul_assoc, mul_comm, mul_left_comm) in
    round_own (unlike s t) n d (m * up e * (n * up d)) (down e * down d) f (mul-pos (down_pos e) (down_pos d)) (k ∙ ap (λ (z : ℕ). z * (n * up d) * down d) (sym h))

with_sign : (s : Bool) (n : ℕ) (d : ℤ) → T (fits binary64 (fin false n d)) → T (fits binary64 (fin s n d))
unfolding neg
with_sign false n d f = f
with_sign true n d f = neg-fits binary64 (fin false n d) f

going : (x top v : Float) → T (fits binary64 x) → eq (abs x) 𝟏 ≡ true → T (fits binary64 v) → T (positive v) → le v top ≡ true → Directed x top (x ⊗ v)
unfolding abs eq of_bits
going nan top v f h g p l = absurd (false≢true h)
going (inf s) top v f h g p l = absurd (false≢true h)
going (fin s m e) top nan f h g p l = absurd p
going (fin s m e) top (inf t) f h g p l = absurd p
going (fin s m e) top (fin true n d) f h g p l = absurd p
going (fin s m e) top (fin false n d) f h g p l =
    let u : m * up e ≡ down e = omega (arith, eqb-true (m * up e * 1) (1 * 1 * down e) (and_left (eqb (m * up e * 1) (1 * 1 * down e)) _ h)) in
    both_signs s u
  where
    both_signs : (s : Bool) → m * up e ≡ down e → Directed (fin s m e) top (fin s m e ⊗ fin false n d)
    both_signs true u =
        let a = times true false m n e d (with_sign true n d g) u in
        let b = times true true m n e d g u in
        record {
          finite_step = ap finite a;
          ahead = ap (λ (z : Float). finite_positive (fin true m e ⊗ z)) a ∙ ap finite_positive b ∙ positive_told (fin false n d) p;
          at_most = ap (λ (z : Float). le (abs z) top) a ∙ l;
        }
    both_signs false u =
        let a = times false false m n e d g u in
        record {
          finite_step = ap finite a;
          ahead = ap (λ (z : Float). finite_positive (fin false m e ⊗ z)) a ∙ ap finite_positive a ∙ positive_told (fin false n d) p;
          at_most = ap (λ (z : Float). le (abs z) top) a ∙ l;
        }

min_fits : (x m : Float) → T (fits binary64 x) → T (fits binary64 m) → T (fits binary64 (min_num x m))
min_fits x m f g = cond-fits binary64 (is_nan x) m (cond (lt m x) m x) g (cond-fits binary64 (lt m x) m x g f)

min_at_most : (x m : Float) → finite x ≡ true → finite m ≡ true → le (min_num x m) m ≡ true
min_at_most x m f g = go (is_nan x) (lt m x) refl
  where
    own : le m m ≡ true
    own = not_lt_le m m g g (lt_self m)

    go : (a b : Bool) → lt m x ≡ b → le (cond a m (cond b m x)) m ≡ true
    go true b h = own
    go false true h = own
    go false false h = not_lt_le m x g f h

guess-fits : (d₀ d₁ maximum : Float) → T (fits binary64 maximum) → T (fits binary64 (guess d₀ d₁ maximum))
unfolding guess
guess-fits d₀ d₁ maximum m =
    cond-fits binary64 (slight d₀ d₁) ten⁻⁶ (min_num (hundredth ⊗ d₀ ⊘ d₁) maximum) (of_bits-fits binary64 _)
    (min_fits (hundredth ⊗ d₀ ⊘ d₁) maximum (div-fits binary64 (hundredth ⊗ d₀) d₁) m)

above_of_positive : (x : Float) → T (positive x) → T (above x)
above_of_positive nan p = p
above_of_positive (inf s) p = absurd p
above_of_positive (fin true n d) p = p
above_of_positive (fin false n d) p = p

module _ (y f s : List Float) (direct maximum : Float) where
  direct-unit : first_of (input_tests y f s direct maximum) ≡ Ok tt → eq (abs direct) 𝟏 ≡ true
  unfolding input_tests undirected ne
  direct-unit h =
      let p = (held NonFinite _ _ (held NonFinite _ _ (held NonFinite _ _ (held Dimension _ _ h).1).1).1).1 in
      let q = held NonFinite (all_finite (direct ∷ maximum ∷ [])) _ p in
      let u = (passed Direction (not (all_above s) || (ne (abs direct) 𝟏 || le maximum 𝟎)) [] q.1).0 in
      not-false (eq (abs direct) 𝟏) (or_left (ne (abs direct) 𝟏) (le maximum 𝟎) (or_right (not (all_above s)) _ u))

  maximum-positive : first_of (input_tests y f s direct maximum) ≡ Ok tt → T (positive maximum)
  unfolding input_tests undirected
  maximum-positive h =
      let p = (held NonFinite _ _ (held NonFinite _ _ (held NonFinite _ _ (held Dimension _ _ h).1).1).1).1 in
      let q = held NonFinite (all_finite (direct ∷ maximum ∷ [])) _ p in
      let u = (passed Direction (not (all_above s) || (ne (abs direct) 𝟏 || le maximum 𝟎)) [] q.1).0 in
      over_zero maximum (finite_at (direct ∷ maximum ∷ []) 1 q.0 (omega arith)) (or_right (ne (abs direct) 𝟏) (le maximum 𝟎) (or_right (not (all_above s)) _ u))

  abbrev g : Float
  g = guess (rms y s) (rms f s) maximum

  abbrev answer : Float
  answer = direct ⊗ min_num g maximum

  -- what holds of the answer where nothing is refused
  answered : (P : Float → Type 0) → (first_of (input_tests y f s direct maximum) ≡ Ok tt → unbounded (rms y s) (rms f s) ≡ false → P answer)
      → {r : Result Float Refusal} → r ≡ initial_step y f s direct maximum → IfOk r P
  unfolding initial_step unless_refused proposed
  answered P h {r} e =
      subst (λ (w : Result Float Refusal). IfOk w P) (sym e)
      (go (first_of (input_tests y f s direct maximum)) refl (unbounded (rms y s) (rms f s)) refl)
    where
      go : (r : Result ⊤ Refusal) → first_of (input_tests y f s direct maximum) ≡ r → (b : Bool) → unbounded (rms y s) (rms f s) ≡ b
          → IfOk (unless_refused Err r (cond b (Err FirstStep) (Ok answer))) P
      go (Err k) p b q = tt
      go (Ok x) p true q = tt
      go (Ok x) p false q = h p q

  g-positive : first_of (input_tests y f s direct maximum) ≡ Ok tt → unbounded (rms y s) (rms f s) ≡ false → T (positive g)
  g-positive p q = guess-positive (rms y s) (rms f s) maximum (rms-fits f s) (maximum-positive p) q

  pub guess_above : {r : Result Float Refusal} → r ≡ initial_step y f s direct maximum → OnOk r (finite_positive g ≡ true)
  guess_above {r} e = answered (λ _. finite_positive g ≡ true) (λ p q. positive_told g (g-positive p q)) e

  pub directed : T (fits binary64 direct) → T (fits binary64 maximum) → {r : Result Float Refusal} → r ≡ initial_step y f s direct maximum → IfOk r (Directed direct maximum)
  directed d m {r} e =
      answered (Directed direct maximum)
      (λ p q.
      let top = maximum-positive p in
      let v = min_num g maximum in
      going direct maximum v d (direct-unit p) (min_fits g maximum (guess-fits (rms y s) (rms f s) maximum m) m)
      (smaller g maximum (above_of_positive g (g-positive p q)) top) (min_at_most g maximum (positive-finite g (g-positive p q)) (positive-finite maximum top)))
      e

  -- each minimum is with the maximum, which is then no zero
  pub maximum_no_zero : first_of (input_tests y f s direct maximum) ≡ Ok tt → eq maximum 𝟎 ≡ false
  maximum_no_zero h = positive_some maximum (maximum-positive h)
