-- The larger magnitude of two finite numbers is the larger of them or the negative of the smaller, whichever is the larger. Assumes nothing.
use mathlib.Core.Path.{◌≡◌, refl, sym, ap, ◌∙◌}
use Prim.Native.Nat.{ℕ, zero, suc, ◌+◌, ◌*◌, ◌<◌}
use native.Mathlib.Nat.{zero-mul, zero-lt-suc, mul-pos}
use native.Mathlib.Omega.{arith}
use mathlib.Core.Bool.{Bool, true, false, cond, true≢false}
use lib.IntN.{ℤ}
use lib.Dec.{T, ltb}
use lib.Ieee.{Float, nan, inf, fin, binary64, up, down, is_nan, lt, le, fits}
use lib.Ieee.Fits.{down_pos, up_pos}
use lib.Ieee.Scale.{finite}
use borrow.Author.Tests.{lt-ltb, le-ltb, ltb-true, ltb-false}
use Rattle.float.specs.Operators.{◌⊖◌, 𝟎}
use Rattle.float.specs.Methods.{abs, max_num}
use Rattle.float.proofs.Cases.{yes, no, by}
use Rattle.float.proofs.Laws.{zero_exp}
use Rattle.float.proofs.Negatives.{minus_zero, minus_some}
use Rattle.float.proofs.Own.{value_one}
use Rattle.float.proofs.Order.{lt_not_le, not_lt_le}

-- the larger and the smaller of two numbers
abbrev larger : Float → Float → Float
larger a b = cond (lt a b) b a

abbrev smaller : Float → Float → Float
smaller a b = cond (lt a b) a b

unfoldable larger_magnitude : Float → Float → Float
larger_magnitude a b = larger (𝟎 ⊖ smaller a b) (larger a b)

-- ---- two plain values of one size are one value
zero_same : (e d : ℤ) → T (fits binary64 (fin false 0 e)) → T (fits binary64 (fin false 0 d)) → fin false 0 e ≡ fin false 0 d
zero_same e d f g = ap (fin false 0) (zero_exp binary64 false e f ∙ sym (zero_exp binary64 false d g))

plain_same : (m n : ℕ) (e d : ℤ) → T (fits binary64 (fin false m e)) → T (fits binary64 (fin false n d)) → m * up e * down d ≡ n * up d * down e → fin false m e ≡ fin false n d
plain_same zero zero e d f g h = zero_same e d f g
plain_same (suc m) zero e d f g h =
    let p : 0 < suc m * up e * down d = mul-pos (mul-pos (zero-lt-suc m) (up_pos e)) (down_pos d) in
    let q : 0 * up d * down e ≡ 0 = ap (λ (x : ℕ). x * down e) (zero-mul (up d)) ∙ zero-mul (down e) in
    absurd (omega arith)
plain_same m (suc n) e d f g h = value_one (fin false m e) false n d (suc n * up d) (down d) f g (down_pos d) (refl, h) (refl, refl)

-- ---- the negative of a plain value lies below any value above 0
nothing : (a b : ℤ) → 0 * up a * down b ≡ 0
nothing a b = ap (λ (x : ℕ). x * down b) (zero-mul (up a)) ∙ zero-mul (down b)

size : (m : ℕ) (e d : ℤ) → 0 < suc m * up e * down d
size m e d = mul-pos (mul-pos (zero-lt-suc m) (up_pos e)) (down_pos d)

zero_below : (d : ℤ) (m : ℕ) (e : ℤ) → lt (fin false 0 d) (fin false (suc m) e) ≡ true
unfolding lt
zero_below d m e = lt-ltb (0 * up d * down e) (suc m * up e * down d) (omega (arith, nothing d e, size m e d))

some_below : (n : ℕ) (d : ℤ) (m : ℕ) (e : ℤ) → lt (fin true n d) (fin false (suc m) e) ≡ true
unfolding lt
some_below n d m e = lt-ltb 0 (n * up d * down e + suc m * up e * down d) (omega (arith, size m e d))

-- the negative of a zero, of a value below any above 0, and of a value with a minus sign
minus_nothing : (s : Bool) (e : ℤ) → T (fits binary64 (fin s 0 e)) → 𝟎 ⊖ fin s 0 e ≡ fin false 0 e
minus_nothing s e f = minus_zero s e ∙ ap (fin false 0) (sym (zero_exp binary64 s e f))

minus_below : (n : ℕ) (d : ℤ) (m : ℕ) (e : ℤ) → T (fits binary64 (fin false n d)) → lt (𝟎 ⊖ fin false n d) (fin false (suc m) e) ≡ true
minus_below zero d m e f = ap (λ (x : Float). lt x (fin false (suc m) e)) (minus_nothing false d f) ∙ zero_below d m e
minus_below (suc n) d m e f = ap (λ (x : Float). lt x (fin false (suc m) e)) (minus_some false d n f) ∙ some_below (suc n) d m e

minus_minus : (m : ℕ) (e : ℤ) → T (fits binary64 (fin true m e)) → 𝟎 ⊖ fin true m e ≡ fin false m e
minus_minus zero e f = minus_nothing true e f
minus_minus (suc m) e f = minus_some true e m f

plain : (m : ℕ) (e : ℤ) → T (fits binary64 (fin true m e)) → T (fits binary64 (fin false m e))
unfolding fits
plain zero e f = f
plain (suc m) e f = f

-- ---- by the signs
module _ (m : ℕ) (e : ℤ) (n : ℕ) (d : ℤ) where
  -- the magnitudes, and their maximum
  abbrev Y : Float
  Y = fin false m e

  abbrev Z : Float
  Z = fin false n d

  abbrev most : Float
  most = larger Y Z

  -- from the other side
  turned : T (fits binary64 Y) → T (fits binary64 Z) → larger Z Y ≡ most
  unfolding lt
  turned f g =
      let a = m * up e * down d in
      let b = n * up d * down e in
      by (ltb b a)
      (λ p. sym (yes _ p refl) ∙ no _ (le-ltb a b (omega (arith, ltb-true b a p))) refl)
      (λ p. sym (no _ p refl) ∙ by (ltb a b)
      (λ q. yes _ q refl)
      (λ q. sym (plain_same m n e d f g (omega (arith, ltb-false b a p, ltb-false a b q))) ∙ no _ q refl))

module _ (y z : Float) where
  at_less : lt y z ≡ true → larger_magnitude y z ≡ larger (𝟎 ⊖ y) z
  unfolding larger_magnitude
  at_less p = rw p

  at_most : lt y z ≡ false → larger_magnitude y z ≡ larger (𝟎 ⊖ z) y
  unfolding larger_magnitude
  at_most p = rw p

minus_both : (m : ℕ) (e : ℤ) (n : ℕ) (d : ℤ) → T (fits binary64 (fin true m e)) → T (fits binary64 (fin true n d)) → larger_magnitude (fin true m e) (fin true n d) ≡ most m e n d
unfolding lt
minus_both m e n d f g =
    let y = fin true m e in
    let z = fin true n d in
    let a = m * up e * down d in
    let b = n * up d * down e in
    by (lt y z)
    (λ p. at_less y z p ∙ ap (λ (x : Float). larger x z) (minus_minus m e f) ∙ no _ (le-ltb a b (omega (arith, ltb-true b a p))) refl)
    (λ p. at_most y z p ∙ ap (λ (x : Float). larger x y) (minus_minus n d g) ∙ no _ p refl ∙ turned m e n d (plain m e f) (plain n d g))

minus_first : (m : ℕ) (e : ℤ) (n : ℕ) (d : ℤ) → T (fits binary64 (fin true m e)) → T (fits binary64 (fin false n d)) → larger_magnitude (fin true m e) (fin false n d) ≡ most m e n d
unfolding lt
minus_first m e zero d f g =
    let y = fin true m e in
    let z = fin false 0 d in
    let a = m * up e * down d in
    let b = 0 * up d * down e in
    by (lt y z)
    (λ p. at_less y z p ∙ ap (λ (x : Float). larger x z) (minus_minus m e f))
    (λ p. at_most y z p ∙ ap (λ (x : Float). larger x y) (minus_nothing false d g) ∙ no _ (le-ltb b a (omega (arith, ltb-false 0 (a + b) p))) refl ∙ turned m e 0 d (plain m e f) g)
minus_first m e (suc n) d f g =
    let y = fin true m e in
    let z = fin false (suc n) d in
    at_less y z (lt-ltb 0 (m * up e * down d + suc n * up d * down e) (omega (arith, size n d e))) ∙ ap (λ (x : Float). larger x z) (minus_minus m e f)

minus_second : (m : ℕ) (e : ℤ) (n : ℕ) (d : ℤ) → T (fits binary64 (fin false m e)) → T (fits binary64 (fin true n d)) → larger_magnitude (fin false m e) (fin true n d) ≡ most m e n d
unfolding lt
minus_second m e n d f g =
    let y = fin false m e in
    at_most y (fin true n d) refl ∙ ap (λ (x : Float). larger x y) (minus_minus n d g) ∙ turned m e n d f (plain n d g)

plain_both : (m : ℕ) (e : ℤ) (n : ℕ) (d : ℤ) → T (fits binary64 (fin false m e)) → T (fits binary64 (fin false n d)) → larger_magnitude (fin false m e) (fin false n d) ≡ most m e n d
plain_both zero e zero d f g =
    let y = fin false 0 e in
    let z = fin false 0 d in
    let k : lt y z ≡ false = unfold lt in le-ltb (0 * up e * down d) (0 * up d * down e) (omega (arith, nothing e d, nothing d e)) in
    at_most y z k ∙ ap (λ (x : Float). larger x y) (minus_nothing false d g)
    ∙ by (lt z y) (λ q. sym (yes _ q refl)) (λ q. sym (no _ q refl) ∙ zero_same d e g f)
    ∙ no _ k refl
plain_both zero e (suc n) d f g =
    let y = fin false 0 e in
    let z = fin false (suc n) d in
    at_less y z (zero_below e n d) ∙ sym (yes _ (minus_below 0 e n d f) refl) ∙ yes _ (zero_below e n d) refl
plain_both (suc m) e zero d f g =
    let y = fin false (suc m) e in
    let z = fin false 0 d in
    let k : lt y z ≡ false = unfold lt in le-ltb (suc m * up e * down d) (0 * up d * down e) (omega (arith, nothing d e)) in
    at_most y z k ∙ sym (yes _ (minus_below 0 d m e g) refl) ∙ no _ k refl
plain_both (suc m) e (suc n) d f g =
    let y = fin false (suc m) e in
    let z = fin false (suc n) d in
    by (lt y z)
    (λ p. at_less y z p ∙ sym (yes _ (minus_below (suc m) e n d f) refl) ∙ yes _ p refl)
    (λ p. at_most y z p ∙ sym (yes _ (minus_below (suc n) d m e g) refl) ∙ no _ p refl)

larger_magnitude_lem : (y z : Float) → finite y ≡ true → finite z ≡ true → T (fits binary64 y) → T (fits binary64 z) → larger_magnitude y z ≡ max_num (abs y) (abs z)
unfolding abs is_nan
larger_magnitude_lem nan z p q f g = absurd (true≢false (sym p))
larger_magnitude_lem (inf s) z p q f g = absurd (true≢false (sym p))
larger_magnitude_lem (fin s m e) nan p q f g = absurd (true≢false (sym q))
larger_magnitude_lem (fin s m e) (inf t) p q f g = absurd (true≢false (sym q))
larger_magnitude_lem (fin true m e) (fin true n d) p q f g = minus_both m e n d f g
larger_magnitude_lem (fin true m e) (fin false n d) p q f g = minus_first m e n d f g
larger_magnitude_lem (fin false m e) (fin true n d) p q f g = minus_second m e n d f g
larger_magnitude_lem (fin false m e) (fin false n d) p q f g = plain_both m e n d f g

-- the larger, by the test from the other side
other_side : (y z : Float) → finite y ≡ true → finite z ≡ true → larger y z ≡ cond (le z y) y z
other_side y z p q =
    by (lt y z)
    (λ h. sym (yes _ h refl) ∙ no _ (lt_not_le y z h) refl)
    (λ h. sym (no _ h refl) ∙ yes _ (not_lt_le y z p q h) refl)

pub is_magnitude : (y z : Float) {l s m : Float} → T (fits binary64 y) → T (fits binary64 z) → l ≡ cond (le z y) y z → s ≡ cond (lt y z) y z → m ≡ cond (lt (𝟎 ⊖ s) l) l (𝟎 ⊖ s)
    → finite y ≡ true → finite z ≡ true → m ≡ max_num (abs y) (abs z)
unfolding larger_magnitude
is_magnitude y z {l} {s} {m} f g h k r p q =
    let e : l ≡ larger y z = h ∙ sym (other_side y z p q) in
    let t : m ≡ larger_magnitude y z = r ∙ ap (λ (x : Float). cond (lt (𝟎 ⊖ x) l) l (𝟎 ⊖ x)) k ∙ ap (λ (x : Float). cond (lt (𝟎 ⊖ smaller y z) x) x (𝟎 ⊖ smaller y z)) e in
    t ∙ larger_magnitude_lem y z p q f g
