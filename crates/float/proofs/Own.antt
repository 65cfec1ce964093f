-- A value that fits is what its own fraction rounds to: so an operation whose exact result fits gives that result. `x * 1.0` is x. Assumes nothing.
use mathlib.Core.Path.{◌≡◌, refl, sym, ap, ◌∙◌, subst}
use Prim.Native.Nat.{ℕ, zero, suc, ◌+◌, ◌-◌, ◌*◌, ◌%◌, ◌^◌, ◌≤◌, ◌<◌}
use native.Mathlib.Nat.{le_of_eq, lt_irrefl, lt_of_lt_of_le, lt_of_le_of_lt, lt_of_not-le, le_of_suc-le-suc, zero-lt-suc, suc-ne-zero, sub-add_cancel, add-suc, zero-mul, mul-one, mul_comm, mul_assoc, mul_left_comm, mul_right_comm, mul-pos, mul-lt-mul_of_pos_right, lt_of_mul-lt-mul_right, eq_of_mul-eq-mul_right, pow-suc, pow-succ'}
use native.Mathlib.Omega.{arith}
use mathlib.Core.Bool.{Bool, true, false, ◌&&◌}
use lib.IntN.{ℤ, pos, negsuc}
use lib.Dec.{T, leb, ltb, eqb, leb→le, ltb→lt, eqb→eq}
use lib.Pow.{pow-add, pow_pos, pow-lt}
use lib.Ieee.{Float, nan, inf, fin, binary64, up, down, round, fits, mul, of_bits, unlike}
use lib.Ieee.Fits.{and_l, and_r, down_pos, up_pos, round-fits}
use lib.Ieee.Exact.{HasValue, round_exact}
use Rattle.float.proofs.Laws.{none, round_zero, zero_exp}

-- ---- what `fits` says of a value that is not zero
pub record Fit (m : ℕ) (e : ℤ) : Type 0 where
  pub odd : m % 2 ≡ 1
  pub short : m < 2 ^ 53
  pub fine : down e ≤ 2 ^ 1074
  pub under : m * up e < 2 ^ 1024 * down e

pub fit : (s : Bool) (m : ℕ) (e : ℤ) → T (fits binary64 (fin s (suc m) e)) → Fit (suc m) e
unfolding fits
fit s m e h =
    let A = eqb (suc m % 2) 1 in
    let B = ltb (suc m) (2 ^ 53) in
    let C = leb (down e) (2 ^ 1074) in
    let D = ltb (suc m * up e) (2 ^ 1024 * down e) in
    record {
      odd = eqb→eq (suc m % 2) 1 (and_l A B (and_l (A && B) C (and_l (A && B && C) D h)));
      short = ltb→lt (suc m) (2 ^ 53) (and_r A B (and_l (A && B) C (and_l (A && B && C) D h)));
      fine = leb→le (down e) (2 ^ 1074) (and_r (A && B) C (and_l (A && B && C) D h));
      under = ltb→lt (suc m * up e) (2 ^ 1024 * down e) (and_r (A && B && C) D h);
    }

-- ---- one way to write a value
even_odd : (m t : ℕ) → m % 2 ≡ 1 → m ≡ 2 * t → ⊥
even_odd m t o h = omega arith

odd_pow : (m n a b : ℕ) → m % 2 ≡ 1 → n % 2 ≡ 1 → m * 2 ^ a ≡ n * 2 ^ b → (m ≡ n) × (a ≡ b)
odd_pow m n zero zero o p h = (sym (mul-one m) ∙ h ∙ mul-one n, refl)
odd_pow m n zero (suc b) o p h = absurd (even_odd m (n * 2 ^ b) o (sym (mul-one m) ∙ h ∙ ap (λ (x : ℕ). n * x) (pow-succ' 2 b) ∙ mul_left_comm n 2 (2 ^ b)))
odd_pow m n (suc a) zero o p h = absurd (even_odd n (m * 2 ^ a) p (sym (mul-one n) ∙ sym h ∙ ap (λ (x : ℕ). m * x) (pow-succ' 2 a) ∙ mul_left_comm m 2 (2 ^ a)))
odd_pow m n (suc a) (suc b) o p h =
    let r = odd_pow m n a b o p (eq_of_mul-eq-mul_right 2 (zero-lt-suc 1) (m * 2 ^ a) (n * 2 ^ b)
    (mul_assoc m (2 ^ a) 2 ∙ ap (λ (x : ℕ). m * x) (sym (pow-suc 2 a)) ∙ h ∙ ap (λ (x : ℕ). n * x) (pow-suc 2 b) ∙ sym (mul_assoc n (2 ^ b) 2))) in
    (r.0, ap suc r.1)

suc_inj : {x y : ℕ} → suc x ≡ suc y → x ≡ y
suc_inj {x} {y} e = omega arith

-- m * 2 ^ d = n * 2 ^ e, for m and n odd
exps : (m n : ℕ) (d e : ℤ) → m % 2 ≡ 1 → n % 2 ≡ 1 → m * up d * down e ≡ n * up e * down d → (m ≡ n) × (d ≡ e)
exps m n (pos a) (pos b) o p h = let r = odd_pow m n a b o p (sym (mul-one (m * 2 ^ a)) ∙ h ∙ mul-one (n * 2 ^ b)) in (r.0, ap pos r.1)
exps m n (negsuc a) (negsuc b) o p h =
    let r = odd_pow m n (suc b) (suc a) o p (sym (ap (λ (x : ℕ). x * 2 ^ suc b) (mul-one m)) ∙ h ∙ ap (λ (x : ℕ). x * 2 ^ suc a) (mul-one n)) in
    (r.0, ap negsuc (suc_inj (sym r.1)))
exps m n (pos a) (negsuc b) o p h =
    let r = odd_pow m n (a + suc b) 0 o p (ap (λ (x : ℕ). m * x) (pow-add 2 a (suc b)) ∙ sym (mul_assoc m (2 ^ a) (2 ^ suc b)) ∙ h ∙ mul-one (n * 1)) in
    absurd (suc-ne-zero (a + b) (sym (add-suc a b) ∙ r.1))
exps m n (negsuc a) (pos b) o p h =
    let r = odd_pow m n 0 (b + suc a) o p (sym (mul-one (m * 1)) ∙ h ∙ mul_assoc n (2 ^ b) (2 ^ suc a) ∙ ap (λ (x : ℕ). n * x) (sym (pow-add 2 b (suc a)))) in
    absurd (suc-ne-zero (b + a) (sym (add-suc b a) ∙ sym r.1))

cross : (x y a c p q : ℕ) → 0 < a → 0 < c → x * c ≡ a * p → y * c ≡ a * q → x * q ≡ y * p
cross x y a c p q A C h k =
    eq_of_mul-eq-mul_right (c * a) (mul-pos C A) (x * q) (y * p)
    (let l : x * q * (c * a) ≡ x * c * (a * q) = simp (mul_assoc, mul_comm, mul_left_comm) in
    let m : y * p * (c * a) ≡ y * c * (a * p) = simp (mul_assoc, mul_comm, mul_left_comm) in
    l ∙ ap (λ (t : ℕ). t * (a * q)) h ∙ mul_comm (a * p) (a * q) ∙ ap (λ (t : ℕ). t * (a * p)) (sym k) ∙ sym m)

-- ---- two values that fit and equal the same fraction are the same
pub value_one : (x : Float) (s : Bool) (m : ℕ) (e : ℤ) (a c : ℕ) → T (fits binary64 x) → T (fits binary64 (fin s (suc m) e)) → 0 < c → HasValue x s a c → HasValue (fin s (suc m) e) s a c → x ≡ fin s (suc m) e
value_one nan s m e a c f g C v w = absurd v
value_one (inf t) s m e a c f g C v w = absurd v
value_one (fin t zero d) s m e zero c f g C v w = absurd (lt_irrefl 0 (subst (λ (z : ℕ). 0 < z) (w.1 ∙ zero-mul (down e)) (mul-pos (mul-pos (zero-lt-suc m) (up_pos e)) C)))
value_one (fin t zero d) s m e (suc a) c f g C v w = absurd (lt_irrefl 0 (subst (λ (z : ℕ). 0 < z) (sym v.1 ∙ ap (λ (z : ℕ). z * c) (zero-mul (up d)) ∙ zero-mul c) (mul-pos (zero-lt-suc a) (down_pos d))))
value_one (fin t (suc n) d) s m e zero c f g C v w = absurd (lt_irrefl 0 (subst (λ (z : ℕ). 0 < z) (w.1 ∙ zero-mul (down e)) (mul-pos (mul-pos (zero-lt-suc m) (up_pos e)) C)))
value_one (fin t (suc n) d) s m e (suc a) c f g C v w =
    let r = exps (suc n) (suc m) d e (fit t n d f).odd (fit s m e g).odd (cross (suc n * up d) (suc m * up e) (suc a) c (down d) (down e) (zero-lt-suc a) C v.1 w.1) in
    λ i. fin (v.0 i) (r.0 i) (r.1 i)

-- ---- a value rounds to itself
pub place : (g : ℕ) (d : ℤ) → down d ≤ 2 ^ 1074 → (j : ℕ) × (g * up d * 2 ^ 1074 ≡ g * 2 ^ j * down d)
place g (pos a) h = (a + 1074, mul_assoc g (2 ^ a) (2 ^ 1074) ∙ ap (λ (x : ℕ). g * x) (sym (pow-add 2 a 1074)) ∙ sym (mul-one (g * 2 ^ (a + 1074))))
place g (negsuc a) h =
    let l : suc a ≤ 1074 = le_of_suc-le-suc (lt_of_not-le (λ (k : suc 1074 ≤ suc a). lt_irrefl (2 ^ 1074) (lt_of_lt_of_le (pow-lt k) h))) in
    (1074 - suc a, ap (λ (x : ℕ). x * 2 ^ 1074) (mul-one g) ∙ ap (λ (x : ℕ). g * x) (ap (λ (x : ℕ). 2 ^ x) (sym (sub-add_cancel l)) ∙ pow-add 2 (1074 - suc a) (suc a)) ∙ sym (mul_assoc g (2 ^ (1074 - suc a)) (2 ^ suc a)))

-- with u for 2 ^ 1074: the numbers that `round_exact` asks
exact_at : (u x w d a c : ℕ) → 0 < d → x * u ≡ w * d → x * c ≡ a * d → a * u ≡ w * c
exact_at u x w d a c D p v =
    eq_of_mul-eq-mul_right d D (a * u) (w * c) (mul_right_comm a u d ∙ ap (λ (t : ℕ). t * u) (sym v) ∙ mul_right_comm x c u ∙ ap (λ (t : ℕ). t * c) p ∙ mul_right_comm w d c)

under_at : (u h x w d : ℕ) → 0 < u → x * u ≡ w * d → x < h * d → w < h * u
under_at u h x w d U p l = lt_of_mul-lt-mul_right d (lt_of_le_of_lt (le_of_eq (sym p)) (lt_of_lt_of_le (mul-lt-mul_of_pos_right l U) (le_of_eq (mul_right_comm h d u))))

pub round_own : (s : Bool) (m : ℕ) (e : ℤ) (a c : ℕ) → T (fits binary64 (fin s m e)) → 0 < c → m * up e * c ≡ a * down e → round binary64 s a c ≡ fin s m e
round_own s zero e a c f C v =
    let z : a ≡ 0 = none a (down e) (down_pos e) (sym v ∙ ap (λ (t : ℕ). t * c) (zero-mul (up e)) ∙ zero-mul c) in
    ap (λ (t : ℕ). round binary64 s t c) z ∙ round_zero binary64 s c C ∙ ap (λ (t : ℤ). fin s 0 t) (sym (zero_exp binary64 s e f))
round_own s (suc m) e a c f C v =
    let F = fit s m e f in
    let p = place (suc m) e F.fine in
    let w = suc m * 2 ^ p.0 in
    let r : HasValue (round binary64 s a c) s a c =
    round_exact binary64 s a c (suc m) p.0 C F.short (under_at (2 ^ 1074) (2 ^ 1024) (suc m * up e) w (down e) (pow_pos 1074) p.1 F.under) (exact_at (2 ^ 1074) (suc m * up e) w (down e) a c (down_pos e) p.1 v) in
    value_one (round binary64 s a c) s m e a c (round-fits binary64 s a c) f C r (refl, v)

-- ---- x * 1.0
unlike_plus : (s : Bool) → unlike s false ≡ s
unlike_plus true = refl
unlike_plus false = refl

pub mul_one_is : (x : Float) → T (fits binary64 x) → mul binary64 x (of_bits binary64 0x3ff0_0000_0000_0000) ≡ x
unfolding mul of_bits
mul_one_is nan f = refl
mul_one_is (inf s) f = ap inf (unlike_plus s)
mul_one_is (fin s m e) f =
    ap (λ (t : Bool). round binary64 t (m * up e * (1 * 2 ^ 0)) (down e * 1)) (unlike_plus s)
    ∙ round_own s m e (m * up e * 1) (down e * 1) f (mul-pos (down_pos e) (zero-lt-suc 0)) (sym (mul_assoc (m * up e) (down e) 1) ∙ mul_right_comm (m * up e) (down e) 1)
