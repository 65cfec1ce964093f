-- std's square root of a double is `square_root`. Assumes nothing.
use mathlib.Core.Path.{◌≡◌, refl, sym, ap, ◌∙◌, subst}
use Prim.Native.Nat.{ℕ, zero, suc, ◌+◌, ◌-◌, ◌*◌, ◌/◌, ◌%◌, ◌^◌, ◌≤◌, ◌<◌, compare, Ordering}
use native.Mathlib.Nat.{le_of_lt, lt_of_lt_of_le, lt_of_le_of_lt, mul_assoc, mul_comm, mul_left_comm, mul_right_comm, mul-mul-mul_comm, two-mul, zero-mul, add-zero, add-mul, one-mul, mul-le-mul_right, mul-lt-mul_of_pos_right, mul-pos, eq_of_mul-eq-mul_right, le-div_iff_mul-le, div-lt_iff_lt-mul, mul-div_cancel}
use native.Mathlib.Omega.{arith}
use mathlib.Core.Bool.{Bool, true, false, not, cond, true≢false}
use lib.Dec.{T, is_le, compare_is_eq, leb→le, nleb→lt, eqb, eqb→eq}
use lib.Pow.{pow-add, pow_pos, pow_mono, shl_lt}
use lib.Ieee.{Float, nan, inf, fin, binary64, up, down, root_twice, root_below, size, odd, nearest, units, round, div, fits, sqrt}
use lib.Ieee.Digits.{size-lt, size-le}
use lib.Ieee.Exact.{HasValue, odd_sign}
use lib.Ieee.Fits.{down_pos, odd-fits, round_is, div-fits}
use lib.Ieee.Nearest.{closest, closest_same}
use lib.Count.{count_leading_zeros}
use borrow.Author.Tests.{eqb-true, eqb-false, eq-eqb, ne_eqb, lt-ltb}
use Rattle.float.proofs.Cases.{by}
use Rattle.float.proofs.Own.{value_one}
use Rattle.float.proofs.Laws.{zero_exp}
use Rattle.float.proofs.Patterns.{digits_of, units_val}
use Rattle.std.proofs.lemmas.Nat.{div-mul-add, mod-mul-add}
use lib.Ieee.Root.{whole_part}
use Rattle.square_root.specs.Root.{whole_root, significand, root_of_units, square_root}
use Rattle.square_root.specs.Steps.{IsWholeRoot}
use Rattle.square_root.proofs.Whole.{root_is, half_is, sig_is, digits}
use Rattle.square_root.proofs.Cases.{units_of}
use Rattle.square_root.proofs.Squares.{sq_suc, sq_twice, sq_scale, sq_lt_back, sq_le_back}
use Rattle.square_root.proofs.Scale.{pow_lt_back, two_four, moved, normalised}

-- ---- w and less than a half, or more than a half, of b
compares_lt : (a b : ℕ) → a < b → compare a b ≡ Ordering.lt
compares_lt a b h = go (compare a b) refl (nleb→lt a b) (eqb→eq a b)
  where
    go : (o : Ordering) → compare a b ≡ o → (T (not (is_le o)) → b < a) → (T (compare_is_eq o) → a ≡ b) → compare a b ≡ Ordering.lt
    go Ordering.lt e g q = e
    go Ordering.eq e g q = let z = q tt in absurd (omega arith)
    go Ordering.gt e g q = let z = g tt in absurd (omega arith)

compares_gt : (a b : ℕ) → b < a → compare a b ≡ Ordering.gt
compares_gt a b h = go (compare a b) refl (leb→le a b)
  where
    go : (o : Ordering) → compare a b ≡ o → (T (is_le o) → a ≤ b) → compare a b ≡ Ordering.gt
    go Ordering.lt e k = let z = k tt in absurd (omega arith)
    go Ordering.eq e k = let z = k tt in absurd (omega arith)
    go Ordering.gt e k = e

rounds_down : (w b r : ℕ) → r * 2 < b → closest (w * b + r) b ≡ w
rounds_down w b r h =
    let q = div-mul-add w b r (omega arith) in
    let m = mod-mul-add w b r (omega arith) in
    ap (λ (x : ℕ). nearest x (compare ((w * b + r) % b * 2) b)) q
    ∙ ap (λ (x : ℕ). nearest w (compare (x * 2) b)) m
    ∙ ap (nearest w) (compares_lt (r * 2) b h)

rounds_up : (w b r : ℕ) → r < b → b < r * 2 → closest (w * b + r) b ≡ suc w
rounds_up w b r l h =
    let q = div-mul-add w b r l in
    let m = mod-mul-add w b r l in
    ap (λ (x : ℕ). nearest x (compare ((w * b + r) % b * 2) b)) q
    ∙ ap (λ (x : ℕ). nearest w (compare (x * 2) b)) m
    ∙ ap (nearest w) (compares_gt (r * 2) b h)

-- ---- the root of a number and that of its multiple by a square
-- q is the whole root of an even a, r that of a * S ^ 2, and t twice the latter, or one more where it goes on
module _ (a q S r t : ℕ) (some : 0 < S) (even : a % 2 ≡ 0) (Q : IsWholeRoot a q) (R : IsWholeRoot (a * (S * S)) r)
    (exact : r * r ≡ a * (S * S) → t ≡ 2 * r) (beyond : (r * r ≡ a * (S * S) → ⊥) → t ≡ 2 * r + 1) where
  least : q * S ≤ r
  least =
      let b : q * S * (q * S) ≤ a * (S * S) = subst (λ (x : ℕ). x ≤ a * (S * S)) (sym (sq_scale q S)) (mul-le-mul_right (S * S) Q.below) in
      sq_le_back (q * S) r (lt_of_le_of_lt b R.above)

  most : r < q * S + S
  most =
      let e : (q + 1) * S ≡ q * S + S = add-mul q 1 S ∙ ap (λ (x : ℕ). q * S + x) (one-mul S) in
      let b : a * (S * S) < (q + 1) * S * ((q + 1) * S) =
      subst (λ (x : ℕ). a * (S * S) < x) (sym (sq_scale (q + 1) S)) (mul-lt-mul_of_pos_right Q.above (mul-pos some some)) in
      subst (λ (x : ℕ). r < x) e (sq_lt_back r ((q + 1) * S) (lt_of_le_of_lt R.below b))

  -- an odd root is not exact
  not_exact : q ≡ 2 * (q / 2) + 1 → r ≡ q * S → r * r ≡ a * (S * S) → ⊥
  not_exact o e x =
      let p = q / 2 in
      let c : q * q * (S * S) ≡ a * (S * S) = sym (sq_scale q S) ∙ ap (λ (y : ℕ). y * y) (sym e) ∙ x in
      let d : q * q ≡ a = eq_of_mul-eq-mul_right (S * S) (mul-pos some some) (q * q) a c in
      let f : q * q ≡ (2 * p + 1) * (2 * p + 1) = ap (λ (y : ℕ). y * y) o in
      let g = sq_suc (2 * p) in
      let h = sq_twice p in
      omega arith

  -- twice the root, by q and what is left
  pub record Parts : Type 0 where
    pub left : ℕ
    pub is : t ≡ 2 * (q * S) + left
    pub below : left < 2 * S
    pub goes_on : q ≡ 2 * (q / 2) + 1 → 0 < left

  parts : Parts
  parts = by (eqb (r * r) (a * (S * S)))
      (λ b.
      let x = eqb-true (r * r) (a * (S * S)) b in
      let e = exact x in
      let l = least in
      let m = most in
      record { left = 2 * (r - q * S); is = omega arith; below = omega arith; goes_on = λ o. go o x (r - q * S) refl })
      (λ b.
      let e = beyond (eqb-false (r * r) (a * (S * S)) b) in
      let l = least in
      let m = most in
      record { left = 2 * (r - q * S) + 1; is = omega arith; below = omega arith; goes_on = λ o. omega arith })
    where
      go : q ≡ 2 * (q / 2) + 1 → r * r ≡ a * (S * S) → (f : ℕ) → r - q * S ≡ f → 0 < 2 * (r - q * S)
      go o x zero e = let l = least in absurd (not_exact o (omega arith) x)
      go o x (suc f) e = omega arith

  pub closest_root : closest t (4 * S) ≡ (q + 1) / 2
  closest_root =
      let P = parts in
      let p = q / 2 in
      let i = P.is in
      let l = P.below in
      let u : p * (4 * S) ≡ 4 * (p * S) = sym (mul_assoc p 4 S) ∙ ap (λ (x : ℕ). x * S) (mul_comm p 4) ∙ mul_assoc 4 p S in
      let v : 2 * p * S ≡ 2 * (p * S) = mul_assoc 2 p S in
      by (eqb (q % 2) 0)
      (λ b.
      let z = eqb-true (q % 2) 0 b in
      let o : q ≡ 2 * p = omega arith in
      let w : q * S ≡ 2 * p * S = ap (λ (x : ℕ). x * S) o in
      let e : t ≡ p * (4 * S) + P.left = omega arith in
      let k : p ≡ (q + 1) / 2 = omega arith in
      ap (λ (x : ℕ). closest x (4 * S)) e ∙ rounds_down p (4 * S) P.left (omega arith) ∙ k)
      (λ b.
      let z = eqb-false (q % 2) 0 b in
      let o : q ≡ 2 * p + 1 = omega arith in
      let g = P.goes_on o in
      let w : q * S ≡ 2 * p * S + S = ap (λ (x : ℕ). x * S) o ∙ add-mul (2 * p) 1 S ∙ ap (λ (x : ℕ). 2 * p * S + x) (one-mul S) in
      let e : t ≡ p * (4 * S) + (2 * S + P.left) = omega arith in
      let k : suc p ≡ (q + 1) / 2 = omega arith in
      ap (λ (x : ℕ). closest x (4 * S)) e ∙ rounds_up p (4 * S) (2 * S + P.left) (omega arith) (omega arith) ∙ k)

-- ---- std's twice the root
module _ (n : ℕ) where
  twice_exact : (let r = root_below (size n) n in r * r ≡ n) → (let r = root_below (size n) n in root_twice n ≡ 2 * r)
  unfolding root_twice
  twice_exact e = let r = root_below (size n) n in ap (λ (b : Bool). 2 * r + cond b 0 1) (eq-eqb (r * r) n e) ∙ add-zero (2 * r)

  twice_beyond : (let r = root_below (size n) n in r * r ≡ n → ⊥) → (let r = root_below (size n) n in root_twice n ≡ 2 * r + 1)
  unfolding root_twice
  twice_beyond e = let r = root_below (size n) n in ap (λ (b : Bool). 2 * r + cond b 0 1) (ne_eqb (r * r) n e)

-- ---- how many digits
size_is : (n j : ℕ) → 2 ^ j ≤ n → n < 2 ^ suc j → size n ≡ suc j
size_is n j l h =
    let u : j < size n = pow_lt_back j (size n) (lt_of_le_of_lt l (size-lt n)) in
    let v : size n ≤ suc j = size-le n (suc j) h in
    omega arith

-- 2 ^ j units of u, which is a power, and less than twice as many
digits_kept : (t w u j : ℕ) → 0 < u → 2 ^ j * u ≤ t * w → t * w < 2 ^ suc j * u → size (t * w / u) ≡ suc j
digits_kept t w u j some l h = size_is (t * w / u) j ((le-div_iff_mul-le some).1 l) ((div-lt_iff_lt-mul some).1 h)

-- two values that fit and are one fraction above 0 are one value
same_value : (x y : Float) (a c : ℕ) → T (fits binary64 x) → T (fits binary64 y) → 0 < a → 0 < c → HasValue x false a c → HasValue y false a c → x ≡ y
same_value x nan a c f g A C v w = absurd w
same_value x (inf s) a c f g A C v w = absurd w
same_value x (fin true m d) a c f g A C v w = absurd (true≢false w.0)
same_value x (fin false zero d) a c f g A C v w =
    let p : 0 < a * down d = mul-pos A (down_pos d) in
    let q : 0 * up d * c ≡ 0 = ap (λ (z : ℕ). z * c) (zero-mul (up d)) ∙ zero-mul c in
    let r = w.1 in
    absurd (omega arith)
same_value x (fin false (suc n) d) a c f g A C v w = value_one x false n d a c f g C v w

-- however many digits were looked through for its odd part
same_odd : (q k : ℕ) → 0 < q → q < 2 ^ 53 → 53 + k ≤ 2098 → odd 54 false q k 1074 ≡ odd 53 false q k 1074
same_odd q k some small room =
    let reach : q * 2 ^ k < 2 ^ 2098 = lt_of_lt_of_le (shl_lt 53 k small) (pow_mono room) in
    let small' : q < 2 ^ 54 = omega arith in
    same_value (odd 54 false q k 1074) (odd 53 false q k 1074) (q * 2 ^ k) (2 ^ 1074) (odd-fits binary64 54 false q k small' (le_of_lt small) reach)
    (odd-fits binary64 53 false q k small (le_of_lt small) reach) (mul-pos some (pow_pos k)) (pow_pos 1074) (odd_sign 54 false q k 1074) (odd_sign 53 false q k 1074)

units_odd : (q k : ℕ) → 0 < q → q < 2 ^ 53 → 53 + k ≤ 2098 → units binary64 false q k ≡ odd 53 false q k 1074
unfolding units
units_odd q k some small room =
    let reach : q * 2 ^ k < 2 ^ 2098 = lt_of_lt_of_le (shl_lt 53 k small) (pow_mono room) in
    ap (λ (b : Bool). cond b (odd 54 false q k 1074) (inf false)) (lt-ltb (q * 2 ^ k) (2 ^ 2098) reach) ∙ same_odd q k some small room

-- x / d is n units of 2 ^ -1074
in_places : (x n d : ℕ) → 0 < d → x * 2 ^ 1074 ≡ n * d → x * 2 ^ 4542 / d ≡ n * 2 ^ 3468
in_places x n d some e =
    ap (λ (y : ℕ). y / d) (sym (mul_assoc x (2 ^ 1074) (2 ^ 3468)) ∙ ap (λ (y : ℕ). y * 2 ^ 3468) e ∙ mul_right_comm n d (2 ^ 3468))
    ∙ mul-div_cancel (n * 2 ^ 3468) some

-- ---- the powers of two that meet
gathered : (H x y z : ℕ) → x * (H * y) * z ≡ H * (x * y * z)
gathered H x y z = simp (mul_assoc, mul_comm, mul_left_comm)

-- ---- at a number of units, by its digits
module _ (n a h : ℕ) (e : a * 4 ^ h ≡ n * 2 ^ 52) (lo : 2 ^ 52 ≤ a) (hi : a + 2 ≤ 2 ^ 54) (t : h ≤ 1048) where
  abbrev H : ℕ
  H = 2 ^ h

  abbrev S : ℕ
  S = 2 ^ (h + 1681)

  abbrev N : ℕ
  N = n * 2 ^ 3468

  abbrev A : ℕ
  A = a * 2 ^ 54

  S-is : S ≡ H * 2 ^ 1681
  S-is = pow-add 2 h 1681

  N-is : N ≡ A * (S * S)
  N-is =
      let p : S * S ≡ 4 ^ h * 2 ^ 3362 =
      ap (λ (x : ℕ). x * x) S-is ∙ sq_scale H (2 ^ 1681) ∙ ap (λ (x : ℕ). x * 2 ^ 3362) (sym (pow-add 2 h h) ∙ ap (λ (x : ℕ). 2 ^ x) (sym (two-mul h)) ∙ two_four h) in
      sym
      (ap (λ (x : ℕ). A * x) p
      ∙ mul-mul-mul_comm a (2 ^ 54) (4 ^ h) (2 ^ 3362)
      ∙ ap (λ (x : ℕ). x * 2 ^ 3416) e
      ∙ mul_assoc n (2 ^ 52) (2 ^ 3416))

  abbrev q : ℕ
  q = whole_root 54 A

  abbrev r : ℕ
  r = root_below (size N) N

  abbrev t' : ℕ
  t' = root_twice N

  Q : IsWholeRoot A q
  Q = root_is 54 A (omega arith)

  R : IsWholeRoot (A * (S * S)) r
  R = let w = whole_part N in subst (λ (x : ℕ). IsWholeRoot x r) N-is (record { below = w.0; above = w.1 })

  D : (2 ^ 53 ≤ q) × (q + 2 ≤ 2 ^ 54)
  D = digits a q lo hi Q

  S-some : 0 < S
  S-some = pow_pos (h + 1681)

  even : A % 2 ≡ 0
  even = omega arith

  exact : r * r ≡ A * (S * S) → t' ≡ 2 * r
  exact x = twice_exact N (x ∙ sym N-is)

  beyond : (r * r ≡ A * (S * S) → ⊥) → t' ≡ 2 * r + 1
  beyond x = twice_beyond N (λ y. x (y ∙ N-is))

  -- the significand that std rounds to
  closest_is : closest t' (4 * S) ≡ (q + 1) / 2
  closest_is = closest_root A q S r t' S-some even Q R exact beyond

  -- and where it stands
  kept : size (t' * 2 ^ 1074 / 2 ^ 2272) ≡ suc (h + 537)
  kept =
      let P = parts A q S r t' S-some even Q R exact beyond in
      let i = P.is in
      let b = P.below in
      let l : 2 ^ 53 * S ≤ q * S = mul-le-mul_right S D.0 in
      let f : q + 2 ≤ 2 ^ 54 = D.1 in
      let m : (q + 1) * S ≤ 2 ^ 54 * S = mul-le-mul_right S (omega arith) in
      let j : suc (h + 537) ≡ h + 538 = omega arith in
      let s : (q + 1) * S ≡ q * S + S = add-mul q 1 S ∙ ap (λ (x : ℕ). q * S + x) (one-mul S) in
      let u : 2 ^ 54 * S * 2 ^ 1074 ≤ t' * 2 ^ 1074 = mul-le-mul_right (2 ^ 1074) (omega arith) in
      let v : t' * 2 ^ 1074 < 2 ^ 55 * S * 2 ^ 1074 = mul-lt-mul_of_pos_right (omega arith) (pow_pos 1074) in
      let lower : 2 ^ (h + 537) * 2 ^ 2272 ≡ 2 ^ 54 * S * 2 ^ 1074 =
      ap (λ (x : ℕ). x * 2 ^ 2272) (pow-add 2 h 537) ∙ mul_assoc H (2 ^ 537) (2 ^ 2272)
      ∙ sym (ap (λ (x : ℕ). 2 ^ 54 * x * 2 ^ 1074) S-is ∙ gathered H (2 ^ 54) (2 ^ 1681) (2 ^ 1074)) in
      let upper : 2 ^ suc (h + 537) * 2 ^ 2272 ≡ 2 ^ 55 * S * 2 ^ 1074 =
      ap (λ (y : ℕ). 2 ^ y * 2 ^ 2272) j ∙ ap (λ (x : ℕ). x * 2 ^ 2272) (pow-add 2 h 538) ∙ mul_assoc H (2 ^ 538) (2 ^ 2272)
      ∙ sym (ap (λ (x : ℕ). 2 ^ 55 * x * 2 ^ 1074) S-is ∙ gathered H (2 ^ 55) (2 ^ 1681) (2 ^ 1074)) in
      digits_kept t' (2 ^ 1074) (2 ^ 2272) (h + 537) (pow_pos 2272) (subst (λ (x : ℕ). x ≤ t' * 2 ^ 1074) (sym lower) u) (subst (λ (x : ℕ). t' * 2 ^ 1074 < x) (sym upper) v)

  abbrev Y : ℕ
  Y = (q + 1) / 2

  abbrev K : ℕ
  K = h + 485

  -- in the unit that std drops to
  unit_is : closest (t' * 2 ^ 1074) (2 ^ 2272 * 2 ^ K) ≡ Y
  unit_is =
      let x : 2 ^ 1074 * (4 * S) ≡ 2 ^ 2272 * 2 ^ K =
      sym (mul_assoc (2 ^ 1074) 4 S) ∙ ap (λ (x : ℕ). 2 ^ 1076 * x) S-is ∙ mul_left_comm (2 ^ 1076) H (2 ^ 1681)
      ∙ sym (ap (λ (x : ℕ). 2 ^ 2272 * x) (pow-add 2 h 485) ∙ mul_left_comm (2 ^ 2272) H (2 ^ 485)) in
      closest_same (t' * 2 ^ 1074) (2 ^ 2272 * 2 ^ K) t' (4 * S) (mul-pos (pow_pos 2272) (pow_pos K)) (mul-pos (omega arith) S-some)
      (mul_assoc t' (2 ^ 1074) (4 * S) ∙ ap (λ (x : ℕ). t' * x) x)
      ∙ closest_is

  -- it has 53 digits
  low_enough : (Y < 2 ^ 53) × (0 < Y) × (53 + K ≤ 2098)
  low_enough = let d = D.0 in let f = D.1 in (omega arith, omega arith, omega arith)

  units_is : units binary64 false Y K ≡ odd 53 false Y K 1074
  units_is = units_odd Y K low_enough.1 low_enough.0 low_enough.2

  pub rounded_is : round binary64 false t' (2 ^ 2272) ≡ root_of_units n
  unfolding root_of_units
  rounded_is =
      let k : size (t' * 2 ^ 1074 / 2 ^ 2272) - 53 ≡ K = ap (λ (x : ℕ). x - 53) kept ∙ omega arith in
      round_is binary64 false t' (2 ^ 2272)
      ∙ ap (λ (x : ℕ). units binary64 false (closest (t' * 2 ^ 1074) (2 ^ 2272 * 2 ^ x)) x) k
      ∙ ap (λ (x : ℕ). units binary64 false x K) unit_is
      ∙ units_is
      ∙ ap (λ (x : ℕ). odd 53 false x K 1074) (sym (sig_is n a h q e lo (omega arith) Q))
      ∙ ap (λ (x : ℕ). odd 53 false (significand n) (x + 485) 1074) (sym (half_is n a h e lo (omega arith)))

-- ---- of every double
pub sqrt_is : (x : Float) → T (fits binary64 x) → sqrt binary64 x ≡ square_root x
unfolding sqrt square_root
sqrt_is nan f = refl
sqrt_is (inf true) f = refl
sqrt_is (inf false) f = refl
sqrt_is (fin s zero d) f = ap (fin s 0) (sym (zero_exp binary64 s d f))
sqrt_is (fin true (suc m) d) f = refl
sqrt_is (fin false (suc m) d) f =
    let D = digits_of m d f in
    let n = D.q * 2 ^ D.k in
    let z = count_leading_zeros 64 D.q - 11 in
    let j = D.k + 52 - z in
    let i = normalised D.q D.k z (moved D.q D.some D.few).2 D.low in
    ap (λ (x : ℕ). round binary64 false (root_twice x) (2 ^ 2272)) (in_places (suc m * up d) n (down d) (down_pos d) (units_val (suc m) d D.q D.k D.is))
    ∙ rounded_is n (D.q * 2 ^ (z + j % 2)) (j / 2) i.value i.least i.most i.half
    ∙ ap root_of_units (sym (units_of (suc m) d D.q D.k D.is))

-- in the form in which a tactic applies it
pub sqrt_of_quotient : (x y : Float) → sqrt binary64 (div binary64 x y) ≡ square_root (div binary64 x y)
sqrt_of_quotient x y = sqrt_is (div binary64 x y) (div-fits binary64 x y)
