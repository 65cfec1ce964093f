-- A step of Zimmermann's square root (INRIA RR-3805): the whole part of the root of m * b ^ 2 from m's root s and remainder r, for a base b that is
-- at most 2 * s. With q and u the quotient and the remainder of r * b by 2 * s it is s * b + q, or one less if u * b is below q * q. Assumes nothing.
use mathlib.Core.Path.{◌≡◌, sym, ap, ◌∙◌, subst}
use Prim.Native.Nat.{ℕ, zero, suc, ◌+◌, ◌-◌, ◌*◌, ◌/◌, ◌%◌, ◌^◌, ◌≤◌, ◌<◌}
use native.Mathlib.Nat.{sub-zero, le_trans, le_of_eq, le_of_lt, mul_comm, mul_assoc, mul_left_comm, add-mul, mul-le-mul, mul-le-mul_right, le_of_mul-le-mul_right, mod-lt, div-add-mod'}
use native.Mathlib.Omega.{arith}
use mathlib.Core.Bool.{Bool, true, false, not, cond}
use lib.Dec.{T, ltb, ltb→lt, nltb→le}
use Rattle.square_root.specs.Steps.{IsWholeRoot, IsRootRem}
use Rattle.square_root.proofs.Squares.{sq_sum, sq_suc, sq_scale, sq_lt_back}

module _ (m s r b q u : ℕ) (w : IsRootRem m s r) (n : b ≤ 2 * s) (p : 0 < s) (e : q * (2 * s) + u ≡ r * b) (k : u < 2 * s) where
  pub quotient_le : q ≤ b
  quotient_le =
      let l : r * b ≤ 2 * s * b = mul-le-mul_right b w.rest in
      let c = mul_comm b (2 * s) in
      let h : q * (2 * s) ≤ b * (2 * s) = omega arith in
      le_of_mul-le-mul_right h (omega arith)

  square : (s * b + q) * (s * b + q) + u * b ≡ m * (b * b) + q * q
  square =
      let a = sq_sum (s * b) q in
      let c = sq_scale s b in
      let d : q * (2 * s) * b + u * b ≡ r * (b * b) = sym (add-mul (q * (2 * s)) u b) ∙ ap (λ (t : ℕ). t * b) e ∙ mul_assoc r b b in
      let f : q * (2 * s) * b ≡ 2 * (s * b * q) = simp (mul_assoc, mul_comm, mul_left_comm) in
      let g : s * s * (b * b) + r * (b * b) ≡ m * (b * b) = sym (add-mul (s * s) r (b * b)) ∙ ap (λ (t : ℕ). t * (b * b)) w.whole in
      omega arith

  under : u * b ≤ 2 * (s * b)
  under = le_trans (mul-le-mul_right b (le_of_lt k)) (le_of_eq (mul_assoc 2 s b))

  kept : q * q ≤ u * b → IsWholeRoot (m * (b * b)) (s * b + q)
  kept h =
      let a = square in
      let l = under in
      let t = sq_suc (s * b + q) in
      record { below = omega arith; above = omega arith }

  one_less : u * b < q * q → IsWholeRoot (m * (b * b)) (s * b + q - 1)
  one_less h =
      let a = square in
      let f = some q h in
      let o = s * b + q - 1 in
      let v : o + 1 ≡ s * b + q = omega arith in
      let t : (s * b + q) * (s * b + q) ≡ o * o + 2 * o + 1 = subst (λ (y : ℕ). y * y ≡ o * o + 2 * o + 1) v (sq_suc o) in
      let g : q * q ≤ b * b = mul-le-mul quotient_le quotient_le in
      let x : b * b ≤ 2 * s * b = mul-le-mul_right b n in
      let y = mul_assoc 2 s b in
      record { below = omega arith; above = subst (λ (z : ℕ). m * (b * b) < z * z) (sym v) (omega arith) }
    where
      some : (q : ℕ) → u * b < q * q → 0 < q
      some zero h = omega arith
      some (suc q) h = omega arith

  pub step : IsWholeRoot (m * (b * b)) (s * b + q - cond (ltb (u * b) (q * q)) 1 0)
  step = go (ltb (u * b) (q * q)) (ltb→lt (u * b) (q * q)) (nltb→le (u * b) (q * q))
    where
      go : (c : Bool) → (T c → u * b < q * q) → (T (not c) → q * q ≤ u * b) → IsWholeRoot (m * (b * b)) (s * b + q - cond c 1 0)
      go true h i = one_less (h tt)
      go false h i = subst (λ (t : ℕ). IsWholeRoot (m * (b * b)) t) (sym (sub-zero (s * b + q))) (kept (i tt))

-- ---- at b = 2 ^ 27, for an m of 53 or 54 digits
pub record Parts (s r : ℕ) : Type 0 where
  pub least : 2 ^ 26 ≤ s
  pub most : s < 2 ^ 27
  pub rest : r ≤ 2 * s
  pub quotient : r * 2 ^ 27 / (2 * s) ≤ 2 ^ 27
  pub square : r * 2 ^ 27 / (2 * s) * (r * 2 ^ 27 / (2 * s)) ≤ 2 ^ 54
  pub remainder : r * 2 ^ 27 % (2 * s) < 2 * s

bounds : (m s r : ℕ) → 2 ^ 52 ≤ m → m < 2 ^ 54 → IsRootRem m s r → (2 ^ 26 ≤ s) × (s < 2 ^ 27)
bounds m s r lo hi w =
    let a = w.whole in
    let b = w.rest in
    let e = sq_suc s in
    let x : 2 ^ 26 < s + 1 = sq_lt_back (2 ^ 26) (s + 1) (omega arith) in
    let y : s < 2 ^ 27 = sq_lt_back s (2 ^ 27) (omega arith) in
    (omega arith, y)

pub parts : (m s r : ℕ) → 2 ^ 52 ≤ m → m < 2 ^ 54 → IsRootRem m s r → Parts s r
parts m s r lo hi w =
    let b = bounds m s r lo hi w in
    let n = r * 2 ^ 27 in
    let k : n % (2 * s) < 2 * s = mod-lt n (omega arith) in
    let q : n / (2 * s) ≤ 2 ^ 27 = quotient_le m s r (2 ^ 27) (n / (2 * s)) (n % (2 * s)) w (omega arith) (omega arith) (div-add-mod' n (2 * s)) k in
    record { least = b.0; most = b.1; rest = w.rest; quotient = q; square = mul-le-mul q q; remainder = k }

pub step_is : (m s r c : ℕ) → 2 ^ 52 ≤ m → m < 2 ^ 54 → IsRootRem m s r → c ≡ cond (ltb (r * 2 ^ 27 % (2 * s) * 2 ^ 27) (r * 2 ^ 27 / (2 * s) * (r * 2 ^ 27 / (2 * s)))) 1 0
    → IsWholeRoot (m * 2 ^ 54) (s * 2 ^ 27 + r * 2 ^ 27 / (2 * s) - c)
step_is m s r c lo hi w e =
    let b = bounds m s r lo hi w in
    let n = r * 2 ^ 27 in
    subst (λ (t : ℕ). IsWholeRoot (m * 2 ^ 54) (s * 2 ^ 27 + n / (2 * s) - t)) (sym e)
    (step m s r (2 ^ 27) (n / (2 * s)) (n % (2 * s)) w (omega arith) (omega arith) (div-add-mod' n (2 * s)) (mod-lt n (omega arith)))
