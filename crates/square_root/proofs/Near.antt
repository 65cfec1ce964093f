-- `square_root` meets IEEE 754's words, `IsSquareRoot`: it is the value nearest to the root. Assumes nothing.
use mathlib.Core.Path.{◌≡◌, refl, sym, ap, ◌∙◌, subst}
use mathlib.Core.Logic.{inl, inr}
use Prim.Native.Nat.{ℕ, zero, suc, ◌+◌, ◌-◌, ◌*◌, ◌/◌, ◌%◌, ◌^◌, ◌≤◌, ◌<◌}
use native.Mathlib.Nat.{le_of_eq, le_of_lt, lt_of_lt_of_le, lt_of_le_of_lt, eq-or-lt_of_le, mul_comm, mul_assoc, mul-mul-mul_comm, mul-pos, zero-mul, two-mul}
use native.Mathlib.Omega.{arith}
use mathlib.Core.Bool.{true, false}
use lib.Dec.{T}
use lib.Count.{count_leading_zeros}
use lib.Pow.{pow-add, pow_pos, pow_mono, shl_lt}
use lib.Ieee.{Float, nan, inf, fin, binary64, up, down, odd, fits}
use lib.Ieee.Fits.{odd-fits}
use lib.Ieee.Exact.{HasValue, odd_sign}
use lib.Ieee.Positive.{num, den, positive, den_pos, value→cross, positive_of_value}
use Rattle.square_root.specs.Root.{square_root, root_of_units, significand, whole_root}
use Rattle.square_root.specs.Steps.{IsWholeRoot}
use Rattle.square_root.specs.Nearest.{NearestRoot, IsSquareRoot, plain, mid, ends}
use Rattle.float.proofs.Own.{fit, place}
use Rattle.square_root.proofs.Squares.{sq_scale}
use Rattle.square_root.proofs.Scale.{two_four, moved, normalised}
use Rattle.square_root.proofs.Whole.{root_is, half_is, sig_is, digits}
use Rattle.square_root.proofs.Gaps as G
use Rattle.float.proofs.Patterns.{digits_of, units_val}
use Rattle.square_root.proofs.Cases.{units_of}

-- ---- another value of the format, in units
record Units (z : Float) : Type 0 where
  pub g : ℕ
  pub j : ℕ
  pub few : g < 2 ^ 53
  pub val : num z * 2 ^ 1074 ≡ g * 2 ^ j * den z

units : (z : Float) → T (fits binary64 z) → T (plain z) → Units z
unfolding fits
units nan f p = absurd p
units (inf s) f p = absurd p
units (fin true m d) f p = absurd p
units (fin false zero d) f p = record { g = 0; j = 0; few = pow_pos 53; val = zeros (up d) (down d) }
  where
    zeros : (a b : ℕ) → 0 * a * 2 ^ 1074 ≡ 0 * 2 ^ 0 * b
    zeros a b = ap (λ (x : ℕ). x * 2 ^ 1074) (zero-mul a) ∙ sym (zero-mul b)
units (fin false (suc m) d) f p =
    let F = fit false m d f in
    let q = place (suc m) d F.fine in
    record { g = suc m; j = q.0; few = F.short; val = q.1 }

-- ---- the power of two that makes the squares comparable
scale : (n a h : ℕ) → a * 4 ^ h ≡ n * 2 ^ 52 → a * 2 ^ 54 * (2 ^ (h + 485) * 2 ^ (h + 485)) ≡ 4 * n * 2 ^ 1074
scale n a h e =
    let p : 2 ^ (h + 485) * 2 ^ (h + 485) ≡ 4 ^ h * 2 ^ 970 =
    ap (λ (x : ℕ). x * x) (pow-add 2 h 485) ∙ sq_scale (2 ^ h) (2 ^ 485) ∙ ap (λ (x : ℕ). x * 2 ^ 970) (sym (pow-add 2 h h) ∙ ap (λ (x : ℕ). 2 ^ x) (sym (two-mul h)) ∙ two_four h) in
    ap (λ (x : ℕ). a * 2 ^ 54 * x) p
    ∙ mul-mul-mul_comm a (2 ^ 54) (4 ^ h) (2 ^ 970)
    ∙ ap (λ (x : ℕ). x * 2 ^ 1024) e
    ∙ mul_assoc n (2 ^ 52) (2 ^ 1024)
    ∙ sym (mul_assoc n 4 (2 ^ 1074))
    ∙ ap (λ (x : ℕ). x * 2 ^ 1074) (mul_comm n 4)

-- ---- what the root's digits are
record Parts (a q : ℕ) : Type 0 where
  pub low : 2 ^ 52 ≤ (q + 1) / 2
  pub high : (q + 1) / 2 < 2 ^ 53
  pub two : 2 ≤ q
  pub some : 0 < (q + 1) / 2
  pub even : a * 2 ^ 54 % 2 ≡ 0
  pub big : 2 ^ 106 ≤ a * 2 ^ 54

parts : (a q : ℕ) → 2 ^ 52 ≤ a → 2 ^ 53 ≤ q → q + 2 ≤ 2 ^ 54 → Parts a q
parts a q l lo hi = record { low = omega arith; high = omega arith; two = omega arith; some = omega arith; even = omega arith; big = omega arith }

under_four : (a : ℕ) → a + 2 ≤ 2 ^ 54 → (a < 2 ^ 54) × (a * 2 ^ 54 < 4 ^ 54)
under_four a h = (omega arith, omega arith)

room : (h : ℕ) → h ≤ 1048 → 53 + (h + 485) ≤ 2098
room h t = omega arith

-- ---- the theorem at a positive value, by its digits
module _ (x : Float) (n a h : ℕ) (X : num x * 2 ^ 1074 ≡ n * den x) (e : a * 4 ^ h ≡ n * 2 ^ 52) (lo : 2 ^ 52 ≤ a) (hi : a + 2 ≤ 2 ^ 54) (t : h ≤ 1048) where
  near : NearestRoot x (root_of_units n)
  unfolding root_of_units
  near =
      let N = a * 2 ^ 54 in
      let q = whole_root 54 N in
      let A = under_four a hi in
      let hi' : a < 2 ^ 54 = A.0 in
      let b : IsWholeRoot N q = root_is 54 N A.1 in
      let D = digits a q lo hi b in
      let Y = (q + 1) / 2 in
      let K = h + 485 in
      let F = parts a q lo D.0 D.1 in
      let Y-lo = F.low in
      let Y-hi = F.high in
      let R = G.around N q F.even F.two b in
      let y = odd 53 false Y K 1074 in
      let val : HasValue y false (Y * 2 ^ K) (2 ^ 1074) = odd_sign 53 false Y K 1074 in
      let yv : num y * 2 ^ 1074 ≡ Y * 2 ^ K * den y = value→cross y (Y * 2 ^ K) (2 ^ 1074) val in
      let s = scale n a h e in
      let fit : T (fits binary64 y) = odd-fits binary64 53 false Y K Y-hi (le_of_lt Y-hi) (lt_of_lt_of_le (shl_lt 53 K Y-hi) (pow_mono (room h t))) in
      let po : T (positive y) = positive_of_value y (Y * 2 ^ K) (2 ^ 1074) val (mul-pos F.some (pow_pos K)) in
      let up_to : (z : Float) → T (fits binary64 z) → T (plain z) → num y * den z < num z * den y → 4 * num x * ends y z < mid y z * den x =
      (λ z f p.
      let u = units z f p in
      let w = u.g * 2 ^ u.j in
      G.over_fractions (2 ^ 1074) (num x) (den x) (num y) (den y) (num z) (den z) n (Y * 2 ^ K) w (pow_pos 1074) (den_pos x) (den_pos y) (den_pos z) X yv u.val
      (λ o. lt_of_le_of_lt (le_of_eq (sym s)) (G.over N Y K w R.1 (G.next_up Y K u.g u.j Y-lo u.few o)))) in
      let down_to : (z : Float) → T (fits binary64 z) → T (plain z) → num z * den y < num y * den z → mid y z * den x < 4 * num x * ends y z =
      (λ z f p.
      let u = units z f p in
      let w = u.g * 2 ^ u.j in
      G.under_fractions (2 ^ 1074) (num x) (den x) (num y) (den y) (num z) (den z) n (Y * 2 ^ K) w (pow_pos 1074) (den_pos x) (den_pos y) (den_pos z) X yv u.val
      (λ o. lt_of_lt_of_le (below N Y K u.g u.j Y-lo u.few R.0 F.big o) (le_of_eq s))) in
      subst (λ (r : Float). NearestRoot x r)
      (ap (λ (z : ℕ). odd 53 false z K 1074) (sym (sig_is n a h q e lo hi' b)) ∙ ap (λ (z : ℕ). odd 53 false (significand n) (z + 485) 1074) (sym (half_is n a h e lo hi')))
      (record { held = fit; positive = po; over = up_to; under = down_to })
    where
      below : (N Y K g j : ℕ) → 2 ^ 52 ≤ Y → g < 2 ^ 53 → (2 * Y - 1) * (2 * Y - 1) < N → 2 ^ 106 ≤ N → g * 2 ^ j < Y * 2 ^ K → (Y * 2 ^ K + g * 2 ^ j) * (Y * 2 ^ K + g * 2 ^ j) < N * (2 ^ K * 2 ^ K)
      below N Y K g j lo few r bigN o = elim (eq-or-lt_of_le lo) [
        | inl eq ↦ subst (λ (t : ℕ). (t * 2 ^ K + g * 2 ^ j) * (t * 2 ^ K + g * 2 ^ j) < N * (2 ^ K * 2 ^ K)) eq (G.under_least N K (g * 2 ^ j) bigN (subst (λ (t : ℕ). g * 2 ^ j < t * 2 ^ K) (sym eq) o))
        | inr l ↦ G.under N Y K (g * 2 ^ j) (lt_of_lt_of_le (pow_pos 52) lo) r (G.next_down Y K g j l few o)
      ]

pub square_root_is : (x : Float) → T (fits binary64 x) → IsSquareRoot x (square_root x)
unfolding square_root
square_root_is nan f = refl
square_root_is (inf true) f = refl
square_root_is (inf false) f = refl
square_root_is (fin s zero d) f = refl
square_root_is (fin true (suc m) d) f = refl
square_root_is (fin false (suc m) d) f =
    let D = digits_of m d f in
    let n = D.q * 2 ^ D.k in
    let z = count_leading_zeros 64 D.q - 11 in
    let j = D.k + 52 - z in
    let i = normalised D.q D.k z (moved D.q D.some D.few).2 D.low in
    subst (λ (t : ℕ). NearestRoot (fin false (suc m) d) (root_of_units t)) (sym (units_of (suc m) d D.q D.k D.is))
    (near (fin false (suc m) d) n (D.q * 2 ^ (z + j % 2)) (j / 2) (units_val (suc m) d D.q D.k D.is) i.value i.least i.most i.half)
