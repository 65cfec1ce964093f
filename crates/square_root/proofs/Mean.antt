-- The mean of g and m / g is not below the root of m, as (g + h) ^ 2 is at least 4 * g * h; and the way down from it to the root. Assumes nothing.
use mathlib.Core.Path.{◌≡◌, ap, subst}
use Prim.Native.Nat.{ℕ, zero, suc, ◌+◌, ◌-◌, ◌*◌, ◌/◌, ◌%◌, ◌^◌, ◌≤◌, ◌<◌}
use native.Mathlib.Nat.{lt_of_not-le, add_comm, mul_comm, mul-add, mul-le-mul, mod-lt, div-add-mod', div-lt_iff_lt-mul}
use native.Mathlib.Omega.{arith}
use native.Mathlib.Decide.{dec_le}
use Rattle.square_root.specs.Steps.{IsEstimate, IsAbove, IsRootRem}
use Rattle.square_root.proofs.Squares.{sq_sum, sq_suc, sq_twice, sq_lt, sq_lt_back}

-- with the larger of the two as the smaller and d
apart : (g d : ℕ) → 4 * (g * (g + d)) ≤ (g + (g + d)) * (g + (g + d))
apart g d =
    let a = sq_sum g (g + d) in
    let b = sq_sum g d in
    let e = mul-add g g d in
    omega arith

means : (g h : ℕ) → 4 * (g * h) ≤ (g + h) * (g + h)
means g h = go (dec_le g h)
  where
    go : Dec (g ≤ h) → 4 * (g * h) ≤ (g + h) * (g + h)
    go (yes l) = let e : g + (h - g) ≡ h = omega arith in subst (λ (t : ℕ). 4 * (g * t) ≤ (g + t) * (g + t)) e (apart g (h - g))
    go (no n) =
        let l = lt_of_not-le n in
        let e : h + (g - h) ≡ g = omega arith in
        let p : 4 * (h * g) ≤ (h + g) * (h + g) = subst (λ (t : ℕ). 4 * (h * t) ≤ (h + t) * (h + t)) e (apart h (g - h)) in
        let c = mul_comm g h in
        let d : (g + h) * (g + h) ≡ (h + g) * (h + g) = ap (λ (t : ℕ). t * t) (add_comm g h) in
        omega arith

pub mean : (m g : ℕ) → 0 < g → m < ((g + m / g) / 2 + 1) * ((g + m / g) / 2 + 1)
mean m g p =
    let q = m / g in
    let a = (g + q) / 2 in
    let e : q * g + m % g ≡ m = div-add-mod' m g in
    let l : m % g < g = mod-lt m p in
    let c = mul_comm q g in
    let d = mul-add g q 1 in
    let i : m < g * (q + 1) = omega arith in
    let j : 4 * (g * (q + 1)) ≤ (g + (q + 1)) * (g + (q + 1)) = means g (q + 1) in
    let k : g + (q + 1) ≤ 2 * (a + 1) = omega arith in
    let n : (g + (q + 1)) * (g + (q + 1)) ≤ 2 * (a + 1) * (2 * (a + 1)) = mul-le-mul k k in
    let t = sq_twice (a + 1) in
    omega arith

pub quotient : (m g : ℕ) → m < 2 ^ 54 → 2 ^ 25 ≤ g → m / g < 2 ^ 29
quotient m g h l = (div-lt_iff_lt-mul {k = g} (omega arith)).1 (omega arith)

pub heron_is : (m g : ℕ) → m < 2 ^ 54 → IsEstimate g → IsAbove m ((g + m / g) / 2)
heron_is m g h e =
    let l : 2 ^ 25 ≤ g = e.least in
    let u : g < 2 ^ 32 = e.most in
    let q = quotient m g h l in
    record { above = mean m g (omega arith); most = omega arith }

-- so the second step may start from the first
pub again : (m s : ℕ) → 2 ^ 52 ≤ m → IsAbove m s → IsEstimate s
again m s h a =
    let b = a.above in
    let l : 2 ^ 26 * 2 ^ 26 < (s + 1) * (s + 1) = omega arith in
    let k : 2 ^ 26 < s + 1 = sq_lt_back (2 ^ 26) (s + 1) l in
    record { least = omega arith; most = a.most }

-- ---- down to the root
pub square_fits : (m s : ℕ) → IsAbove m s → s * s < 2 ^ 64
square_fits m s a = sq_lt a.most

pub some : (m s : ℕ) → m < s * s → 0 < s
some m zero h = omega arith
some m (suc s) h = omega arith

pub one_less : (m s : ℕ) → IsAbove m s → m < s * s → IsAbove m (s - 1)
one_less m s a h =
    let p = some m s h in
    let e : s ≡ s - 1 + 1 = omega arith in
    record { above = subst (λ (t : ℕ). m < t * t) e h; most = omega (arith, a.most) }

pub at_root : (m s : ℕ) → IsAbove m s → s * s ≤ m → IsRootRem m s (m - s * s)
at_root m s a h = let b = a.above in let e = sq_suc s in record { whole = omega arith; rest = omega arith }
