-- Squares of whole numbers. Assumes nothing.
use mathlib.Core.Path.{◌≡◌}
use Prim.Native.Nat.{ℕ, ◌+◌, ◌*◌, ◌≤◌, ◌<◌, zero-le}
use native.Mathlib.Nat.{le_refl, le_of_lt, lt_of_le_of_lt, lt_of_not-le, not-le_of_lt, mul_comm, mul_assoc, mul_left_comm, mul-add, add-mul, mul-le-mul, mul-lt-mul_of_pos_right}
use native.Mathlib.Omega.{arith}

pub sq_sum : (x y : ℕ) → (x + y) * (x + y) ≡ x * x + 2 * (x * y) + y * y
sq_sum x y = let a = mul-add (x + y) x y in let b = add-mul x y x in let c = add-mul x y y in let d = mul_comm x y in omega arith

pub sq_suc : (x : ℕ) → (x + 1) * (x + 1) ≡ x * x + 2 * x + 1
sq_suc x = let a = sq_sum x 1 in omega arith

pub sq_twice : (x : ℕ) → 2 * x * (2 * x) ≡ 4 * (x * x)
sq_twice x = let a = mul_assoc 2 x (2 * x) in let b = mul_comm x (2 * x) in let d = mul_assoc 2 x x in omega arith

pub sq_scale : (a p : ℕ) → a * p * (a * p) ≡ a * a * (p * p)
sq_scale a p = simp (mul_assoc, mul_comm, mul_left_comm)

pub sq_lt : {a b : ℕ} → a < b → a * a < b * b
sq_lt {a} {b} h = lt_of_le_of_lt (mul-le-mul (le_refl a) (le_of_lt h)) (mul-lt-mul_of_pos_right h (lt_of_le_of_lt zero-le h))

-- a number whose square is above another's is above it
pub sq_lt_back : (a b : ℕ) → a * a < b * b → a < b
sq_lt_back a b h = lt_of_not-le (λ (g : b ≤ a). not-le_of_lt h (mul-le-mul g g))

pub sq_le_back : (a b : ℕ) → a * a < (b + 1) * (b + 1) → a ≤ b
sq_le_back a b h = let l = sq_lt_back a (b + 1) h in omega arith
