-- What the functions below `sqrt` ensure, on whole numbers. No contract of a public function cites these. Definitions only.
use Rattle.std.specs.Prelude.{◌≡◌, ℕ, ◌+◌, ◌*◌, ◌^◌, ◌≤◌, ◌<◌, cond, ltb}

-- m * 2 ^ k is a * 4 ^ h / 2 ^ 52, and a has 53 or 54 digits
pub record IsNormalised (m k a h : ℕ) : Type 0 where
  pub value : a * 4 ^ h ≡ m * 2 ^ k * 2 ^ 52
  pub least : 2 ^ 52 ≤ a
  pub most : a + 2 ≤ 2 ^ 54
  pub half : h ≤ 1048

-- g may divide, and its square fits 64 bits
pub record IsEstimate (g : ℕ) : Type 0 where
  pub least : 2 ^ 25 ≤ g
  pub most : g < 2 ^ 32

-- s is not below the whole part of m's root, and its square fits 64 bits
pub record IsAbove (m s : ℕ) : Type 0 where
  pub above : m < (s + 1) * (s + 1)
  pub most : s < 2 ^ 32

-- s is the whole part of m's root, and r what its square leaves
pub record IsRootRem (m s r : ℕ) : Type 0 where
  pub whole : s * s + r ≡ m
  pub rest : r ≤ 2 * s

-- c is 1 if a is below b, and 0 otherwise
pub record IsBelow (a b c : ℕ) : Type 0 where
  pub is : c ≡ cond (ltb a b) 1 0
  pub most : c ≤ 1

-- s is the whole part of n's root
pub record IsWholeRoot (n s : ℕ) : Type 0 where
  pub below : s * s ≤ n
  pub above : n < (s + 1) * (s + 1)
