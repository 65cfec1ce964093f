-- A part of a long list: read, and written. Definitions only.
use Rattle.std.specs.Prelude.{ℕ, zero, suc, ◌+◌, ◌*◌, List, take, drop, set}

module _ {A : Type 0} where
  -- the n elements from `at` on
  abbrev pub part : ℕ → ℕ → List A → List A
  part at n w = take n (drop at w)

  -- w with f 0, .., f (n - 1) from `at` on; whatever is written, the length stays
  unfoldable pub puts : List A → ℕ → (ℕ → A) → ℕ → List A
  puts w at f zero = w
  puts w at f (suc k) = set (puts w at f k) (at + k) (f k)

  -- w with f 0, .., f (r - 1) in column k of the matrix of n columns that starts at `at`
  unfoldable pub puts_column : List A → ℕ → ℕ → ℕ → (ℕ → A) → ℕ → List A
  puts_column w at n k f zero = w
  puts_column w at n k f (suc r) = set (puts_column w at n k f r) (at + (r * n + k)) (f r)
