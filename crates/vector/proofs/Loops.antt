-- Loops that store as they count: the laws in the form in which a tactic applies them, named by `using(vector::proofs::Loops::storing)`.
-- The invariant is `l.work ≡ puts l.initial.work l.to f l.k`, with 0 for l.to where a whole slice is stored. Assumes nothing.
use Prim.Native.Nat.{ℕ, ◌+◌, ◌<◌, ◌≤◌}
use native.Mathlib.Omega.{arith}
use native.Mathlib.Nat.{zero-add}
use mathlib.Core.Path.{◌≡◌, refl, sym, ap, ◌∙◌}
use mathlib.Core.List.{List}
use mathlib.Core.Logic.{inl, inr}
use lib.ListN.{length, get_or, set}
use lib.Ieee.{Float, nan}
use Rattle.vector.specs.Lists.{table}
use Rattle.vector.specs.Parts.{puts, puts_column}
use Rattle.vector.proofs.Stores.{puts_left, puts_more, puts_both}
use Rattle.vector.proofs.Lists.{every_none, every_next, every_still}
use Rattle.vector.proofs.Parts.{puts_all}
use Rattle.vector.proofs.Columns.{column_more}

module _ {A : Type 0} where
  -- nothing is stored yet
  pub puts_none : (w : List A) (at : ℕ) (f : ℕ → A) → w ≡ puts w at f 0
  unfolding puts
  puts_none w at f = refl

  -- what is not stored yet, or lies before
  pub get_or_puts_past : (w : List A) (at : ℕ) (f : ℕ → A) (k j : ℕ) (d : A) → at + k ≤ j → get_or (puts w at f k) j d ≡ get_or w j d
  get_or_puts_past w at f k j d h = puts_left d w at f k j (inr h)

  pub get_or_puts_before : (w : List A) (at : ℕ) (f : ℕ → A) (k j : ℕ) (d : A) → j < at → get_or (puts w at f k) j d ≡ get_or w j d
  get_or_puts_before w at f k j d h = puts_left d w at f k j (inl h)

  -- the same from the front on
  pub front_next : (w : List A) (f : ℕ → A) (k : ℕ) {v : A} → v ≡ f k → set (puts w 0 f k) k v ≡ puts w 0 f (k + 1)
  front_next w f k {v} e = ap (λ (i : ℕ). set (puts w 0 f k) i v) (sym (zero-add k)) ∙ puts_more w 0 f k e

  pub get_or_front_past : (w : List A) (f : ℕ → A) (k j : ℕ) (d : A) → k ≤ j → get_or (puts w 0 f k) j d ≡ get_or w j d
  get_or_front_past w f k j d h = puts_left d w 0 f k j (inr (omega arith))

  pub column_none : (w : List A) (at n k : ℕ) (f : ℕ → A) → w ≡ puts_column w at n k f 0
  unfolding puts_column
  column_none w at n k f = refl

-- all is stored
pub front_table : (w : List Float) (f : ℕ → Float) (n : ℕ) → length w ≡ n → puts w 0 f n ≡ table f n
front_table w f n h = puts_all w f n nan h

pub ruleset storing = (puts_none, puts_more, puts_both, get_or_puts_past, get_or_puts_before, front_next, get_or_front_past, front_table, column_none, column_more)

-- a loop that gathers tests, or goes on while they hold
pub ruleset testing = (every_none, every_next, every_still)
