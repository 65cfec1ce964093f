-- `part`: its length and its elements; a part that a store has made, and one that it has left. Assumes nothing.
use Rattle.std.proofs.lemmas.Grind.{common_steps}
use Prim.Native.Nat.{ℕ, ◌+◌, ◌<◌, ◌≤◌}
use native.Mathlib.Omega.{arith}
use mathlib.Core.Path.{◌≡◌, sym, ap, ◌∙◌}
use mathlib.Core.List.{List, ◌++◌}
use mathlib.Core.Logic.{◌⊎◌}
use lib.ListN.{length, take, drop, get_or}
use lib.Seq.{ext_get_or, take-add, take_all, drop-drop}
use Rattle.vector.specs.Lists.{table}
use Rattle.vector.specs.Parts.{part, puts}
use Rattle.vector.proofs.Lists.{length-table, table_at, table_own}
use Rattle.vector.proofs.Stores.{length-puts, puts_left, puts_held}

module _ {A : Type 0} where
  pub length_part : (at n : ℕ) (w : List A) → at + n ≤ length w → length (part at n w) ≡ n
  length_part at n w h = grind (arith, common_steps)

  pub part_at : (d : A) (at n : ℕ) (w : List A) (i : ℕ) → i < n → get_or (part at n w) i d ≡ get_or w (at + i) d
  part_at d at n w i h = grind (arith, common_steps)

  -- a part and the one right after it
  pub part_joined : (at n m : ℕ) (w : List A) → part at (n + m) w ≡ part at n w ++ part (at + n) m w
  part_joined at n m w = take-add n m (drop at w) ∙ ap (λ (l : List A). take n (drop at w) ++ take m l) (drop-drop n at w)

  -- a part given by its elements
  pub part-table : (d : A) (at n : ℕ) (w : List A) → at + n ≤ length w → part at n w ≡ table (λ i. get_or w (at + i) d) n
  part-table d at n w h =
      ext_get_or d _ _ (grind (arith, common_steps, length-table)) (λ i q. grind (arith, common_steps, length_part, part_at, table_at))

  -- what was stored, read back
  pub part-puts : (w : List A) (at : ℕ) (f : ℕ → A) (n : ℕ) (d : A) → at + n ≤ length w → part at n (puts w at f n) ≡ table f n
  part-puts w at f n d h =
      ext_get_or d _ _ (grind (arith, common_steps, length-table, length-puts)) (λ i q. grind (arith, common_steps, length-puts, length_part, part_at, puts_held, table_at))

  pub part_stored : (w : List A) (at : ℕ) (x : List A) (n : ℕ) (d : A) → length x ≡ n → at + n ≤ length w → part at n (puts w at (λ j. get_or x j d) n) ≡ x
  part_stored w at x n d h l = part-puts w at (λ j. get_or x j d) n d l ∙ table_own d x n h

  -- a list that is stored anew as a whole
  pub puts_all : (w : List A) (f : ℕ → A) (n : ℕ) (d : A) → length w ≡ n → puts w 0 f n ≡ table f n
  puts_all w f n d h = sym (take_all n (puts w 0 f n) (omega (arith, length-puts w 0 f n))) ∙ part-puts w 0 f n d (omega arith)

  -- a part beside the store
  pub part_left : (w : List A) (at : ℕ) (f : ℕ → A) (n a m : ℕ) (d : A) → a + m ≤ length w → (a + m ≤ at) ⊎ (at + n ≤ a) → part a m (puts w at f n) ≡ part a m w
  part_left w at f n a m d h o =
      ext_get_or d _ _ (grind (arith, common_steps, length-puts)) (λ i q. grind (arith, common_steps, length-puts, length_part, part_at, puts_left))
