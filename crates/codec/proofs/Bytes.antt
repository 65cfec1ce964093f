-- Numbers of four and eight bytes as std reads them. Assumes nothing.
use Prim.Native.Nat.{ℕ, suc, ◌+◌, ◌/◌, ◌<◌}
use native.Mathlib.Omega.{arith}
use mathlib.Core.Path.{◌≡◌, ap, ◌∙◌}
use mathlib.Core.List.{List}
use lib.ListN.{get_or, take, drop}
use Rattle.std.specs.Int.{w32, w64, from_le_bytes}
use Rattle.vector.proofs.Parts.{part_at}
use Rattle.codec.specs.Little.{little}

-- byte i of the k bytes from `at` on, which is byte j of all
byte : (s : List ℕ) (at k i j : ℕ) → i < k → at + i ≡ j → get_or (take k (drop at s)) i 0 ≡ get_or s j 0
byte s at k i j h e = part_at 0 at k s i h ∙ ap (λ (n : ℕ). get_or s n 0) e

pub four : (s : List ℕ) (at : ℕ) → from_le_bytes w32 (take 4 (drop at s)) ≡ little 4 s at
unfolding little
four s at =
    omega (
      arith,
      byte s at 4 0 at (omega arith) (omega arith),
      byte s at 4 1 (suc at) (omega arith) (omega arith),
      byte s at 4 2 (suc (suc at)) (omega arith) (omega arith),
      byte s at 4 3 (suc (suc (suc at))) (omega arith) (omega arith),
    )

pub eight : (s : List ℕ) (at : ℕ) → from_le_bytes w64 (take 8 (drop at s)) ≡ little 8 s at
unfolding little
eight s at =
    let a = suc (suc (suc (suc at))) in
    omega (
      arith,
      byte s at 8 0 at (omega arith) (omega arith),
      byte s at 8 1 (suc at) (omega arith) (omega arith),
      byte s at 8 2 (suc (suc at)) (omega arith) (omega arith),
      byte s at 8 3 (suc (suc (suc at))) (omega arith) (omega arith),
      byte s at 8 4 a (omega arith) (omega arith),
      byte s at 8 5 (suc a) (omega arith) (omega arith),
      byte s at 8 6 (suc (suc a)) (omega arith) (omega arith),
      byte s at 8 7 (suc (suc (suc a))) (omega arith) (omega arith),
    )

-- the upper four of eight bytes
pub upper_half : (s : List ℕ) (at : ℕ) → ((i : ℕ) → get_or s i 0 < 256) → little 8 s at / 0x1_0000_0000 ≡ little 4 s (at + 4)
unfolding little
upper_half s at B =
    let e : at + 4 ≡ suc (suc (suc (suc at))) = omega arith in
    let a = B at in
    let b = B (suc at) in
    let c = B (suc (suc at)) in
    let d = B (suc (suc (suc at))) in
    rw e (omega arith)
