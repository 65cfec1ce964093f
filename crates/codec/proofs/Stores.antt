-- Numbers of four and eight bytes as std stores them. Assumes nothing.
use Prim.Native.Nat.{ℕ, ◌+◌, ◌/◌, ◌≤◌}
use native.Mathlib.Omega.{arith}
use mathlib.Core.Path.{◌≡◌, refl, sym, ap, ◌∙◌}
use mathlib.Core.List.{List, ◌++◌, append_assoc}
use lib.ListN.{length, take, drop}
use lib.Seq.{sets, drop-drop}
use borrow.Rule.Slice.PartMut.{put_mid}
use Rattle.std.proofs.Math.Seq.{sets-eq}
use Rattle.std.specs.Int.{w32, w64, to_le_bytes}
use Rattle.codec.specs.Little.{bytes_of}

-- a part that came back is a run of stores
mid_sets : (l v : List ℕ) (at k : ℕ) → at + k ≤ length l → length v ≡ k → put_mid at k l v ≡ sets l at v
mid_sets l v at k h e =
    ap (λ (r : List ℕ). take at l ++ (v ++ r)) (drop-drop k at l ∙ ap (λ (n : ℕ). drop (at + n) l) (sym e)) ∙ sym (append_assoc (take at l) v (drop (at + length v) l)) ∙ sym (sets-eq v l at (omega arith))

bytes_four : (x : ℕ) → to_le_bytes w32 x ≡ bytes_of 4 x
unfolding bytes_of
bytes_four x =
    let b : x / 65536 ≡ x / 256 / 256 = omega arith in
    let c : x / 16777216 ≡ x / 256 / 256 / 256 = omega arith in
    rw (b, c)

bytes_eight : (x : ℕ) → to_le_bytes w64 x ≡ bytes_of 8 x
unfolding bytes_of
bytes_eight x =
    let b : x / 65536 ≡ x / 256 / 256 = omega arith in
    let c : x / 16777216 ≡ x / 256 / 256 / 256 = omega arith in
    let d : x / 4294967296 ≡ x / 256 / 256 / 256 / 256 = omega arith in
    let e : x / 1099511627776 ≡ x / 256 / 256 / 256 / 256 / 256 = omega arith in
    let f : x / 281474976710656 ≡ x / 256 / 256 / 256 / 256 / 256 / 256 = omega arith in
    let g : x / 72057594037927936 ≡ x / 256 / 256 / 256 / 256 / 256 / 256 / 256 = omega arith in
    rw (b, c, d, e, f, g)

pub four_stored : (l : List ℕ) (at x : ℕ) → at + 4 ≤ length l → put_mid at 4 l (to_le_bytes w32 x) ≡ sets l at (bytes_of 4 x)
four_stored l at x h = mid_sets l (to_le_bytes w32 x) at 4 h refl ∙ ap (sets l at) (bytes_four x)

pub eight_stored : (l : List ℕ) (at x : ℕ) → at + 8 ≤ length l → put_mid at 8 l (to_le_bytes w64 x) ≡ sets l at (bytes_of 8 x)
eight_stored l at x h = mid_sets l (to_le_bytes w64 x) at 8 h refl ∙ ap (sets l at) (bytes_eight x)
