-- A buffer that is filled from the front. Assumes nothing.
use Prim.Native.Nat.{ℕ, ◌+◌, ◌-◌, ◌≤◌}
use mathlib.Core.Path.{◌≡◌, sym, ap, subst, ◌∙◌}
use mathlib.Core.List.{List, ◌++◌}
use lib.ListN.{length, take}
use lib.Seq.{take-append-le, take-append-add, length-take-le}
use Rattle.std.specs.Prelude.{Option, None, Some, IfSome}
use Rattle.std.specs.Io.KnownBytes.{Consumes}
use Rattle.forecast.specs.Failing.{ReadsFile}
use borrow.Rule.Slice.PartMut.{put_mid, post_of}

-- what a read puts into the rest of a buffer comes after what stands before it
pub front_grows : (from n : ℕ) (buf part : List ℕ) → from ≤ length buf → n ≤ length part
    → take from buf ++ take n part ≡ take (from + n) (put_mid from (length buf - from) buf part)
front_grows from n buf part within fits =
    let front = take from buf in
    let rest = part ++ post_of from (length buf - from) buf in
    let long : length front ≡ from = length-take-le from buf within in
    ap (λ (l : List ℕ). front ++ l) (sym (take-append-le n part (post_of from (length buf - from) buf) fits))
    ∙ sym (take-append-add front rest n)
    ∙ ap (λ (m : ℕ). take (m + n) (front ++ rest)) long

-- what pond reads is the file
pub reads_file : (known rest : Option (List ℕ)) (file : List ℕ) → Consumes known rest file → IfSome known (λ bytes. file ≡ take 761 bytes) → ReadsFile known rest
reads_file None rest file h e = tt
reads_file (Some bytes) rest file h e = subst (Consumes (Some bytes) rest) e h
