-- The part of the work that a range spans: what is left where it was lent, filled, or copied, as `puts`. Assumes nothing.
use Prim.Native.Nat.{ℕ, zero, suc, ◌+◌, ◌-◌, ◌≤◌}
use native.Mathlib.Omega.{arith}
use mathlib.Core.Path.{◌≡◌, refl, sym, ap, ◌∙◌}
use mathlib.Core.List.{List, ◌++◌}
use lib.ListN.{length, set, drop, replicate, get_or-replicate, length-drop, length-replicate}
use lib.Seq.{drop-append-le, take-append-le, paste, paste-zero, paste-suc, get_or-drop, set-append_left}
use borrow.Rule.Slice.PartMut.{put_mid}
use lib.Ieee.{Float, nan}
use Rattle.vector.specs.Lists.{el}
use Rattle.vector.specs.Parts.{part, puts}
use Rattle.stages.specs.Layout.{Spans}
use Rattle.stages.specs.Memory.{component}
use Rattle.std.specs.declared.ops.Range.{Range}
use Rattle.vector.proofs.Stores.{length-puts, puts_same, mid_puts}
use Rattle.std.specs.List.{copy_within}

pub spanned : (r : Range ℕ) (w : List Float) (at n : ℕ) → Spans r at n → part r.start (r.end - r.start) w ≡ part at n w
spanned r w at n e = let k : at + n - at ≤ n = omega arith in let h : n ≤ at + n - at = omega arith in let q : at + n - at ≡ n = omega arith in rw (e.0, e.1, q) refl

-- it has come back as x
pub returned : (r : Range ℕ) (w x : List Float) (at n : ℕ) → Spans r at n → at + n ≤ length w → length x ≡ n → put_mid r.start (r.end - r.start) w x ≡ puts w at (el x) n
returned r w x at n e h l = let q : at + n - at ≡ n = omega arith in rw (e.0, e.1, q) (mid_puts nan at n w x h l)

-- it has come back filled with v
pub filled : (r : Range ℕ) (w x : List Float) (at n m : ℕ) (v : Float) → Spans r at n → at + n ≤ length w → m ≡ n → x ≡ replicate m v → put_mid r.start (r.end - r.start) w x ≡ puts w at (λ j. v) n
filled r w x at n m v e h q l =
    returned r w x at n e h (ap length l ∙ length-replicate m v ∙ q)
    ∙ puts_same w at (el x) (λ j. v) n (λ j i. ap (λ (y : List Float). el y j) l ∙ get_or-replicate m j v nan (omega arith))

-- it was of the first part a of the work, which is joined with the rest b again
halved : (a b : List Float) (at : ℕ) (f : ℕ → Float) (n : ℕ) → at + n ≤ length a → puts a at f n ++ b ≡ puts (a ++ b) at f n
unfolding puts
halved a b at f zero h = refl
halved a b at f (suc n) h =
    sym (set-append_left (puts a at f n) b (at + n) (f n) (omega (arith, length-puts a at f n))) ∙ ap (λ (x : List Float). set x (at + n) (f n)) (halved a b at f n (omega arith))

pub joined : (r : Range ℕ) (w a b x : List Float) (at n : ℕ) → Spans r at n → w ≡ a ++ b → at + n ≤ length a → length x ≡ n
    → put_mid r.start (r.end - r.start) a x ++ b ≡ puts w at (el x) n
joined r w a b x at n e q h l =
    ap (λ (y : List Float). y ++ b) (returned r a x at n e h l) ∙ halved a b at (el x) n h ∙ ap (λ (y : List Float). puts y at (el x) n) (sym q)

-- it was copied to another place
pasted : (w x : List Float) (to n : ℕ) → to + n ≤ length w → n ≤ length x → paste w to x n ≡ puts w to (el x) n
unfolding puts
pasted w x to zero h l = sym (paste-zero w to x)
pasted w x to (suc n) h l =
    sym (paste-suc w to x n nan (omega arith) (omega arith)) ∙ ap (λ (y : List Float). set y (to + n) (el x n)) (pasted w x to n (omega arith) (omega arith))

pub copied : (r : Range ℕ) (w : List Float) (from n to : ℕ) → Spans r from n → from + n ≤ length w → to + n ≤ length w
    → copy_within w r.start r.end to ≡ puts w to (component w from) n
copied r w from n to e h l =
    let z : from + n - from ≡ n = omega arith in
    rw (e.0, e.1, z) (pasted w (drop from w) to n l (omega (arith, length-drop from w)))
    ∙ puts_same w to (el (drop from w)) (component w from) n (λ k b. get_or-drop from w k nan)

-- a part of the first part a of the work
pub in_front : (w a b : List Float) (at n : ℕ) → w ≡ a ++ b → at + n ≤ length a → part at n w ≡ part at n a
in_front w a b at n e h = rw (e, drop-append-le at a b (omega arith)) (take-append-le n (drop at a) b (omega (arith, length-drop at a)))
