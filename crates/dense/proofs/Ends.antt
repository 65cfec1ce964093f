-- At either end every component is the state's own, bit for bit; and a time that the segment contains is finite, so the Rust's own test for that
-- decides nothing. Assumes nothing.
use mathlib.Core.Path.{◌≡◌, refl, sym}
use mathlib.Core.Bool.{Bool, true, false, ◌&&◌, cond, true≢false}
use mathlib.Core.Logic.{◌⊎◌, inl, inr, ⊎_elim}
use lib.ListN.{length}
use lib.Ieee.{Float, nan, inf, fin, lt, le, eq}
use lib.Ieee.Scale.{finite}
use Rattle.float.proofs.Cases.{and_left, and_right}
use Rattle.vector.specs.Lists.{table}
use Rattle.dense.specs.Segment.{Segment, size, component}
use Rattle.dense.specs.Interpolation.{contains}
use Rattle.dense.proofs.Answers.{at_start, at_end}

pub start_is : (s : Segment) (time : Float) → eq time s.start_time ≡ true → s.start_state ≡ table (component s time) (size s)
start_is s time h = at_start s time h refl

pub end_is : (s : Segment) (time : Float) → eq time s.start_time ≡ false → eq time s.end_time ≡ true → length s.end_state ≡ size s → s.end_state ≡ table (component s time) (size s)
end_is s time h k l = at_end s time h k l refl

-- between two finite values
amid : (a b t : Float) → finite a ≡ true → finite b ≡ true → le a t ≡ true → le t b ≡ true → finite t ≡ true
unfolding le lt eq
amid nan b t f g h k = absurd (true≢false (sym f))
amid (inf s) b t f g h k = absurd (true≢false (sym f))
amid (fin s m e) nan t f g h k = absurd (true≢false (sym g))
amid (fin s m e) (inf u) t f g h k = absurd (true≢false (sym g))
amid (fin s m e) (fin u n d) nan f g h k = absurd (true≢false (sym h))
amid (fin s m e) (fin u n d) (inf true) f g h k = absurd (true≢false (sym h))
amid (fin s m e) (fin u n d) (inf false) f g h k = absurd (true≢false (sym k))
amid (fin s m e) (fin u n d) (fin v j c) f g h k = refl

either : (b p q r s : Bool) → cond b (p && q) (r && s) ≡ true → ((p ≡ true) × (q ≡ true)) ⊎ ((r ≡ true) × (s ≡ true))
either true p q r s h = inl (and_left p q h, and_right p q h)
either false p q r s h = inr (and_left r s h, and_right r s h)

pub contained_finite : (a b t : Float) → finite a ≡ true → finite b ≡ true → contains a b t ≡ true → finite t ≡ true
unfolding contains
contained_finite a b t f g h =
    ⊎_elim (λ w. amid a b t f g w.0 w.1) (λ w. amid b a t g f w.0 w.1) (either (lt a b) (le a t) (le t b) (le b t) (le t a) h)
