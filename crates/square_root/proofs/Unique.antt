-- One value meets IEEE 754's words, `IsSquareRoot`: so they say as much as the function `square_root`. Assumes nothing.
use mathlib.Core.Path.{◌≡◌, refl, sym, ap, ◌∙◌, subst}
use Prim.Native.Nat.{ℕ, zero, suc, ◌*◌, ◌≤◌, ◌<◌}
use native.Mathlib.Nat.{le_antisymm, lt_irrefl, lt_trans, lt_of_not-le, mul_comm, add_comm}
use native.Mathlib.Decide.{dec_le}
use mathlib.Core.Bool.{true, false}
use lib.Dec.{T}
use lib.Ieee.{Float, nan, inf, fin, binary64, up, down, fits}
use lib.Ieee.Fits.{down_pos}
use lib.Ieee.Positive.{num, den, positive}
use Rattle.float.proofs.Own.{value_one}
use Rattle.square_root.specs.Root.{square_root}
use Rattle.square_root.specs.Nearest.{NearestRoot, IsSquareRoot, plain, mid, ends}
use Rattle.square_root.proofs.Near.{square_root_is}

-- two positive values that are the same fraction are the same
same_fraction : (x y : Float) → T (fits binary64 x) → T (fits binary64 y) → T (positive x) → T (positive y) → num x * den y ≡ num y * den x → x ≡ y
same_fraction nan y f g p q h = absurd p
same_fraction (inf s) y f g p q h = absurd p
same_fraction (fin true m d) y f g p q h = absurd p
same_fraction (fin false m d) nan f g p q h = absurd q
same_fraction (fin false m d) (inf t) f g p q h = absurd q
same_fraction (fin false m d) (fin true n e) f g p q h = absurd q
same_fraction (fin false zero d) (fin false n e) f g p q h = absurd p
same_fraction (fin false (suc m) d) (fin false zero e) f g p q h = absurd q
same_fraction (fin false (suc m) d) (fin false (suc n) e) f g p q h = value_one (fin false (suc m) d) false n e (suc n * up e) (down e) f g (down_pos e) (refl, h) (refl, refl)

positive-plain : (x : Float) → T (positive x) → T (plain x)
positive-plain nan p = p
positive-plain (inf s) p = p
positive-plain (fin true m d) p = p
positive-plain (fin false m d) p = tt

-- the middle of y and z, and of z and y
mid_comm : (y z : Float) → mid y z ≡ mid z y
mid_comm y z = ap (λ (t : ℕ). t * t) (add_comm (num y * den z) (num z * den y))

ends_comm : (y z : Float) → ends y z ≡ ends z y
ends_comm y z = ap (λ (t : ℕ). t * t) (mul_comm (den y) (den z))

-- were y below z, the root would lie below their middle by y's claim and above it by z's
no_below : (x y z : Float) → NearestRoot x y → NearestRoot x z → num z * den y ≤ num y * den z
no_below x y z a b = go (dec_le (num z * den y) (num y * den z))
  where
    go : Dec (num z * den y ≤ num y * den z) → num z * den y ≤ num y * den z
    go (yes h) = h
    go (no n) =
        let l = lt_of_not-le n in
        let p : 4 * num x * ends y z < mid y z * den x = a.over z b.held (positive-plain z b.positive) l in
        let q : mid z y * den x < 4 * num x * ends z y = b.under y a.held (positive-plain y a.positive) l in
        let q' : mid y z * den x < 4 * num x * ends y z = subst (λ (t : ℕ). t * den x < 4 * num x * ends y z) (mid_comm z y) (subst (λ (t : ℕ). mid z y * den x < 4 * num x * t) (ends_comm z y) q) in
        absurd (lt_irrefl (mid y z * den x) (lt_trans q' p))

root_unique : (x y z : Float) → NearestRoot x y → NearestRoot x z → y ≡ z
root_unique x y z a b = same_fraction y z a.held b.held a.positive b.positive (le_antisymm (no_below x z y b a) (no_below x y z a b))

pub unique : (x y z : Float) → T (fits binary64 x) → IsSquareRoot x y → IsSquareRoot x z → y ≡ z
unique nan y z f h k = h ∙ sym k
unique (inf true) y z f h k = h ∙ sym k
unique (inf false) y z f h k = h ∙ sym k
unique (fin s zero d) y z f h k = h ∙ sym k
unique (fin true (suc m) d) y z f h k = h ∙ sym k
unique (fin false (suc m) d) y z f h k = root_unique (fin false (suc m) d) y z h k

-- with `square_root_is`, which says that there is one: the relation determines the function
pub square_root_unique : (x y : Float) → T (fits binary64 x) → IsSquareRoot x y → y ≡ square_root x
square_root_unique x y f h = unique x y (square_root x) f h (square_root_is x f)
