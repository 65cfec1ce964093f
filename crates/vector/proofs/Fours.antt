-- A list tested by fours, each four by one sum. Assumes nothing.
use Prim.Native.Nat.{ℕ, zero, suc, ◌*◌, ◌/◌, ◌≤◌}
use native.Mathlib.Omega.{arith}
use mathlib.Core.Path.{◌≡◌, refl, sym, ap, ◌∙◌}
use mathlib.Core.Bool.{Bool, true, false, ◌&&◌, cond}
use mathlib.Core.List.{List, [], ◌∷◌}
use lib.ListN.{length, take, drop, take-append-drop}
use lib.IntN.{pos}
use lib.Ieee.{Float, nan, inf, fin, le, lt, eq, add, sub, neg, sum, round, of_bits}
use lib.Ieee.Scale.{finite}
use Rattle.float.specs.Operators.{◌⊕◌, ◌⊖◌, 𝟎}
use Rattle.float.proofs.Laws.{minus_self}
use Rattle.std.specs.List.{list_all}
use Rattle.std.specs.Simd.{first_chunks}
use Rattle.std.proofs.lemmas.List.Folds.{list_all-append}
use Rattle.vector.specs.Lists.{four_finite, all_finite}
use Rattle.vector.proofs.Lists.{every_all}

-- ---- one sum of differences
-- 0 or a NaN
abbrev zero_if : Bool → Float
zero_if b = cond b (fin false 0 (pos 0)) nan

self : (x : Float) → x ⊖ x ≡ zero_if (finite x)
self nan = unfold sub add in refl
self (inf true) = unfold sub add neg in refl
self (inf false) = unfold sub add neg in refl
self (fin s m e) = minus_self s m e

joined : (p q : Bool) → zero_if p ⊕ zero_if q ≡ zero_if (p && q)
unfolding add sum round
joined true true = refl
joined true false = refl
joined false q = refl

tested : (p : Bool) → le 𝟎 (zero_if p) ≡ p
unfolding le lt eq of_bits
tested true = refl
tested false = refl

crossed : (p q r s : Bool) → (p && r && (q && s)) ≡ (p && q && r && s)
crossed true true r s = refl
crossed true false true s = refl
crossed true false false s = refl
crossed false q r s = refl

pub four_is : (a b c d : Float) → le 𝟎 (a ⊖ a ⊕ (c ⊖ c) ⊕ (b ⊖ b ⊕ (d ⊖ d))) ≡ (finite a && finite b && finite c && finite d)
four_is a b c d =
    rw (self a, self b, self c, self d, joined (finite a) (finite c), joined (finite b) (finite d), joined (finite a && finite c) (finite b && finite d))
    (tested (finite a && finite c && (finite b && finite d)) ∙ crossed (finite a) (finite b) (finite c) (finite d))

-- ---- the chunks
and_assoc : (a b c : Bool) → (a && b && c) ≡ (a && (b && c))
and_assoc true b c = refl
and_assoc false b c = refl

chunks : (k : ℕ) (x : List Float) → k * 4 ≤ length x → list_all four_finite (first_chunks 4 k x) ≡ list_all finite (take (k * 4) x)
chunks zero x h = refl
chunks (suc k) [] h = absurd (omega arith)
chunks (suc k) (a ∷ []) h = absurd (omega arith)
chunks (suc k) (a ∷ b ∷ []) h = absurd (omega arith)
chunks (suc k) (a ∷ b ∷ c ∷ []) h = absurd (omega arith)
chunks (suc k) (a ∷ b ∷ c ∷ d ∷ x) h =
    let p : suc k * 4 ≡ suc (suc (suc (suc (k * 4)))) = omega arith in
    rw (p, chunks k x (omega arith)) (simp and_assoc)

pub by_fours : (x : List Float) → all_finite x ≡ (list_all four_finite (first_chunks 4 (length x / 4) x) && list_all finite (drop (length x / 4 * 4) x))
unfolding all_finite
by_fours x =
    let n = length x / 4 in
    every_all finite x nan
    ∙ ap (list_all finite) (sym (take-append-drop (n * 4) x))
    ∙ list_all-append finite (take (n * 4) x) (drop (n * 4) x)
    ∙ ap (λ (b : Bool). b && list_all finite (drop (n * 4) x)) (sym (chunks n x (omega arith)))
