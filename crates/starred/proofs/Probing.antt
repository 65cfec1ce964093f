-- ★7: for so short a step the spacing rounds to 0, whatever the settings are, so the first probe is the next double, and the second would lie past the
-- end. Assumes nothing.
use mathlib.Core.Path.{◌≡◌, refl, sym, ap, ◌∙◌, subst}
use mathlib.Core.Bool.{Bool, true, false, ◌||◌, cond, true≢false, false≢true}
use mathlib.Core.List.{[], ◌∷◌}
use Prim.Native.Nat.{zero, suc, ◌*◌}
use native.Mathlib.Omega.{arith}
use lib.Dec.{T, lit<, lt→ltb}
use lib.Ieee.{Float, nan, inf, fin, binary64, up, down, is_nan, fits, lt, le, eq, ne, add, sub, mul, round, of_bits, to_bits}
use lib.Ieee.Scale.{finite}
use lib.Ieee.Fits.{mul-fits}
use lib.Ieee.Positive.{positive, mul_mono}
use borrow.Author.Tests.{le-ltb}
use Rattle.float.specs.Operators.{◌⊕◌, ◌⊖◌, ◌⊗◌, 𝟎}
use Rattle.float.specs.Constants.{half}
use Rattle.float.specs.Methods.{abs, max_num, min_num, signum}
use Rattle.float.proofs.Cases.{never, holds, or_right, or_yes_right}
use Rattle.float.proofs.Laws.{eq_zero}
use Rattle.float.proofs.Order.{not_lt_le}
use Rattle.float.proofs.Zeros.{negative, zeros_same, abs_plain, above_plain, max_plain, mul_plain}
use Rattle.vector.specs.Lists.{every, all_finite, el}
use Rattle.vector.proofs.Lists.{every_at}
use Rattle.std.specs.Prelude.{Ok, Err, None}
use Rattle.stepping.specs.declared.Refusal.TheVariants.{NonFinite, Direction}
use Rattle.stepping.specs.Refusals.{first_of}
use Rattle.stepping.proofs.Refusals.{passed, held, is_answered}
use Rattle.time_difference.specs.declared.TimeDifferencePolicy.{TimeDifferencePolicy}
use Rattle.time_difference.specs.Probes.{adjacent, first_probe, second_probe, missed, placed}
use Rattle.time_difference.specs.Policy.{default_policy, out_of_range, outside, refusal, endpoint, spacing, probes}
use Rattle.time_difference.proofs.Choice.{settings}
use Rattle.starred.specs.Table as table
use Rattle.starred.specs.Table.{2⁻¹⁰⁷⁴, Star7}

-- ---- numbers that are not below 0
positive_of : (x : Float) → finite x ≡ true → le x 𝟎 ≡ false → T (positive x)
positive_of nan f h = absurd (false≢true f)
positive_of (inf s) f h = absurd (false≢true f)
positive_of (fin true m e) f h = absurd (true≢false (above_plain (fin true m e) h))
positive_of (fin false zero e) f h = unfold le in never (or_yes_right (lt (fin false 0 e) 𝟎) (eq_zero false e)) h
positive_of (fin false (suc m) e) f h = lt→ltb 0 (suc m) (omega arith)

not_below : (x : Float) → negative x ≡ false → lt x 𝟎 ≡ false
unfolding lt of_bits
not_below nan n = refl
not_below (inf true) n = absurd (true≢false n)
not_below (inf false) n = refl
not_below (fin true m e) n = absurd (true≢false n)
not_below (fin false m e) n = le-ltb (m * up e * 1) (0 * 1 * down e) (omega arith)

-- one that is at most 0 is 0
zero_of : (x : Float) → T (fits binary64 x) → negative x ≡ false → le x 𝟎 ≡ true → x ≡ 𝟎
zero_of x f n h = zeros_same x 𝟎 f zero_fits n zero-plain (go (lt x 𝟎) (eq x 𝟎) (not_below x n) (unfold le in h)) zero-equal
  where
    go : (a b : Bool) → a ≡ false → (a || b) ≡ true → b ≡ true
    go true b p q = absurd (true≢false p)
    go false b p q = q

    zero_fits : T (fits binary64 𝟎)
    zero_fits = unfold fits of_bits in tt

    zero-plain : negative 𝟎 ≡ false
    zero-plain = unfold of_bits in refl

    zero-equal : eq 𝟎 𝟎 ≡ true
    zero-equal = unfold eq of_bits in refl

-- and so is one that is not above 0
zero_unless_above : (x : Float) → T (fits binary64 x) → negative x ≡ false → is_nan x ≡ false → lt 𝟎 x ≡ false → x ≡ 𝟎
zero_unless_above nan f n i h = unfold is_nan in absurd (true≢false i)
zero_unless_above (inf true) f n i h = absurd (true≢false n)
zero_unless_above (inf false) f n i h = unfold lt of_bits in absurd (true≢false h)
zero_unless_above (fin s m e) f n i h = zero_of (fin s m e) f n (not_lt_le 𝟎 (fin s m e) (unfold of_bits in refl) refl h)

told : (b : Bool) → T b → b ≡ true
told true t = refl
told false t = absurd t

module _ (p : TimeDifferencePolicy) (fit : refusal p table.zero 2⁻¹⁰⁷⁴ ≡ Ok tt) where
  abbrev part : Float
  part = p.maximum_fraction ⊗ 2⁻¹⁰⁷⁴

  abbrev relative : Float
  relative = p.relative_step ⊗ max_num p.scale (abs 2⁻¹⁰⁷⁴)

  fraction_finite : finite p.maximum_fraction ≡ true
  unfolding refusal all_finite
  fraction_finite =
      every_at (λ j. finite (el (table.zero ∷ 2⁻¹⁰⁷⁴ ∷ p.scale ∷ p.relative_step ∷ p.maximum_fraction ∷ []) j)) 5 4 (held NonFinite _ _ fit).0 (lit< tt)

  fraction_positive : T (positive p.maximum_fraction)
  fraction_positive = positive_of p.maximum_fraction fraction_finite (settings p table.zero 2⁻¹⁰⁷⁴ fit).fraction

  -- at most a half
  fraction_small : le p.maximum_fraction half ≡ true
  unfolding refusal out_of_range
  fraction_small =
      let right = (passed Direction (out_of_range p 2⁻¹⁰⁷⁴) _ (held NonFinite _ _ fit).1).0 in
      let a = or_right (eq 2⁻¹⁰⁷⁴ 𝟎) _ right in
      let b = or_right (le p.scale 𝟎) _ a in
      let c = or_right (le p.relative_step 𝟎) _ b in
      let d = or_right (le p.maximum_fraction 𝟎) _ c in
      not_lt_le half p.maximum_fraction (unfold of_bits in refl) fraction_finite d

  -- half of the least double rounds to 0
  half_of_least : half ⊗ 2⁻¹⁰⁷⁴ ≡ 𝟎
  unfolding mul round of_bits
  half_of_least = refl

  half-positive : T (positive half)
  unfolding of_bits
  half-positive = tt

  least_least : T (le 2⁻¹⁰⁷⁴ 2⁻¹⁰⁷⁴)
  unfolding le lt eq
  least_least = tt

  part_zero : part ≡ 𝟎
  part_zero =
      zero_of part (mul-fits binary64 p.maximum_fraction 2⁻¹⁰⁷⁴)
      (mul_plain p.maximum_fraction 2⁻¹⁰⁷⁴ (above_plain p.maximum_fraction (settings p table.zero 2⁻¹⁰⁷⁴ fit).fraction) refl)
      (subst (λ (x : Float). le part x ≡ true) half_of_least
      (told _ (mul_mono binary64 p.maximum_fraction half 2⁻¹⁰⁷⁴ 2⁻¹⁰⁷⁴ fraction_positive half-positive tt tt (holds fraction_small) least_least)))

  relative_plain : negative relative ≡ false
  relative_plain =
      let s = settings p table.zero 2⁻¹⁰⁷⁴ fit in
      mul_plain p.relative_step _ (above_plain p.relative_step s.relative)
      (max_plain p.scale (abs 2⁻¹⁰⁷⁴) (above_plain p.scale s.scale) (abs_plain 2⁻¹⁰⁷⁴))

  spacing_zero : spacing p 2⁻¹⁰⁷⁴ 2⁻¹⁰⁷⁴ ≡ 𝟎
  unfolding spacing
  spacing_zero = ap (min_num relative) part_zero ∙ go (is_nan relative) (lt 𝟎 relative) refl refl
    where
      go : (x y : Bool) → is_nan relative ≡ x → lt 𝟎 relative ≡ y → cond x 𝟎 (cond y 𝟎 relative) ≡ 𝟎
      go true y i h = refl
      go false true i h = refl
      go false false i h = zero_unless_above relative (mul-fits binary64 p.relative_step _) relative_plain i h

  reaches : table.zero ⊕ 2⁻¹⁰⁷⁴ ≡ 2⁻¹⁰⁷⁴
  unfolding add
  reaches = refl

  gap : abs (2⁻¹⁰⁷⁴ ⊖ table.zero) ≡ 2⁻¹⁰⁷⁴
  unfolding add sub abs
  gap = refl

  one_probe : placed table.zero (signum 2⁻¹⁰⁷⁴) 2⁻¹⁰⁷⁴ 𝟎 ≡ Ok (2⁻¹⁰⁷⁴, None)
  unfolding adjacent first_probe second_probe missed placed signum is_nan lt le eq add sub mul of_bits to_bits
  one_probe = refl

  probed : endpoint p.bounds 2⁻¹⁰⁷⁴ ≡ 2⁻¹⁰⁷⁴ → probes p table.zero 2⁻¹⁰⁷⁴ ≡ Ok (2⁻¹⁰⁷⁴, None)
  unfolding probes
  probed uncut =
      sym (is_answered Err fit
      (sym
      (ap (λ (end : Float). placed table.zero (signum 2⁻¹⁰⁷⁴) end (spacing p 2⁻¹⁰⁷⁴ (abs (end ⊖ table.zero)))) (ap (endpoint p.bounds) reaches ∙ uncut)
      ∙ ap (λ (v : Float). placed table.zero (signum 2⁻¹⁰⁷⁴) 2⁻¹⁰⁷⁴ (spacing p 2⁻¹⁰⁷⁴ v)) gap
      ∙ ap (placed table.zero (signum 2⁻¹⁰⁷⁴) 2⁻¹⁰⁷⁴) spacing_zero
      ∙ one_probe)))

default_fit : refusal default_policy table.zero 2⁻¹⁰⁷⁴ ≡ Ok tt
unfolding refusal default_policy out_of_range outside first_of every all_finite lt le eq ne add of_bits
default_fit = refl

default_uncut : endpoint default_policy.bounds 2⁻¹⁰⁷⁴ ≡ 2⁻¹⁰⁷⁴
unfolding endpoint default_policy
default_uncut = refl

pub star_7 : Star7
star_7 = (probed, probed default_policy default_fit default_uncut)
