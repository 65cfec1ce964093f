-- What `sqrt`'s tests tell of x: the four answers at once, and what is left, the positive finite values. Assumes nothing.
use mathlib.Core.Path.{◌≡◌, refl, sym, ap, ◌∙◌, subst}
use Prim.Native.Nat.{ℕ, zero, suc, ◌+◌, ◌-◌, ◌*◌, ◌/◌, ◌%◌, ◌^◌, ◌≤◌, ◌<◌}
use native.Mathlib.Nat.{mul-div_cancel}
use mathlib.Core.Bool.{true, false, true≢false, false≢true}
use lib.IntN.{ℤ}
use lib.Dec.{T}
use lib.Ieee.{Float, nan, inf, fin, binary64, down, odd, fits, eq, ne, lt, div, of_bits, to_bits}
use lib.Ieee.Fits.{down_pos}
use lib.Ieee.Bits.{of_bits-to_bits}
use lib.Ieee.Compare.{differs_from_itself}
use Rattle.float.proofs.Cases.{holds, never}
use Rattle.float.proofs.Laws.{lt_plus, lt_minus, lt_zero, eq_some, eq_zero}
use Rattle.square_root.specs.Root.{square_root, root_of_units, in_units}
use Rattle.float.proofs.Patterns.{pattern_pos, pattern_lt, of_subnormal, of_normal, units_val}

-- ---- the answers at once
pub at_nan : (x : Float) → ne x x ≡ true → x ≡ square_root x
unfolding square_root
at_nan x e = subst (λ (y : Float). y ≡ square_root y) (sym (differs_from_itself x (holds e))) refl

pub at_zero : (x : Float) → eq x (of_bits binary64 0) ≡ true → x ≡ square_root x
unfolding square_root
at_zero nan e = unfold eq in absurd (false≢true e)
at_zero (inf s) e = unfold eq of_bits in absurd (false≢true e)
at_zero (fin s zero d) e = refl
at_zero (fin s (suc m) d) e = never e (eq_some s m d)

pub at_minus : (x : Float) → lt x (of_bits binary64 0) ≡ true → div binary64 (of_bits binary64 0) (of_bits binary64 0) ≡ square_root x
unfolding div of_bits square_root
at_minus nan e = unfold lt in absurd (false≢true e)
at_minus (inf true) e = refl
at_minus (inf false) e = unfold lt in absurd (false≢true e)
at_minus (fin s zero d) e = never e (lt_zero s d)
at_minus (fin true (suc m) d) e = refl
at_minus (fin false (suc m) d) e = never e (lt_plus (suc m) d)

pub at_inf : (x : Float) → T (fits binary64 x) → to_bits binary64 x ≡ 0x7ff0_0000_0000_0000 → x ≡ square_root x
unfolding of_bits square_root
at_inf x f e = let i : x ≡ inf false = sym (of_bits-to_bits binary64 x f) ∙ ap (of_bits binary64) e in subst (λ (y : Float). y ≡ square_root y) (sym i) refl

-- ---- what is left
abbrev pub Positive : Float → Type 0
Positive x = (m : ℕ) × (d : ℤ) × (x ≡ fin false (suc m) d)

pub left : (x : Float) → ne x x ≡ false → eq x (of_bits binary64 0) ≡ false → lt x (of_bits binary64 0) ≡ false → (to_bits binary64 x ≡ 0x7ff0_0000_0000_0000 → ⊥) → Positive x
left nan n e l i = unfold ne in absurd (true≢false n)
left (inf true) n e l i = unfold lt of_bits in absurd (true≢false l)
left (inf false) n e l i = unfold to_bits in absurd (i refl)
left (fin s zero d) n e l i = never (eq_zero s d) e
left (fin true (suc m) d) n e l i = never (lt_minus m d) l
left (fin false (suc m) d) n e l i = (m, d, refl)

pub units_of : (m : ℕ) (d : ℤ) (q k : ℕ) → fin false m d ≡ odd 53 false q k 1074 → in_units m d ≡ q * 2 ^ k
units_of m d q k e = ap (λ (y : ℕ). y / down d) (units_val m d q k e) ∙ mul-div_cancel (q * 2 ^ k) (down_pos d)

-- its pattern, and the root by its digits
module _ (x : Float) (f : T (fits binary64 x)) (p : Positive x) where
  at : T (fits binary64 (fin false (suc p.0) p.1))
  at = subst (λ (y : Float). T (fits binary64 y)) p.2 f

  pub pattern_some : 0 < to_bits binary64 x
  pattern_some = subst (λ (y : Float). 0 < to_bits binary64 y) (sym p.2) (pattern_pos p.0 p.1 at)

  pub pattern_under : to_bits binary64 x < 0x7ff0_0000_0000_0000
  pattern_under = subst (λ (y : Float). to_bits binary64 y < 0x7ff0_0000_0000_0000) (sym p.2) (pattern_lt p.0 p.1 at)

  from_digits : (q k : ℕ) → fin false (suc p.0) p.1 ≡ odd 53 false q k 1074 → root_of_units (q * 2 ^ k) ≡ square_root x
  unfolding square_root
  from_digits q k e = ap root_of_units (sym (units_of (suc p.0) p.1 q k e)) ∙ ap square_root (sym p.2)

  pub at_subnormal : to_bits binary64 x < 2 ^ 52 → root_of_units (to_bits binary64 x * 2 ^ 0) ≡ square_root x
  at_subnormal h = from_digits (to_bits binary64 x) 0 (of_subnormal p.0 p.1 at (to_bits binary64 x) (ap (to_bits binary64) (sym p.2)) h)

  pub at_normal : 2 ^ 52 ≤ to_bits binary64 x → root_of_units ((to_bits binary64 x % 2 ^ 52 + 2 ^ 52) * 2 ^ (to_bits binary64 x / 2 ^ 52 - 1)) ≡ square_root x
  at_normal h =
      from_digits (to_bits binary64 x % 2 ^ 52 + 2 ^ 52) (to_bits binary64 x / 2 ^ 52 - 1)
      (of_normal p.0 p.1 at (to_bits binary64 x) (ap (to_bits binary64) (sym p.2)) h pattern_under)
