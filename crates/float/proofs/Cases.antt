-- Laws of Bool: a definition that goes by `cond`, one test at a time, with no rewriting of the goal; tests that are joined. Assumes nothing.
use mathlib.Core.Path.{◌≡◌, refl, sym, ◌∙◌, subst}
use mathlib.Core.Bool.{Bool, true, false, not, ◌&&◌, ◌||◌, cond, true≢false}
use lib.Dec.{T}
use borrow.Author.Tests.{not-true, not-false}

module _ {A : Type 0} where
  -- the first arm is taken, or the second; q goes on inside it. The other arm is written `_`
  pub yes : {b : Bool} {w x : A} (y : A) → b ≡ true → w ≡ x → w ≡ cond b x y
  yes y h q = simp h q

  pub no : {b : Bool} {w y : A} (x : A) → b ≡ false → w ≡ y → w ≡ cond b x y
  no x h q = simp h q

  -- a test is true or false
  pub by : (b : Bool) → (b ≡ true → A) → (b ≡ false → A) → A
  by true t f = t refl
  by false t f = f refl

  -- and not both
  pub never : {b : Bool} → b ≡ true → b ≡ false → A
  never p q = absurd (true≢false (sym p ∙ q))

-- as a type
pub holds : {b : Bool} → b ≡ true → T b
holds e = subst T (sym e) tt

-- a call that answers b, tested by `!`
pub told_no : {r b : Bool} → r ≡ b → not r ≡ true → b ≡ false
told_no {r} e h = sym e ∙ not-true r h

pub told_yes : {r b : Bool} → r ≡ b → not r ≡ false → b ≡ true
told_yes {r} e h = sym e ∙ not-false r h

-- a call that joins what two calls answered
pub joined : {r x y a b : Bool} → r ≡ (x && y) → x ≡ a → y ≡ b → r ≡ (a && b)
joined p q s = cc

pub both : {a b : Bool} → a ≡ true → b ≡ true → (a && b) ≡ true
both e h = simp (e, h)

pub and_no : {a : Bool} (b : Bool) → a ≡ false → (a && b) ≡ false
and_no b e = simp e

pub and_no_right : (a : Bool) {b : Bool} → b ≡ false → (a && b) ≡ false
and_no_right true h = h
and_no_right false h = refl

pub and_left : (a b : Bool) → (a && b) ≡ true → a ≡ true
and_left true b h = refl
and_left false b h = h

pub and_right : (a b : Bool) → (a && b) ≡ true → b ≡ true
and_right true b h = h
and_right false true h = refl
and_right false false h = h

pub neither : {a b : Bool} → a ≡ false → b ≡ false → (a || b) ≡ false
neither p q = simp (p, q)

pub or_left : (a b : Bool) → (a || b) ≡ false → a ≡ false
or_left true b h = absurd (true≢false h)
or_left false b h = refl

pub or_right : (a b : Bool) → (a || b) ≡ false → b ≡ false
or_right true b h = absurd (true≢false h)
or_right false b h = h

pub or_yes : {a : Bool} (b : Bool) → a ≡ true → (a || b) ≡ true
or_yes b p = simp p

pub or_yes_right : (a : Bool) {b : Bool} → b ≡ true → (a || b) ≡ true
or_yes_right true p = refl
or_yes_right false p = p
