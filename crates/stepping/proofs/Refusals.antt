-- Laws of the tests that decide a refusal. Assumes nothing.
use mathlib.Core.Path.{◌≡◌, refl, sym, ap, ◌∙◌}
use mathlib.Core.Bool.{Bool, true, false, not}
use mathlib.Core.List.{List, [], ◌∷◌, ◌++◌}
use borrow.Author.Tests.{not-false}
use Rattle.std.specs.Prelude.{Result, Ok, Err, ⊤}
use Rattle.stepping.specs.declared.Refusal.{Refusal}
use Rattle.stepping.specs.Refusals.{Test, ◌when◌, first_of, unless_refused}

-- the first test holds, or the others decide
pub here : {b : Bool} (k : Refusal) (rest : List Test) → b ≡ true → first_of ((k when b) ∷ rest) ≡ Err k
unfolding first_of
here k rest h = simp h

pub later : {b : Bool} (k : Refusal) (rest : List Test) {r : Result ⊤ Refusal} → b ≡ false → first_of rest ≡ r → first_of ((k when b) ∷ rest) ≡ r
unfolding first_of
later k rest h e = simp h e

pub none : first_of [] ≡ Ok tt
unfolding first_of
none = refl

-- all were passed
pub passed : (k : Refusal) (b : Bool) (rest : List Test) → first_of ((k when b) ∷ rest) ≡ Ok tt → (b ≡ false) × (first_of rest ≡ Ok tt)
unfolding first_of
passed k true rest h = cc
passed k false rest h = (refl, h)

-- the same for a test of what has to hold
pub held : (k : Refusal) (b : Bool) (rest : List Test) → first_of ((k when not b) ∷ rest) ≡ Ok tt → (b ≡ true) × (first_of rest ≡ Ok tt)
held k b rest h = let p = passed k (not b) rest h in (not-false b p.0, p.1)

pub holds_later : {b : Bool} (k : Refusal) (rest : List Test) {r : Result ⊤ Refusal} → b ≡ true → first_of rest ≡ r → first_of ((k when not b) ∷ rest) ≡ r
holds_later k rest h e = later k rest (ap not h) e

-- tests one after the other: the first ones refuse, or they pass and the others decide
pub first_of_append : (xs ys : List Test) → first_of (xs ++ ys) ≡ unless_refused Err (first_of xs) (first_of ys)
unfolding first_of unless_refused
first_of_append [] ys = refl
first_of_append ((k when true) ∷ xs) ys = refl
first_of_append ((k when false) ∷ xs) ys = first_of_append xs ys

pub first_refused : (xs ys : List Test) {k : Refusal} → first_of xs ≡ Err k → first_of (xs ++ ys) ≡ Err k
unfolding unless_refused
first_refused xs ys e = first_of_append xs ys ∙ ap (λ (r : Result ⊤ Refusal). unless_refused Err r (first_of ys)) e

pub all_passed : (xs ys : List Test) → first_of xs ≡ Ok tt → first_of (xs ++ ys) ≡ first_of ys
unfolding unless_refused
all_passed xs ys e = first_of_append xs ys ∙ ap (λ (r : Result ⊤ Refusal). unless_refused Err r (first_of ys)) e

module _ {A : Type 0} (refused : Refusal → A) where
  pub is_refused : {r : Result ⊤ Refusal} {k : Refusal} (answer : A) → r ≡ Err k → refused k ≡ unless_refused refused r answer
  unfolding unless_refused
  is_refused answer e = sym (ap (λ (r : Result ⊤ Refusal). unless_refused refused r answer) e)

  pub is_answered : {r : Result ⊤ Refusal} {w answer : A} → r ≡ Ok tt → w ≡ answer → w ≡ unless_refused refused r answer
  unfolding unless_refused
  is_answered {r} {w} {answer} e h = h ∙ sym (ap (λ (r : Result ⊤ Refusal). unless_refused refused r answer) e)

  -- what holds of every refusal, and of the answer where none is refused
  pub either_way : (P : A → Type 0) (r : Result ⊤ Refusal) (answer : A) → ((k : Refusal) → P (refused k)) → (r ≡ Ok tt → P answer) → P (unless_refused refused r answer)
  unfolding unless_refused
  either_way P (Ok x) answer f g = g refl
  either_way P (Err k) answer f g = f k

-- a call that is refused as b does not hold, as by `finite`
pub stopped : (k : Refusal) (b : Bool) {r : Result ⊤ Refusal} {j : Refusal} → r ≡ first_of ((k when not b) ∷ []) → r ≡ Err j → (not b ≡ true) × (j ≡ k)
unfolding first_of
stopped k true e h = cc
stopped k false e h = (refl, cc)
