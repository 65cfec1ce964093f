-- What is so of the refusal by which tests refuse, whichever test it is. Assumes nothing.
use mathlib.Core.Path.{◌≡◌, refl, subst}
use mathlib.Core.Bool.{Bool, true, false}
use mathlib.Core.List.{List, [], ◌∷◌}
use Rattle.std.specs.Prelude.{Result, Ok, Err, ⊤}
use Rattle.stepping.specs.declared.Refusal.{Refusal}
use Rattle.stepping.specs.Refusals.{Test, ◌when◌, first_of, unless_refused}

module _ (P : Refusal → Type 0) where
  abbrev pub First : List Test → Type 0
  First tests = (k : Refusal) → first_of tests ≡ Err k → P k

  pub none_first : First []
  unfolding first_of
  none_first k e = cc

  -- the others are reached where this one does not hold
  pub or_first : (k : Refusal) (b : Bool) (rest : List Test) → P k → (b ≡ false → First rest) → First ((k when b) ∷ rest)
  unfolding first_of
  or_first k true rest p f j e = let is : k ≡ j = cc in subst P is p
  or_first k false rest p f j e = f refl j e

-- what holds of every refusal by the tests, and of the answer where they are passed
pub either_known : {A : Type 0} (refused : Refusal → A) (P : A → Type 0) (r : Result ⊤ Refusal) (answer : A)
    → ((k : Refusal) → r ≡ Err k → P (refused k)) → (r ≡ Ok tt → P answer) → P (unless_refused refused r answer)
unfolding unless_refused
either_known refused P (Ok x) answer f g = g refl
either_known refused P (Err k) answer f g = f k refl
