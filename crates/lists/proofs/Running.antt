-- What is left of a list of calls, as one more of them is made and at the end. Assumes nothing.
use Prim.Native.Nat.{ℕ, ◌+◌, ◌<◌, ◌≤◌}
use mathlib.Core.Path.{◌≡◌, refl, sym, ap, ◌∙◌}
use mathlib.Core.List.{List, [], ◌∷◌}
use lib.ListN.{length, drop, get_or}
use Rattle.std.proofs.lemmas.List.{at_drop_more, at_drop_all}
use Rattle.rosenbrock.specs.Stepper.{Call, Next, stepped}
use Rattle.dispatch.specs.Orders.{call_of}
use Rattle.lists.specs.declared.Entry.{Entry}
use Rattle.lists.specs.Run.{after}
use Rattle.lists.specs.Orders.{last_of, calls_of}

pub last_after : (r : Next) (cs : List Call) → (last_of r cs).system ≡ after r.system cs
unfolding last_of after
last_after r [] = refl
last_after r (c ∷ cs) = last_after (stepped c r.system) cs

-- r before the i-th call, z after it, and all of them lead to w
module _ (file : List ℕ) (es : List Entry) (i : ℕ) (r w : Next) (h : last_of r (calls_of file (drop i es)) ≡ w) where
  pub one_made : (d : Entry) (z : Next) → i < length es
      → z ≡ stepped (call_of (get_or es i d).order file (get_or es i d).values.now) r.system
      → last_of z (calls_of file (drop (i + 1) es)) ≡ w
  unfolding last_of calls_of
  one_made d z l e =
      ap (λ (q : Next). last_of q (calls_of file (drop (i + 1) es))) e
      ∙ sym (at_drop_more (λ xs. last_of r (calls_of file xs)) es i d l) ∙ h

  pub none_left : length es ≤ i → r ≡ w
  unfolding last_of calls_of
  none_left l = sym (at_drop_all (λ xs. last_of r (calls_of file xs)) es i l) ∙ h
