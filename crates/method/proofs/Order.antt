-- The requests of a step come in the order of specs/Turns. Assumes nothing.
use Prim.Native.Nat.{ℕ, zero, suc, ◌+◌, ◌-◌}
use native.Mathlib.Omega.{arith}
use mathlib.Core.Path.{◌≡◌, refl, sym, ap, subst}
use mathlib.Core.Bool.{Bool, true, false, cond, ◌&&◌}
use mathlib.Core.List.{List, [], ◌∷◌, ◌++◌}
use lib.Dec.{eqb}
use borrow.Author.Tests.{eqb-true}
use lib.Ieee.{Float, eq}
use Rattle.std.specs.Prelude.{Option, Some, None, is_some, Result, Ok, Err}
use Rattle.float.specs.Operators.{𝟎}
use Rattle.float.proofs.Cases.{never, and_left, and_right}
use Rattle.stepping.specs.declared.Refusal.{Refusal}
use Rattle.stepping.specs.Refusals.{Test}
use Rattle.time_difference.specs.Policy.{probes}
use Rattle.tableau.specs.Tableau.{stages_of, c_of}
use Rattle.attempts.specs.declared.Ask.{Ask}
use Rattle.attempts.specs.declared.Ask.TheVariants.{Jacobian, TimePartial, Stage}
use Rattle.method.specs.Step.{Attempted, Evaluated, Differentiation, Caches, evaluated, reused}
use Rattle.method.specs.Schedule.{Item, evaluate, test, finite_test, unless_cached, derivative_items, column_items, columns_items, jacobian_items, probe_items, partial_items, matrix_items, stage_derivative_items, stage_items, stages_items, end_items, schedule}
use Rattle.method.specs.Turns.{probe_count, before_jacobian, before_partial, before_stages, place}

-- the asks among the items have the places k, .., l - 1, in order
unfoldable pub InOrder : (Ask → ℕ) → ℕ → List Item → ℕ → Type 0
InOrder at k [] l = k ≡ l
InOrder at k (evaluate a t y ∷ items) l = (at a ≡ k) × InOrder at (suc k) items l
InOrder at k (test t ∷ items) l = InOrder at k items l

module _ (at : Ask → ℕ) where
  joined : (k l m : ℕ) (xs ys : List Item) → InOrder at k xs l → InOrder at l ys m → InOrder at k (xs ++ ys) m
  unfolding InOrder
  joined k l m [] ys h q = subst (λ (i : ℕ). InOrder at i ys m) (sym h) q
  joined k l m (evaluate a t y ∷ xs) ys h q = (h.0, joined (suc k) l m xs ys h.1 q)
  joined k l m (test t ∷ xs) ys h q = joined k l m xs ys h q

  moved : {k k' l l' : ℕ} (xs : List Item) → k ≡ k' → l ≡ l' → InOrder at k xs l → InOrder at k' xs l'
  moved {k} {k'} {l} {l'} xs e f h = subst (λ (i : ℕ). InOrder at k' xs i) f (subst (λ (i : ℕ). InOrder at i xs l) e h)

-- the stages' places: z says whether the first one's c is a zero
reused_place : (z : Bool) (i : ℕ) → (eqb i 0 && z) ≡ true → cond z (i - 1) i ≡ cond z (suc i - 1) (suc i)
reused_place true i h = omega (arith, eqb-true i 0 (and_left (eqb i 0) true h))
reused_place false i h = never (and_right (eqb i 0) false h) refl

fresh_place : (z : Bool) (i : ℕ) → (eqb i 0 && z) ≡ false → suc (cond z (i - 1) i) ≡ cond z (suc i - 1) (suc i)
fresh_place true zero h = cc
fresh_place true (suc i) h = omega arith
fresh_place false i h = refl

module _ (p : Attempted) (c : Caches) where
  abbrev at : Ask → ℕ
  at = place p c

  abbrev e : Evaluated
  e = evaluated p c

  of_derivative : InOrder at 0 (unless_cached c.derivative (derivative_items p e)) (before_jacobian p c)
  unfolding InOrder unless_cached derivative_items before_jacobian place
  of_derivative = go c.derivative
    where
      go : (d : Option (List Float)) → InOrder at 0 (unless_cached d (derivative_items p e)) (cond (is_some d) 0 1)
      go None = (refl, refl)
      go (Some v) = refl

  of_columns : (r k : ℕ) → InOrder at (before_jacobian p c + k) (columns_items p e k r) (before_jacobian p c + (k + r))
  unfolding InOrder columns_items column_items place
  of_columns zero k = omega arith
  of_columns (suc r) k = (refl, moved at (columns_items p e (suc k) r) (omega arith) (omega arith) (of_columns r (suc k)))

  of_jacobian : InOrder at (before_jacobian p c) (jacobian_items p e) (before_partial p c)
  unfolding InOrder jacobian_items before_partial place
  of_jacobian = go p.host_jacobian
    where
      go : (b : Bool)
          → InOrder at (before_jacobian p c) (cond b (evaluate Jacobian p.t p.y ∷ []) (columns_items p e 0 p.n) ++ (finite_test e.J ∷ [])) (before_jacobian p c + cond b 1 p.n)
      go true = (refl, omega arith)
      go false =
          joined at _ _ _ (columns_items p e 0 p.n) (finite_test e.J ∷ [])
          (moved at (columns_items p e 0 p.n) (omega arith) (omega arith) (of_columns p.n 0)) refl

  of_probes : (q : Result (Float × Option Float) Refusal) → InOrder at (before_partial p c) (probe_items p e q) (before_partial p c + probe_count q)
  unfolding InOrder probe_items probe_count place
  of_probes (Ok (a, None)) = (refl, omega arith)
  of_probes (Ok (a, Some b)) = (refl, (refl, omega arith))
  of_probes (Err k) = omega arith

  abbrev after_partial : ℕ
  after_partial = before_partial p c + cond p.host_time_partial 1 (probe_count (probes p.policy p.t p.h))

  of_partial : InOrder at (before_partial p c) (partial_items p e) after_partial
  unfolding InOrder partial_items place
  of_partial = go p.host_time_partial
    where
      q : Result (Float × Option Float) Refusal
      q = probes p.policy p.t p.h

      go : (b : Bool)
          → InOrder at (before_partial p c) (cond b (evaluate TimePartial p.t p.y ∷ []) (probe_items p e (probes p.policy p.t p.h)) ++ (finite_test e.fₜ ∷ []))
          (before_partial p c + cond b 1 (probe_count (probes p.policy p.t p.h)))
      go true = (refl, omega arith)
      go false = joined at _ _ _ (probe_items p e (probes p.policy p.t p.h)) (finite_test e.fₜ ∷ []) (of_probes (probes p.policy p.t p.h)) refl

  of_differentiation : InOrder at (before_jacobian p c) (unless_cached c.differentiation (jacobian_items p e ++ partial_items p e)) (before_stages p c)
  unfolding InOrder unless_cached before_stages
  of_differentiation = go c.differentiation
    where
      go : (d : Option Differentiation)
          → InOrder at (before_jacobian p c) (unless_cached d (jacobian_items p e ++ partial_items p e)) (cond (is_some d) (before_jacobian p c) after_partial)
      go None = joined at _ _ _ (jacobian_items p e) (partial_items p e) of_jacobian of_partial
      go (Some v) = refl

  -- how many requests come before stage i's
  abbrev before : ℕ → ℕ
  before i = before_stages p c + cond (eq (c_of p.tableau 0) 𝟎) (i - 1) i

  asked_or_not : (i : ℕ) (b : Bool) (t u v w : Test) (time : Float) (z : List Float) → (b ≡ true → before i ≡ before (suc i)) → (b ≡ false → suc (before i) ≡ before (suc i))
      → InOrder at (before i) (test t ∷ (cond b [] (test u ∷ evaluate (Stage i) time z ∷ test v ∷ []) ++ (test w ∷ []))) (before (suc i))
  unfolding InOrder place
  asked_or_not i true t u v w time z h k = h refl
  asked_or_not i false t u v w time z h k = (refl, k refl)

  of_stage : (i : ℕ) → InOrder at (before i) (stage_items p e i) (before (suc i))
  unfolding stage_items stage_derivative_items reused
  of_stage i =
      let z = eq (c_of p.tableau 0) 𝟎 in
      asked_or_not i (eqb i 0 && z) _ _ _ _ _ _
      (λ h. ap (λ (j : ℕ). before_stages p c + j) (reused_place z i h))
      (λ h. let k = fresh_place z i h in omega arith)

  of_stages : (r i : ℕ) → InOrder at (before i) (stages_items p e i r) (before (i + r))
  unfolding InOrder stages_items
  of_stages zero i = ap before (omega arith)
  of_stages (suc r) i =
      joined at _ _ _ (stage_items p e i) (stages_items p e (suc i) r) (of_stage i)
      (moved at (stages_items p e (suc i) r) refl (ap before (omega arith)) (of_stages r (suc i)))

  pub in_order : InOrder at 0 (schedule p c) (before (0 + stages_of p.tableau))
  unfolding schedule InOrder matrix_items end_items
  in_order =
      let s = stages_of p.tableau in
      let rest = stages_items p e 0 s ++ end_items p e in
      let both = jacobian_items p e ++ partial_items p e in
      joined at _ _ _ (unless_cached c.derivative (derivative_items p e)) (unless_cached c.differentiation both ++ (matrix_items p e ++ rest)) of_derivative
      (joined at _ _ _ (unless_cached c.differentiation both) (matrix_items p e ++ rest) of_differentiation
      (joined at _ (before 0) _ (matrix_items p e) rest first_place (joined at _ _ _ (stages_items p e 0 s) (end_items p e) (of_stages s 0) refl)))
    where
      first_place : before_stages p c ≡ before 0
      first_place = go (eq (c_of p.tableau 0) 𝟎)
        where
          go : (z : Bool) → before_stages p c ≡ before_stages p c + cond z (0 - 1) 0
          go true = omega arith
          go false = omega arith
