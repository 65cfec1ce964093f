-- A step with the host's Jacobian and time partial asks for at most three evaluations and one for each stage. Assumes nothing.
use Prim.Native.Nat.{ℕ, zero, suc, ◌+◌, ◌≤◌}
use native.Mathlib.Omega.{arith}
use mathlib.Core.Path.{◌≡◌, refl, ap}
use mathlib.Core.Bool.{Bool, true, false, cond}
use mathlib.Core.List.{List, [], ◌∷◌, ◌++◌}
use lib.ListN.{length}
use lib.Ieee.{Float, eq}
use Rattle.std.specs.Prelude.{Option, Some, None}
use Rattle.float.specs.Operators.{𝟎}
use Rattle.stepping.specs.Refusals.{Test, ◌when◌}
use Rattle.time_difference.specs.Policy.{probes}
use Rattle.tableau.specs.Tableau.{stages_of}
use Rattle.attempts.specs.declared.Ask.{Ask}
use Rattle.attempts.specs.declared.Ask.TheVariants.{Jacobian, TimePartial}
use Rattle.method.specs.Step.{Attempted, Evaluated, Caches, evaluated, reused}
use Rattle.method.specs.Schedule.{Item, evaluate, test, finite_test, unless_cached, derivative_items, columns_items, jacobian_items, probe_items, partial_items, matrix_items, stage_derivative_items, stage_items, stages_items, end_items, schedule, asks_for}
use Rattle.method.specs.Conversation.{requests_of}

abbrev evaluations : List Item → ℕ
evaluations [] = 0
evaluations (evaluate a t z ∷ items) = suc (evaluations items)
evaluations (test t ∷ items) = evaluations items

asks_few : (items : List Item) → length (asks_for items) ≤ evaluations items
unfolding asks_for
asks_few [] = omega arith
asks_few (evaluate a t z ∷ items) = let h = asks_few items in omega arith
asks_few (test (refusal when true) ∷ items) = omega arith
asks_few (test (refusal when false) ∷ items) = asks_few items

joined : (xs ys : List Item) → evaluations (xs ++ ys) ≡ evaluations xs + evaluations ys
joined [] ys = omega arith
joined (evaluate a t z ∷ xs) ys = let h = joined xs ys in omega arith
joined (test t ∷ xs) ys = joined xs ys

unless_few : {A : Type 0} (k : Option A) (items : List Item) → evaluations (unless_cached k items) ≤ evaluations items
unfolding unless_cached
unless_few (Some x) items = omega arith
unless_few None items = omega arith

one_or_none : (b : Bool) (t u v : Test) (a : Ask) (time : Float) (z : List Float) → evaluations (cond b [] (test t ∷ evaluate a time z ∷ test u ∷ []) ++ (test v ∷ [])) ≤ 1
one_or_none true t u v a time z = omega arith
one_or_none false t u v a time z = omega arith

module _ (p : Attempted) (e : Evaluated) where
  of_derivative : evaluations (derivative_items p e) ≡ 1
  unfolding derivative_items
  of_derivative = refl

  of_jacobian : p.host_jacobian ≡ true → evaluations (jacobian_items p e) ≡ 1
  unfolding jacobian_items
  of_jacobian h = ap (λ (b : Bool). evaluations (cond b (evaluate Jacobian p.t p.y ∷ []) (columns_items p e 0 p.n) ++ (finite_test e.J ∷ []))) h

  of_partial : p.host_time_partial ≡ true → evaluations (partial_items p e) ≡ 1
  unfolding partial_items
  of_partial h = ap (λ (b : Bool). evaluations (cond b (evaluate TimePartial p.t p.y ∷ []) (probe_items p e (probes p.policy p.t p.h)) ++ (finite_test e.fₜ ∷ []))) h

  of_matrix : evaluations (matrix_items p e) ≡ 0
  unfolding matrix_items
  of_matrix = refl

  of_stage : (i : ℕ) → evaluations (stage_items p e i) ≤ 1
  unfolding stage_items stage_derivative_items
  of_stage i = one_or_none (reused p e i) _ _ _ _ _ _

  of_stages : (i r : ℕ) → evaluations (stages_items p e i r) ≤ r
  unfolding stages_items
  of_stages i zero = omega arith
  of_stages i (suc r) = let h = of_stage i in let k = of_stages (suc i) r in omega (arith, joined (stage_items p e i) (stages_items p e (suc i) r))

  of_end : evaluations (end_items p e) ≡ 0
  unfolding end_items
  of_end = refl

module _ (p : Attempted) (c : Caches) (J : p.host_jacobian ≡ true) (fₜ : p.host_time_partial ≡ true) (few : stages_of p.tableau ≤ 8) where
  abbrev e : Evaluated
  e = evaluated p c

  schedule_few : evaluations (schedule p c) ≤ 11
  unfolding schedule
  schedule_few =
      let s = stages_of p.tableau in
      let first = derivative_items p e in
      let both = jacobian_items p e ++ partial_items p e in
      let rest = stages_items p e 0 s ++ end_items p e in
      let h₁ = unless_few c.derivative first in
      let h₂ = unless_few c.differentiation both in
      omega (
        arith,
        h₁,
        h₂,
        of_derivative p e,
        of_jacobian p e J,
        of_partial p e fₜ,
        of_matrix p e,
        of_stages p e 0 s,
        of_end p e,
        few,
        joined (jacobian_items p e) (partial_items p e),
        joined (stages_items p e 0 s) (end_items p e),
        joined (matrix_items p e) rest,
        joined (unless_cached c.differentiation both) (matrix_items p e ++ rest),
        joined (unless_cached c.derivative first) (unless_cached c.differentiation both ++ (matrix_items p e ++ rest)),
      )

  pub requests_few : (end : Float) → length (requests_of p end c) ≤ 11
  unfolding requests_of
  requests_few end = go (eq p.h 𝟎)
    where
      go : (b : Bool) → length (cond b [] (asks_for (schedule p c))) ≤ 11
      go true = omega arith
      go false = let h = asks_few (schedule p c) in let k = schedule_few in omega arith
