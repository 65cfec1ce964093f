-- The time partial of an open attempt, from the host or from probes, conforms to that of its step. Assumes nothing.
use Prim.Native.Nat.{ℕ, ◌+◌, ◌*◌, ◌≤◌}
use native.Mathlib.Omega.{arith}
use mathlib.Core.Path.{◌≡◌, refl, ap, ◌∙◌}
use mathlib.Core.List.{List, ◌∷◌, ◌++◌, append_assoc}
use mathlib.Core.Logic.{inl, inr}
use lib.ListN.{length}
use lib.Ieee.{Float, nan}
use Rattle.float.specs.Operators.{◌⊖◌}
use Rattle.float.proofs.Cases.{yes, no}
use Rattle.vector.specs.Lists.{el, table, all_finite}
use Rattle.vector.specs.Parts.{part, puts}
use Rattle.vector.proofs.Parts.{part_left, part_stored}
use Rattle.std.specs.Prelude.{Option, Some, None, Result, Ok, Err}
use Rattle.stepping.specs.declared.Refusal.{Refusal}
use Rattle.time_difference.specs.Policy.{probes}
use Rattle.time_difference.specs.Probes.{partial}
use Rattle.tableau.specs.Tableau.{stages_of}
use Rattle.stages.specs.Layout.{current_at, time_partial_at, probe_rhs_at, jacobian_at, needed_work}
use Rattle.differentiation.specs.Memory.{with_partial}
use Rattle.differentiation.proofs.Writes.{partial_written}
use Rattle.attempts.specs.Marks.{noting, with_probes, with_request_time}
use Rattle.attempts.specs.declared.Ask.TheVariants.{TimePartial, FirstProbe, SecondProbe}
use Rattle.attempts.specs.Attempt.{Scratch, on_work, on_marks, choose, partial_done, combine, ask_first_probe, ask_partial, written, resume, wanted}
use Rattle.refusals.specs.Answers.{state_asked}
use Rattle.refusals.specs.Tests.{pivots_unfit}
use Rattle.rosenbrock.specs.Calls.{given_by}
use Rattle.method.specs.Step.{Attempted, Evaluated, probed_partial, partial_at}
use Rattle.method.specs.Schedule.{Item, finite_test, probe_items, partial_items, matrix_items, stages_items, end_items}
use Rattle.method.proofs.Conforms.{Open, step_in, given_in, supplied, Conforms, stops, goes_on, chooses, asks, asks_rhs}
use Rattle.method.proofs.Holds.{stored, Sums, sums_kept}
use Rattle.method.proofs.Matrix.{factors}

-- what is there before the time partial
pub record Known (p : Attempted) (e : Evaluated) (s : ℕ) (w : List Float) : Type 0 where
  pub sums : Sums p e s 0 w
  pub derivative_there : part (current_at p.n) p.n w ≡ e.f₀
  pub jacobian_there : part (jacobian_at p.n) (p.n * p.n) w ≡ e.J

-- a store from the time partial on, before the Jacobian
known_kept : (p : Attempted) (e : Evaluated) (s : ℕ) (w : List Float) (at : ℕ) (f : ℕ → Float) (k : ℕ) → 4 * p.n ≤ at → at + k ≤ 8 * p.n
    → Known p e s w → Known p e s (puts w at f k)
known_kept p e s w at f k low high h =
    let but = stored w at f k in
    let long = h.sums.long in
    record {
      sums = sums_kept but h.sums (omega arith);
      derivative_there = but.left (current_at p.n) p.n (omega arith) (inl (omega arith)) ∙ h.derivative_there;
      jacobian_there = but.left (jacobian_at p.n) (p.n * p.n) (omega arith) (inr (omega arith)) ∙ h.jacobian_there;
    }

-- what follows the time partial
abbrev pub matrix_on : Attempted → Evaluated → List Item
matrix_on p e = matrix_items p e ++ (stages_items p e 0 (stages_of p.tableau) ++ end_items p e)

module _ (o : Open) where
  abbrev p : Attempted
  p = step_in o

  partial_done_lem : (sc : Scratch) → Known p o.e o.fx.s sc.work → part (time_partial_at o.fx.n) o.fx.n sc.work ≡ o.e.fₜ → length sc.pivots ≡ o.fx.n
      → Conforms o (finite_test o.e.fₜ ∷ matrix_on p o.e) (partial_done (given_in o) sc)
  unfolding partial_done on_marks noting given_by
  partial_done_lem sc h there rows =
      goes_on _ (ap all_finite there)
      (λ _. factors o _ h.sums
      (record { derivative_there = h.derivative_there; jacobian_there = h.jacobian_there; partial_there = there }) rows)

  -- the probes' values are combined
  combines : (sc : Scratch) (a b : List Float) → Known p o.e o.fx.s sc.work → part (time_partial_at o.fx.n) o.fx.n sc.work ≡ a → part (probe_rhs_at o.fx.n) o.fx.n sc.work ≡ b
      → (let memo = sc.marks.memo in
      table (λ k. partial memo.two_probes (el o.e.f₀ k) (el a k) (el b k) (memo.first_probe ⊖ o.x.time) (memo.second_probe ⊖ o.x.time)) o.fx.n ≡ o.e.fₜ)
      → length sc.pivots ≡ o.fx.n → Conforms o (finite_test o.e.fₜ ∷ matrix_on p o.e) (combine (given_in o) sc)
  unfolding combine on_work given_by with_partial
  combines sc a b h ea eb is rows =
      let long = h.sums.long in
      partial_done_lem _ (known_kept p o.e o.fx.s sc.work (time_partial_at o.fx.n) _ o.fx.n (omega arith) (omega arith) h)
      (partial_written o.fx.n sc.work _ _ _ o.e.f₀ a b (omega arith) h.derivative_there ea eb ∙ is) rows

  probed : (q : Result (Float × Option Float) Refusal) (sc : Scratch) → Known p o.e o.fx.s sc.work → probed_partial p o.e.f₀ q ≡ o.e.fₜ → length sc.pivots ≡ o.fx.n
      → Conforms o (probe_items p o.e q ++ (finite_test o.e.fₜ ∷ matrix_on p o.e)) (ask_first_probe (given_in o) q sc)
  unfolding pivots_unfit ask_first_probe probe_items probed_partial partial on_marks on_work noting with_probes with_request_time resume written choose given_by state_asked wanted needed_work
  probed (Err k) sc h is rows = stops sc
  probed (Ok (a, None)) sc h is rows =
      let n = o.fx.n in
      let long = h.sums.long in
      let v = o.answer FirstProbe a o.m.state in
      let w = puts sc.work (time_partial_at n) (el v) n in
      asks_rhs refl (record { work = long; pivots = rows; range = tt; rows = refl })
      (goes_on _ refl
      (λ _.
      combines _ v (part (probe_rhs_at n) n w) (known_kept p o.e o.fx.s sc.work (time_partial_at n) (el v) n (omega arith) (omega arith) h)
      (part_stored sc.work (time_partial_at n) v n nan (o.ready.long FirstProbe a o.m.state) (omega arith)) refl is rows))
  probed (Ok (a, Some b)) sc h is rows =
      let n = o.fx.n in
      let long = h.sums.long in
      let v = o.answer FirstProbe a o.m.state in
      let u = o.answer SecondProbe b o.m.state in
      let w = puts sc.work (time_partial_at n) (el v) n in
      let known = known_kept p o.e o.fx.s sc.work (time_partial_at n) (el v) n (omega arith) (omega arith) h in
      let first = part_stored sc.work (time_partial_at n) v n nan (o.ready.long FirstProbe a o.m.state) (omega arith) in
      let long₁ = known.sums.long in
      let y = written (given_in o) (time_partial_at n) n v (supplied a (on_marks (noting (with_probes a (Some b))) sc)) in
      let z = written (given_in o) (probe_rhs_at n) n u (supplied b y) in
      asks_rhs refl (record { work = long; pivots = rows; range = tt; rows = refl })
      (goes_on _ refl
      (λ _.
      asks_rhs refl (record { work = long₁; pivots = rows; range = tt; rows = refl })
      (goes_on _ refl
      (λ _.
      combines z v u (known_kept p o.e o.fx.s w (probe_rhs_at n) (el u) n (omega arith) (omega arith) known)
      (part_left w (probe_rhs_at n) (el u) n (time_partial_at n) n nan (omega arith) (inl (omega arith)) ∙ first)
      (part_stored w (probe_rhs_at n) u n nan (o.ready.long SecondProbe b o.m.state) (omega arith)) is rows))))

  pub asks_partial : (sc : Scratch) → Known p o.e o.fx.s sc.work → partial_at p o.e.f₀ ≡ o.e.fₜ → length sc.pivots ≡ o.fx.n
      → Conforms o (partial_items p o.e ++ matrix_on p o.e) (ask_partial (given_in o) sc)
  unfolding pivots_unfit ask_partial partial_items partial_at on_work resume written given_by state_asked wanted needed_work
  asks_partial sc h is rows =
      let n = o.fx.n in
      let long = h.sums.long in
      let v = o.answer TimePartial o.x.time o.m.state in
      rw append_assoc
      (chooses _ _ _
      (λ host.
      asks refl (record { work = long; pivots = rows; range = tt; rows = refl })
      (partial_done_lem _ (known_kept p o.e o.fx.s sc.work (time_partial_at n) (el v) n (omega arith) (omega arith) h)
      (part_stored sc.work (time_partial_at n) v n nan (o.ready.long TimePartial o.x.time o.m.state) (omega arith) ∙ yes _ host refl ∙ is) rows))
      (λ own. probed (probes o.fx.policy o.x.time o.x.step) sc h (no _ own refl ∙ is) rows))
