-- The Jacobian of an open attempt, from the host or by columns, conforms to that of its step. Assumes nothing.
use Prim.Native.Nat.{ℕ, zero, suc, ◌+◌, ◌*◌, ◌<◌, ◌≤◌}
use native.Mathlib.Omega.{arith}
use mathlib.Core.Path.{◌≡◌, refl, ap, ◌∙◌}
use mathlib.Core.List.{List, ◌∷◌, ◌++◌, append_assoc}
use mathlib.Core.Logic.{inl}
use lib.ListN.{length}
use lib.Ieee.{Float, nan}
use borrow.Author.Tests.{eq-eqb, ne_eqb}
use Rattle.float.proofs.Cases.{yes, no}
use Rattle.vector.specs.Lists.{el, all_finite}
use Rattle.vector.specs.Parts.{part}
use Rattle.vector.proofs.Parts.{part_stored}
use Rattle.stages.specs.Layout.{current_at, probe_state_at, probe_rhs_at, jacobian_at, needed_work}
use Rattle.differentiation.specs.Memory.{with_probe_state}
use Rattle.differentiation.proofs.Writes.{probe_written}
use Rattle.attempts.specs.declared.Ask.TheVariants.{Jacobian, Column}
use Rattle.attempts.specs.Attempt.{Scratch, on_work, jacobian_done, open_column, next_column, ask_jacobian, written, resume, wanted}
use Rattle.refusals.specs.Answers.{state_asked}
use Rattle.refusals.specs.Tests.{pivots_unfit}
use Rattle.rosenbrock.specs.Calls.{given_by}
use Rattle.method.specs.Step as step
use Rattle.method.specs.Step.{Attempted, Evaluated, probed_state, probed_jacobian, partial_at}
use Rattle.method.specs.Schedule.{Item, finite_test, column_items, columns_items, jacobian_items, partial_items}
use Rattle.method.proofs.Conforms.{Open, step_in, given_in, Conforms, goes_on, goes_on_unless, chooses, chosen, not_chosen, asks, asks_rhs}
use Rattle.method.proofs.Holds.{stored, Sums, sums_kept}
use Rattle.method.proofs.Partial.{Known, matrix_on, asks_partial}
use Rattle.method.proofs.Columns.{Columns, columns_kept, column_more, columns_whole}

module _ (o : Open) (is-partial : partial_at (step_in o) o.e.f₀ ≡ o.e.fₜ) where
  abbrev p : Attempted
  p = step_in o

  abbrev later : List Item
  later = partial_items p o.e ++ matrix_on p o.e

  jacobian_done_lem : (sc : Scratch) → Known p o.e o.fx.s sc.work → length sc.pivots ≡ o.fx.n
      → Conforms o (finite_test o.e.J ∷ later) (jacobian_done (given_in o) sc)
  unfolding jacobian_done given_by
  jacobian_done_lem sc h rows =
      goes_on _ (ap all_finite h.jacobian_there) (λ _. asks_partial o sc h is-partial rows)

  probe_there : (k : ℕ) (w : List Float) → probe_state_at o.fx.n + o.fx.n ≤ length w
      → part (probe_state_at o.fx.n) o.fx.n (with_probe_state o.fx.n o.m.state k w) ≡ probed_state p o.e.f₀ k
  unfolding probed_state
  probe_there k w h = probe_written o.fx.n w o.m.state k h

  -- column k and the r columns after it
  probes_columns : (r k : ℕ) → k + r ≡ o.fx.n → probed_jacobian p o.e.f₀ ≡ o.e.J → (sc : Scratch) → Columns p o.e o.fx.s k sc.work → length sc.pivots ≡ o.fx.n
      → Conforms o (columns_items p o.e k r ++ (finite_test o.e.J ∷ later)) (next_column (given_in o) k sc)
  unfolding pivots_unfit next_column open_column columns_items column_items on_work resume written with_probe_state given_by state_asked wanted needed_work
  probes_columns zero k q is sc h rows =
      let z : k ≡ o.fx.n = omega arith in
      let whole = columns_whole p o.e o.fx.s sc.work (rw z at h) in
      chosen _ (eq-eqb k o.fx.n z)
      (jacobian_done_lem sc (record { sums = h.sums; derivative_there = h.derivative_there; jacobian_there = whole ∙ is }) rows)
  probes_columns (suc r) k q is sc h rows =
      let n = o.fx.n in
      let below : k < n = omega arith in
      let z = probed_state p o.e.f₀ k in
      let v = o.answer (Column k) o.x.time z in
      let long = h.sums.long in
      let w = with_probe_state n o.m.state k sc.work in
      let there : part (probe_state_at n) n w ≡ z = probe_there k sc.work (omega arith) in
      let opened = columns_kept p o.e o.fx.s k sc.work (probe_state_at n) _ n (omega arith) (omega arith) h in
      let long₁ = opened.sums.long in
      not_chosen _ (ne_eqb k n (λ z. omega arith))
      (goes_on _ (ap all_finite there)
      (λ _.
      goes_on_unless _
      (λ _.
      asks_rhs there (record { work = long₁; pivots = rows; range = below; rows = refl })
      (goes_on _ refl
      (λ _.
      probes_columns r (suc k) (omega arith) is _
      (column_more p o.e o.fx.s k _ below (part_stored w (probe_rhs_at n) v n nan (o.ready.long (Column k) o.x.time z) (omega arith))
      (columns_kept p o.e o.fx.s k w (probe_rhs_at n) (el v) n (omega arith) (omega arith) opened))
      rows)))))

  pub asks_jacobian : (sc : Scratch) → Sums p o.e o.fx.s 0 sc.work → part (current_at o.fx.n) o.fx.n sc.work ≡ o.e.f₀ → step.jacobian_at p o.e.f₀ ≡ o.e.J
      → length sc.pivots ≡ o.fx.n → Conforms o (jacobian_items p o.e ++ later) (ask_jacobian (given_in o) sc)
  unfolding pivots_unfit ask_jacobian jacobian_items step.jacobian_at on_work resume written given_by state_asked wanted needed_work
  asks_jacobian sc sums current is rows =
      let n = o.fx.n in
      let w = sc.work in
      let long = sums.long in
      let v = o.answer Jacobian o.x.time o.m.state in
      let but = stored w (jacobian_at n) (el v) (n * n) in
      rw append_assoc
      (chooses _ _ _
      (λ host.
      asks refl (record { work = long; pivots = rows; range = tt; rows = refl })
      (jacobian_done_lem _
      (record {
        sums = sums_kept but sums (omega arith);
        derivative_there = but.left (current_at n) n (omega arith) (inl (omega arith)) ∙ current;
        jacobian_there = part_stored w (jacobian_at n) v (n * n) nan (o.ready.long Jacobian o.x.time o.m.state) (omega arith) ∙ yes _ host refl ∙ is;
      })
      rows))
      (λ own.
      probes_columns n 0 (omega arith) (no _ own refl ∙ is) sc
      (record { sums = sums; derivative_there = current; columns_there = λ i j hi hj. absurd (omega arith) }) rows))
