-- Over a list of calls each counter goes on by the number of its events. Assumes nothing.
use Prim.Native.Nat.{ℕ, ◌+◌, ◌≤◌}
use native.Mathlib.Omega.{arith}
use mathlib.Core.Path.{◌≡◌, refl, sym, ap, ◌∙◌, subst}
use mathlib.Core.Bool.{Bool, true, false, cond}
use mathlib.Core.List.{List, [], ◌∷◌}
use Rattle.float.specs.Counter.{saturating_increment}
use Rattle.attempts.specs.Marks.{Counted}
use Rattle.statistics.specs.Counters.{one_more, tallied, no_statistics}
use Rattle.statistics.specs.declared.StepStatistics.{StepStatistics}
use Rattle.rosenbrock.specs.Stepper.{Call, System, stepped, made_of}
use Rattle.lists.specs.Run.{after}
use Rattle.lists.specs.Caching.{Caches, none_cached, cached_after, cached}
use Rattle.lists.specs.Counting.{Events, events, all_events, number, largest, saturating_sum, GoesOn, EveryCounter}
use Rattle.lists.proofs.Fresh.{made_is}
use Rattle.lists.proofs.Caches.{AllFollows, step_follows, after_follows, made_follows}
use Rattle.lists.proofs.Finite.{AllHolds, step_holds, after_holds, made_holds}
use Rattle.lists.proofs.Told.{counted_of, call_told}

-- one event, then so many more
one_counted : (b : Bool) (old more : ℕ) → old ≤ largest → saturating_sum (one_more b old) more ≡ saturating_sum old (cond b 1 0 + more)
unfolding one_more saturating_increment
one_counted true old more h = omega arith
one_counted false old more h = omega arith

one_within : (b : Bool) (old : ℕ) → old ≤ largest → one_more b old ≤ largest
unfolding one_more saturating_increment
one_within true old h = omega arith
one_within false old h = h

abbrev of : (StepStatistics → ℕ) → System → ℕ
of counter y = counter y.stepper.statistics

-- a counter with its events: one call makes it one more where it has such an event
module _ (counter : StepStatistics → ℕ) (such : Events → Bool)
    (tells : (e : Events) (t : StepStatistics) → counter (tallied (counted_of e) t) ≡ one_more (such e) (counter t)) where
  tallies : (k : Caches) (c : Call) (y : System) → AllFollows k y → AllHolds y → of counter (stepped c y).system ≡ one_more (such (events k c y)) (of counter y)
  unfolding stepped
  tallies k c y h s = ap (λ (flags : Counted). counter (tallied flags y.stepper.statistics)) (call_told k c y h s.state) ∙ tells (events k c y) y.stepper.statistics

  counts_on : (k : Caches) (y : System) (cs : List Call) → AllFollows k y → AllHolds y → of counter y ≤ largest
      → of counter (after y cs) ≡ saturating_sum (of counter y) (number such (all_events k y cs))
  unfolding after number all_events stepped
  counts_on k y [] h s b = omega arith
  counts_on k y (c ∷ cs) h s b =
      let k' = cached_after k c y in
      let z = (stepped c y).system in
      let more = number such (all_events k' z cs) in
      let e = tallies k c y h s in
      counts_on k' z cs (step_follows k y h c) (step_holds y s c) (subst (λ (u : ℕ). u ≤ largest) (sym e) (one_within (such (events k c y)) (of counter y) b))
      ∙ ap (λ (u : ℕ). saturating_sum u more) e
      ∙ one_counted (such (events k c y)) (of counter y) more b

  -- from any point of a list that begins with the counter at 0
  goes_on : (y : System) (before calls : List Call) → AllFollows none_cached y → AllHolds y → of counter y ≡ 0
      → let z = after y before in of counter (after z calls) ≡ saturating_sum (of counter z) (number such (all_events (cached none_cached y before) z calls))
  goes_on y before calls h s e =
      let b = counts_on none_cached y before h s (omega arith) in
      counts_on (cached none_cached y before) (after y before) calls (after_follows none_cached y before h) (after_holds y before s) (omega arith)

all_go_on : (y : System) (before calls : List Call) → AllFollows none_cached y → AllHolds y → y.stepper.statistics ≡ no_statistics
    → let z = after y before in GoesOn (all_events (cached none_cached y before) z calls) z.stepper.statistics (after z calls).stepper.statistics
unfolding tallied
all_go_on y before calls h s e =
    let none : (counter : StepStatistics → ℕ) → counter no_statistics ≡ 0 → of counter y ≡ 0 = λ counter z. ap counter e ∙ z in
    record {
      attempts = goes_on (λ t. t.attempts) (λ e. e.attempt_opened) (λ e t. refl) y before calls h s (none (λ t. t.attempts) refl);
      rhs_evaluations = goes_on (λ t. t.rhs_evaluations) (λ e. e.derivative_asked) (λ e t. refl) y before calls h s (none (λ t. t.rhs_evaluations) refl);
      accepted_steps = goes_on (λ t. t.accepted_steps) (λ e. e.step_accepted) (λ e t. refl) y before calls h s (none (λ t. t.accepted_steps) refl);
      rejected_steps = goes_on (λ t. t.rejected_steps) (λ e. e.step_rejected) (λ e t. refl) y before calls h s (none (λ t. t.rejected_steps) refl);
      jacobian_evaluations =
          goes_on (λ t. t.jacobian_evaluations) (λ e. e.jacobian_wanted) (λ e t. refl) y before calls h s (none (λ t. t.jacobian_evaluations) refl);
      factorizations = goes_on (λ t. t.factorizations) (λ e. e.matrix_reached) (λ e t. refl) y before calls h s (none (λ t. t.factorizations) refl);
      linear_solves = goes_on (λ t. t.linear_solves) (λ e. e.stage_solved) (λ e t. refl) y before calls h s (none (λ t. t.linear_solves) refl);
    }

pub every_counter : EveryCounter
unfolding made_of
every_counter file policy time m y e before calls =
    let z : y.stepper.statistics ≡ no_statistics = ap (λ (s : System). s.stepper.statistics) (sym (made_is file policy time m y e)) in
    record { begins = z; goes_on = all_go_on y before calls (made_follows file policy time m y e) (made_holds file policy time m y e) z }
