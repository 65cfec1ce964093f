-- The claims about every list of calls, whatever the host supplies. Assumes nothing.
use mathlib.Core.Path.{refl, sym, ◌∙◌, subst}
use mathlib.Core.List.{List}
use Prim.Native.Nat.{ℕ}
use lib.Ieee.{Float}
use Rattle.time_difference.specs.declared.TimeDifferencePolicy.{TimeDifferencePolicy}
use Rattle.refusals.specs.Answers.{Lent}
use Rattle.rosenbrock.specs.Calls.{cleared}
use Rattle.phases.specs.Phases.{fresh}
use Rattle.rosenbrock.specs.Stepper.{System, trimmed, untrimmed, made_of}
use Rattle.rosenbrock.proofs.Memory.{tail_after, work_after, pivots_after}
use Rattle.rosenbrock.proofs.Readers.{read_unchanged}
use Rattle.refusals.proofs.Fitting.{fits_tests}
use Rattle.lists.specs.Run.{after}
use Rattle.lists.specs.Book.{opened}
use Rattle.lists.specs.Claim.{EveryList, AlwaysFits, TailUntouched, ReadersChangeNothing}
use Rattle.lists.proofs.Alike.{work_through, pivots_through}
use Rattle.lists.proofs.Fresh.{made_is, made_long, from_making, from_making_after, indistinguishable}
use Rattle.lists.proofs.Booked.{AllAgrees, idle_agrees, run_agrees}
use Rattle.lists.proofs.Steady.{made_fits, after_fits}

-- a new stepper agrees with a new book
begins : (file : List ℕ) (policy : TimeDifferencePolicy) (time : Float) (m : Lent) → AllAgrees (made_of file policy time m) (opened time m.state)
unfolding made_of opened fresh cleared trimmed untrimmed
begins file policy time m = idle_agrees _ _ _ _ refl refl refl

pub every_list : EveryList
every_list file policy time m y e calls =
    let long = made_long file policy time m y e in
    record {
      by_the_book =
          run_agrees y (opened time m.state)
          (subst (λ (z : System). AllAgrees z (opened time m.state)) (made_is file policy time m y e) (begins file policy time m)) calls;
      after_reset =
          λ before rest time' state' work' pivots' _ is-done lw lp. indistinguishable
          (after y before)
          time'
          state'
          is-done
          file
          policy
          (from_making_after file policy y before (from_making file policy time m y e))
          work'
          pivots'
          (lw ∙ sym long.of_work ∙ sym (work_through y before))
          (lp ∙ sym long.of_pivots ∙ sym (pivots_through y before))
          rest;
    }

pub always_fits : AlwaysFits
always_fits file policy time m y e calls = fits_tests _ _ _ (after_fits y calls (made_fits file policy time m y e))

pub tail_untouched : TailUntouched
tail_untouched c y = record { tail = tail_after c y; of_work = work_after c y; of_pivots = pivots_after c y }

pub readers_change_nothing : ReadersChangeNothing
readers_change_nothing = read_unchanged
