-- A reset that is not refused leaves what a making leaves, but for counters and doubles beyond the needed work. Assumes nothing.
use mathlib.Core.Path.{◌≡◌, refl, sym, ap, ◌∙◌, subst}
use Prim.Native.Nat.{ℕ}
use mathlib.Core.Bool.{true, false}
use mathlib.Core.List.{List, [], ◌∷◌}
use lib.ListN.{length, take, length-replicate}
use lib.Dec.{eqb}
use lib.Ieee.{Float}
use Rattle.vector.proofs.Fronts.{length_front}
use Rattle.std.specs.Prelude.{Ok}
use Rattle.stepping.specs.declared.Refusal.TheVariants.{Dimension, NonFinite, UnsupportedTableau, TableauFile}
use Rattle.stepping.specs.Refusals.{first_of}
use Rattle.stepping.proofs.Refusals.{none, later, holds_later, either_way, is_answered}
use Rattle.time_difference.specs.declared.TimeDifferencePolicy.{TimeDifferencePolicy}
use Rattle.tableau.specs.Tableau.{stages_of}
use Rattle.tableau.specs.File.{tableau_of, accepts}
use Rattle.refusals.specs.declared.Fixed.{Fixed}
use Rattle.refusals.specs.Answers.{Lent, lending, done}
use Rattle.refusals.specs.Tests.{shape_fits, making_tests}
use Rattle.rosenbrock.specs.Calls.{Out, cleared, restarted, reset_of}
use Rattle.rosenbrock.specs.Stepper.{Call, reset, called, System, needed, trimmed, untrimmed, result, stepped, Made, not_made, made, fixed_by, made_of, make}
use Rattle.rosenbrock.proofs.Guards.{guarded_passed, done_passed}
use Rattle.rosenbrock.proofs.Memory.{trim_untrim, untrim_length, memory_after}
use Rattle.refusals.proofs.Fitting.{shape_fits_lem}
use Rattle.refusals.proofs.Passed.{ResetPassed, making_passed, reset_passed}
use Rattle.lists.specs.Run.{after}
use Rattle.lists.specs.Claim.{Same, Indistinguishable}
use Rattle.lists.proofs.Alike.{accepted_same, run_same}

-- ---- a making that is not refused

module _ (file : List ℕ) (policy : TimeDifferencePolicy) (time : Float) (m : Lent) (y : System) (e : make file policy time m ≡ made y) where
  pub made_is : made_of file policy time m ≡ y
  unfolding make
  made_is =
      either_way not_made (λ (r : Made). r ≡ made y → made_of file policy time m ≡ y) _ (made (made_of file policy time m)) (λ j h. cc) (λ _ h. cc) e

  pub made_passed : first_of (making_tests file time (trimmed (needed (fixed_by file policy m)) m)) ≡ Ok tt
  unfolding make
  made_passed =
      let k = first_of (making_tests file time (trimmed (needed (fixed_by file policy m)) m)) in
      either_way not_made (λ (r : Made). r ≡ made y → k ≡ Ok tt) k (made (made_of file policy time m)) (λ j h. cc) (λ z _. z) e

length-cleared : (state : List Float) (m : Lent) → length (cleared state m).work ≡ length m.work
unfolding cleared
length-cleared state m = length-replicate _ _

-- the lengths that a making leaves
pub record MadeLong (m : Lent) (y : System) : Type 0 where
  pub of_work : length y.lent.work ≡ length m.work
  pub of_pivots : length y.lent.pivots ≡ length m.pivots

module _ (file : List ℕ) (policy : TimeDifferencePolicy) (time : Float) (m : Lent) where
  abbrev k : ℕ
  k = needed (fixed_by file policy m)

  made_work : length (made_of file policy time m).lent.work ≡ length m.work
  unfolding made_of
  made_work = untrim_length k m (cleared m.state (trimmed k m)) (length-cleared m.state (trimmed k m))

  made_pivots : length (made_of file policy time m).lent.pivots ≡ length m.pivots
  unfolding made_of untrimmed cleared trimmed
  made_pivots = length-replicate _ _

  pub made_memory : trimmed k (made_of file policy time m).lent ≡ cleared m.state (trimmed k m)
  unfolding made_of
  made_memory = trim_untrim k m (cleared m.state (trimmed k m)) (length-cleared m.state (trimmed k m))

  pub made_long : (y : System) → make file policy time m ≡ made y → MadeLong m y
  made_long y e = subst (λ (z : System). MadeLong m z) (made_is file policy time m y e) (record { of_work = made_work; of_pivots = made_pivots })

-- ---- what stays from the making on

pub record FromMaking (file : List ℕ) (policy : TimeDifferencePolicy) (y : System) : Type 0 where
  pub stages : y.stepper.fixed.s ≡ stages_of (tableau_of file)
  pub policy_is : y.stepper.fixed.policy ≡ policy
  pub file_accepted : accepts file ≡ true
  pub not_hybrid : eqb (tableau_of file).counts.kind 1 ≡ false

pub from_making : (file : List ℕ) (policy : TimeDifferencePolicy) (time : Float) (m : Lent) (y : System) → make file policy time m ≡ made y → FromMaking file policy y
unfolding made_of fixed_by
from_making file policy time m y e =
    let is : made_of file policy time m ≡ y = made_is file policy time m y e in
    let t = making_passed file time (trimmed (needed (fixed_by file policy m)) m) (made_passed file policy time m y e) in
    record {
      stages = ap (λ (z : System). z.stepper.fixed.s) (sym is);
      policy_is = ap (λ (z : System). z.stepper.fixed.policy) (sym is);
      file_accepted = t.file_accepted;
      not_hybrid = t.not_hybrid;
    }

pub from_making_after : (file : List ℕ) (policy : TimeDifferencePolicy) (y : System) (cs : List Call) → FromMaking file policy y → FromMaking file policy (after y cs)
unfolding after stepped
from_making_after file policy y [] b = b
from_making_after file policy y (c ∷ cs) b =
    from_making_after file policy (stepped c y).system cs
    (record { stages = b.stages; policy_is = b.policy_is; file_accepted = b.file_accepted; not_hybrid = b.not_hybrid })

-- ---- after a reset that was not refused

module _ (y : System) (time : Float) (state : List Float) (e : (stepped (reset time state) y).answer ≡ done) where
  -- what its tests say
  tests_passed : ResetPassed y.stepper.fixed (trimmed (needed y.stepper.fixed) y.lent) time state
  unfolding stepped result called reset_of
  tests_passed = reset_passed y.stepper.fixed time state y.stepper.progress (trimmed (needed y.stepper.fixed) y.lent) (done_passed _ _ _ _ e)

  -- what it leaves
  pub reset_result : result (reset time state) y ≡ restarted time state (trimmed (needed y.stepper.fixed) y.lent)
  unfolding stepped result called reset_of
  reset_result = guarded_passed _ _ _ _ (done_passed _ _ _ _ e)

  module _ (file : List ℕ) (policy : TimeDifferencePolicy) (b : FromMaking file policy y) (work : List Float) (pivots : List ℕ) (lw : length work ≡ length y.lent.work) (lp : length pivots ≡ length y.lent.pivots) where
    -- the memory that the new one is lent, and what the new one has fixed
    abbrev lent : Lent
    lent = lending state work pivots

    abbrev fixed : Fixed
    fixed = fixed_by file policy lent

    fixed_same : y.stepper.fixed ≡ fixed
    unfolding fixed_by
    fixed_same = λ i. record { n = sym tests_passed.size i; s = b.stages i; policy = b.policy_is i }

    front_same : length (take (needed y.stepper.fixed) y.lent.work) ≡ length (take (needed fixed) work)
    front_same =
        ap (λ (fx : Fixed). length (take (needed fx) y.lent.work)) fixed_same ∙ length_front (needed fixed) y.lent.work work (sym lw)

    cleared_same : cleared state (trimmed (needed y.stepper.fixed) y.lent) ≡ cleared state (trimmed (needed fixed) lent)
    unfolding cleared trimmed
    cleared_same = cc (front_same, lp)

    same : Same (stepped (reset time state) y).system (made_of file policy time lent)
    unfolding stepped made_of restarted
    same =
        record {
          fixed = fixed_same;
          progress = ap (λ (o : Out). o.progress) reset_result;
          memory = memory_after (reset time state) y ∙ ap (λ (o : Out). o.lent) reset_result ∙ cleared_same ∙ sym (made_memory file policy time lent);
        }

    -- the new one is made
    new_shape : shape_fits (length state) (stages_of (tableau_of file)) (length state) (length (take (needed fixed) work)) (length pivots) ≡ true
    unfolding trimmed
    new_shape =
        let t = tests_passed in
        let old : shape_fits y.stepper.fixed.n y.stepper.fixed.s (length y.lent.state) (length (take (needed y.stepper.fixed) y.lent.work)) (length y.lent.pivots) ≡ true =
        shape_fits_lem _ _ _ _ _ t.shape
        in
        cc (old, t.size, t.shape.of_state, front_same, lp, b.stages)

    new_passes : first_of (making_tests file time (trimmed (needed fixed) lent)) ≡ Ok tt
    unfolding trimmed
    new_passes =
        let t = tests_passed in
        holds_later TableauFile _ b.file_accepted
        (holds_later Dimension _ new_shape (holds_later NonFinite _ t.finite (holds_later NonFinite _ t.finite_time (later UnsupportedTableau [] b.not_hybrid none))))

    new_made : make file policy time lent ≡ made (made_of file policy time lent)
    unfolding make
    new_made = sym (is_answered not_made new_passes refl)

    pub indistinguishable : (rest : List Call) → Indistinguishable file policy time (lending state work pivots) (stepped (reset time state) y).system rest
    indistinguishable rest =
        record { new = made_of file policy time lent; is_made = new_made; same = same; begins = accepted_same _ _ same; goes_on = run_same _ _ same rest }
