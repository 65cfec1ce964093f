-- The record's request: what is asked is read back from it, it fits where what is asked is in range, and the other way round. Assumes nothing.
use Prim.Native.Nat.{ℕ, zero, suc, ◌<◌}
use native.Mathlib.Omega.{arith}
use mathlib.Core.Path.{◌≡◌, refl, sym}
use mathlib.Core.Bool.{true, false}
use borrow.Author.Tests.{lt-ltb, le-ltb, ltb-true, ne_eqb}
use Rattle.float.proofs.Cases.{no, never, and_no}
use Rattle.attempts.specs.declared.Ask.{Ask}
use Rattle.attempts.specs.declared.Ask.TheVariants.{Derivative, Jacobian, TimePartial, FirstProbe, SecondProbe, Column, Stage}
use Rattle.attempts.specs.Attempt.{Ending, Asks, Ends, Shows}
use Rattle.attempts.proofs.Requests.{AskInRange, EndInRange}
use Rattle.refusals.specs.Requests.{is_pending, is_open, ask_of, ask_number, ask_stage, phase_number, phase_stage, phase_after, request_after, stage_after, request_fits}

pub read_back : (a : Ask) → ask_of (ask_number a) (ask_stage a) ≡ a
unfolding ask_of ask_number ask_stage
read_back Derivative = refl
read_back Jacobian = refl
read_back TimePartial = refl
read_back FirstProbe = refl
read_back SecondProbe = refl
read_back (Column k) = refl
read_back (Stage i) = refl

-- the numbers of what the record waits for where an open attempt stopped
pub number_after : (e : Ending) → phase_number (phase_after e) ≡ request_after e
unfolding phase_number phase_after request_after
number_after (Asks a) = refl
number_after (Ends r) = refl
number_after Shows = refl

pub index_after : (e : Ending) → phase_stage (phase_after e) ≡ stage_after e
unfolding phase_stage phase_after stage_after
index_after (Asks a) = refl
index_after (Ends r) = refl
index_after Shows = refl

-- something is asked: an attempt is open, and no candidate is pending
pub asked_open : (a : Ask) → is_open (ask_number a) ≡ true
unfolding is_open ask_number
asked_open Derivative = refl
asked_open Jacobian = refl
asked_open TimePartial = refl
asked_open FirstProbe = refl
asked_open SecondProbe = refl
asked_open (Column k) = refl
asked_open (Stage i) = refl

pub asked_not_pending : (a : Ask) → is_pending (ask_number a) ≡ false
unfolding is_pending ask_number
asked_not_pending Derivative = refl
asked_not_pending Jacobian = refl
asked_not_pending TimePartial = refl
asked_not_pending FirstProbe = refl
asked_not_pending SecondProbe = refl
asked_not_pending (Column k) = refl
asked_not_pending (Stage i) = refl

-- in range and fitting
asked_fits : (n s : ℕ) (a : Ask) → AskInRange n s a → request_fits n s (ask_number a) (ask_stage a) ≡ true
unfolding request_fits ask_number ask_stage
asked_fits n s Derivative h = refl
asked_fits n s Jacobian h = refl
asked_fits n s TimePartial h = refl
asked_fits n s FirstProbe h = refl
asked_fits n s SecondProbe h = refl
asked_fits n s (Column k) h = lt-ltb k n h
asked_fits n s (Stage i) h = lt-ltb i s h

pub nothing_fits : (n s : ℕ) → request_fits n s 0 0 ≡ true
unfolding request_fits
nothing_fits n s = refl

pub fits_after : (n s : ℕ) (e : Ending) → EndInRange n s e → request_fits n s (request_after e) (stage_after e) ≡ true
unfolding request_after stage_after request_fits
fits_after n s (Asks a) h = asked_fits n s a h
fits_after n s (Ends k) h = refl
fits_after n s Shows h = refl

beyond : (n s request stage : ℕ) → 8 < request → request_fits n s request stage ≡ false
unfolding request_fits
beyond n s request stage h =
    sym (no _ (ne_eqb request 8 (λ e. omega arith)) (no _ (ne_eqb request 7 (λ e. omega arith)) (sym (and_no _ (le-ltb request 7 (omega arith))))))

pub in_range : (n s request stage : ℕ) → request_fits n s request stage ≡ true → is_open request ≡ true → AskInRange n s (ask_of request stage)
unfolding request_fits is_open ask_of
in_range n s zero stage h o = never o refl
in_range n s (suc zero) stage h o = never o refl
in_range n s (suc (suc zero)) stage h o = tt
in_range n s (suc (suc (suc zero))) stage h o = tt
in_range n s (suc (suc (suc (suc zero)))) stage h o = tt
in_range n s (suc (suc (suc (suc (suc zero))))) stage h o = tt
in_range n s (suc (suc (suc (suc (suc (suc zero)))))) stage h o = tt
in_range n s (suc (suc (suc (suc (suc (suc (suc zero))))))) stage h o = ltb-true stage n h
in_range n s (suc (suc (suc (suc (suc (suc (suc (suc zero)))))))) stage h o = ltb-true stage s h
in_range n s (suc (suc (suc (suc (suc (suc (suc (suc (suc k))))))))) stage h o = never h (beyond n s (suc (suc (suc (suc (suc (suc (suc (suc (suc k))))))))) stage (omega arith))
