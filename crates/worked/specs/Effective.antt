-- The effective step, by computation, with pond's tableau and the original's bits. It is another than the step handed over; the accepted time is the time
-- plus it, which is not always the view's end; and attempt_to does not always end at the endpoint. Definitions only.
use Rattle.std.specs.Prelude.{◌≡◌, true, List, [], ◌∷◌, take, Float}
use Rattle.std.proofs.Math.Option.{none}
use Rattle.stepping.specs.declared.Refusal.TheVariants.{Direction}
use Rattle.time_difference.specs.Policy.{default_policy}
use Rattle.refusals.specs.Answers.{View, derivative, jacobian, time_partial, refused, shown, done}
use Rattle.rosenbrock.specs.Stepper.{Call, attempt, attempt_to, supply, accept, in_place, System, make, made, made_of}
use Rattle.lists.specs.Run.{Accepted, after, run}
use Rattle.worked.specs.Seeing.{bits, nought, one, minus_one, asks, accepted, sees}
use Rattle.worked.specs.Pond.{file, lent, view}

-- ---- from 1 by 3 / 4 of 2 ^ -52: the effective step is 2 ^ -52

unfoldable pub at_one : System
at_one = made_of file default_policy one lent

abbrev small_calls : List Call
small_calls =
    attempt file (bits 0x3ca8_0000_0000_0000) true true ∷ supply file (minus_one ∷ []) ∷ supply file (minus_one ∷ []) ∷ supply file (nought ∷ []) ∷ accept in_place ∷ []

abbrev small_before : Accepted
small_before = accepted one (one ∷ [])

abbrev small_after : Accepted
small_after = accepted (bits 0x3ff0_0000_0000_0001) (bits 0x3fef_ffff_ffff_fffe ∷ [])

abbrev pub SmallIsMade : Type 0
SmallIsMade = make file default_policy one lent ≡ made at_one

abbrev pub SmallStep : Type 0
SmallStep = (after at_one (take 1 small_calls)).stepper.progress.step ≡ bits 0x3cb0_0000_0000_0000

abbrev pub SmallRuns : Type 0
SmallRuns = run at_one small_calls
    ≡ sees (asks derivative one (one ∷ [])) small_before
    ∷ sees (asks jacobian one (one ∷ [])) small_before
    ∷ sees (asks time_partial one (one ∷ [])) small_before
    ∷ sees (shown (view small_before (bits 0x3ff0_0000_0000_0001) (bits 0x3fef_ffff_ffff_fffe) minus_one (bits 0xbcaf_ffff_ffff_fffe))) small_before
    ∷ sees done small_after
    ∷ []

-- ---- from -0.09 by 0.34, then to -0.3, then to where it is

abbrev start : Accepted
start = accepted (bits 0xbfb7_0a3d_70a3_d70a) (one ∷ [])

unfoldable pub at_start : System
at_start = made_of file default_policy start.time lent

abbrev _0·3 : Float
_0·3 = bits 0xbfd3_3333_3333_3333

-- not -0.3
abbrev near : Float
near = bits 0xbfd3_3333_3333_3332

abbrev calls : List Call
calls =
    attempt file (bits 0x3fd5_c28f_5c28_f5c3) true true ∷ supply file (minus_one ∷ []) ∷ supply file (minus_one ∷ []) ∷ supply file (nought ∷ []) ∷ accept in_place
    ∷ attempt_to file _0·3 one true true
    ∷ attempt_to file _0·3 minus_one true true ∷ supply file (bits 0xbfe8_0000_0000_0000 ∷ []) ∷ supply file (minus_one ∷ []) ∷ supply file (nought ∷ []) ∷ accept in_place
    ∷ attempt_to file near one true true ∷ accept in_place
    ∷ []

abbrev pub EffectiveIsMade : Type 0
EffectiveIsMade = make file default_policy start.time lent ≡ made at_start

-- the effective steps: one unit in the last place below 0.34, near minus the time, and 0
abbrev pub FirstStep : Type 0
FirstStep = (after at_start (take 1 calls)).stepper.progress.step ≡ bits 0x3fd5_c28f_5c28_f5c2

abbrev pub SecondStep : Type 0
SecondStep = (after at_start (take 7 calls)).stepper.progress.step ≡ bits 0xbfe1_9999_9999_9999

abbrev pub ThirdStep : Type 0
ThirdStep = (after at_start calls).stepper.progress.step ≡ nought

-- the first view's end is 0.25; the time accepted is the double below it
abbrev middle : Accepted
middle = accepted (bits 0x3fcf_ffff_ffff_ffff) (bits 0x3fe7_e16e_ce54_0f48 ∷ [])

abbrev finish : Accepted
finish = accepted near (bits 0x3ffa_9b62_11d4_b24e ∷ [])

-- all but previous, start, end and candidate are empty at the step 0
abbrev standing : View
standing =
    record {
      previous = finish.state;
      start = near;
      end = near;
      candidate = finish.state;
      error = none;
      stages = [];
      rhs_stages = [];
      jacobian = [];
      time_partial = [];
    }

abbrev pub EffectiveRuns : Type 0
EffectiveRuns = run at_start calls
    ≡ sees (asks derivative start.time start.state) start
    ∷ sees (asks jacobian start.time start.state) start
    ∷ sees (asks time_partial start.time start.state) start
    ∷ sees (shown (view start (bits 0x3fd0_0000_0000_0000) (bits 0x3fe7_e16e_ce54_0f48) minus_one (bits 0xbfd0_3d22_6357_e16f))) start
    ∷ sees done middle
    ∷ sees (refused Direction) middle
    ∷ sees (asks derivative middle.time middle.state) middle
    ∷ sees (asks jacobian middle.time middle.state) middle
    ∷ sees (asks time_partial middle.time middle.state) middle
    ∷ sees (shown (view middle near (bits 0x3ffa_9b62_11d4_b24e) (bits 0xbfe8_0000_0000_0000) (bits 0x3fed_5555_5555_5554))) middle
    ∷ sees done finish
    ∷ sees (shown standing) finish
    ∷ sees done finish
    ∷ []
