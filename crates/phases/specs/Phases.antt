-- What a call sets in the record: as a making and a reset leave it, as an attempt opens, the caches after an accept; and what an open attempt reads of
-- it. Definitions only.
use Rattle.std.specs.Prelude.{Bool, false, ◌&&◌, Float, Result, Ok, Err}
use Rattle.std.specs.Float.Ieee.{eq}
use Rattle.float.specs.Operators.{◌⊕◌, ◌⊖◌, 𝟎}
use Rattle.attempts.specs.declared.Setting.{Setting}
use Rattle.attempts.specs.declared.Memo.{Memo}
use Rattle.attempts.specs.declared.Halt.{Halt}
use Rattle.attempts.specs.declared.Halt.TheVariants.{Derivative, Jacobian, TimePartial, FirstProbe, SecondProbe, Column, Stage, Shows}
use Rattle.attempts.specs.Marks.{blank, with_caches, with_probes, with_error_shown, with_request_time}
use Rattle.stepping.specs.declared.Refusal.{Refusal}
use Rattle.refusals.specs.declared.Fixed.{Fixed}
use Rattle.refusals.specs.declared.Progress.{Progress}

-- what a making sets, and a reset again
unfoldable pub fresh : Float → Progress
fresh time =
    record {
      time = time;
      step = 𝟎;
      end = 𝟎;
      host_jacobian = false;
      host_time_partial = false;
      request = 0;
      stage = 0;
      memo = blank;
    }

-- The record as an attempt opens: the end is the time plus the step, rounded once, and the effective step is the end minus the time.
unfoldable pub opening : Float → Bool → Bool → Progress → Progress
opening step jacobian partial x =
    let end = x.time ⊕ step in
    record {
      time = x.time;
      step = end ⊖ x.time;
      end = end;
      host_jacobian = jacobian;
      host_time_partial = partial;
      request = 0;
      stage = 0;
      memo = x.memo;
    }

-- what an open attempt reads of the record
abbrev pub setting_by : Fixed → Progress → Setting
setting_by fx x =
    record {
      n = fx.n;
      s = fx.s;
      policy = fx.policy;
      time = x.time;
      step = x.step;
      host_jacobian = x.host_jacobian;
      host_time_partial = x.host_time_partial;
    }

-- the caches' validity after an accept: a step other than 0 clears both
unfoldable pub memo_accepted : Progress → Memo
memo_accepted x =
    let same = eq x.step 𝟎 in
    with_caches (same && x.memo.derivative_valid) (same && x.memo.differentiation_valid) x.memo

-- what is noted where an open attempt halts: the time of a request, both times where there are two probes, and whether the view has an error
unfoldable pub noted : Result Halt Refusal → Memo → Memo
noted (Ok (Derivative time)) m = with_request_time time m
noted (Ok (Jacobian time)) m = with_request_time time m
noted (Ok (TimePartial time)) m = with_request_time time m
noted (Ok (FirstProbe first second)) m = with_request_time first (with_probes first second m)
noted (Ok (SecondProbe time)) m = with_request_time time m
noted (Ok (Column k time)) m = with_request_time time m
noted (Ok (Stage i time)) m = with_request_time time m
noted (Ok (Shows error)) m = with_error_shown error m
noted (Err refusal) m = m
