-- What an open attempt notes: in the record's memo, and what is to be counted. Definitions only.
use Rattle.std.specs.Prelude.{Bool, true, false, cond, Float, Option, None, Some}
use Rattle.float.specs.Operators.{𝟎}
use Rattle.attempts.specs.declared.Memo.{Memo}

-- ---- the memo

-- what a making sets
abbrev pub blank : Memo
blank =
    record {
      derivative_valid = false;
      differentiation_valid = false;
      error_shown = false;
      two_probes = false;
      first_probe = 𝟎;
      second_probe = 𝟎;
      request_time = 𝟎;
    }

-- the caches hold, or do not
unfoldable pub with_caches : Bool → Bool → Memo → Memo
with_caches derivative differentiation m = record m { derivative_valid = derivative; differentiation_valid = differentiation }

-- the derivative at the accepted state is there
unfoldable pub with_derivative : Memo → Memo
unfolding with_caches
with_derivative m = with_caches true m.differentiation_valid m

-- the Jacobian and the time partial are there
unfoldable pub with_differentiation : Memo → Memo
unfolding with_caches
with_differentiation m = with_caches m.derivative_valid true m

unfoldable pub with_error_shown : Bool → Memo → Memo
with_error_shown shown m = record m { error_shown = shown }

-- the times of the probes; where there is one, 0 stands for the second
unfoldable pub with_probes : Float → Option Float → Memo → Memo
with_probes first None m = record m { two_probes = false; first_probe = first; second_probe = 𝟎 }
with_probes first (Some second) m = record m { two_probes = true; first_probe = first; second_probe = second }

-- the time of the second probe, where there are two
unfoldable pub second_probe : Memo → Option Float
second_probe m = cond m.two_probes (Some m.second_probe) None

unfoldable pub with_request_time : Float → Memo → Memo
with_request_time time m = record m { request_time = time }

-- ---- what is counted

-- what a call counts, each at most once
pub record Counted : Type 0 where
  pub attempts : Bool
  pub rhs_evaluations : Bool
  pub accepted_steps : Bool
  pub rejected_steps : Bool
  pub jacobian_evaluations : Bool
  pub factorizations : Bool
  pub linear_solves : Bool

abbrev pub nothing_counted : Counted
nothing_counted =
    record {
      attempts = false;
      rhs_evaluations = false;
      accepted_steps = false;
      rejected_steps = false;
      jacobian_evaluations = false;
      factorizations = false;
      linear_solves = false;
    }

abbrev pub one_attempt : Counted
one_attempt = record nothing_counted { attempts = true }

abbrev pub one_accepted : Counted
one_accepted = record nothing_counted { accepted_steps = true }

abbrev pub one_rejected : Counted
one_rejected = record nothing_counted { rejected_steps = true }

unfoldable pub counting_rhs : Counted → Counted
counting_rhs c = record c { rhs_evaluations = true }

unfoldable pub counting_jacobian : Counted → Counted
counting_jacobian c = record c { jacobian_evaluations = true }

unfoldable pub counting_factorization : Counted → Counted
counting_factorization c = record c { factorizations = true }

unfoldable pub counting_solve : Counted → Counted
counting_solve c = record c { linear_solves = true }

-- ---- both

-- what is noted, and what is counted so far
pub record Marks : Type 0 where
  pub memo : Memo
  pub counted : Counted

unfoldable pub noting : (Memo → Memo) → Marks → Marks
noting f m = record m { memo = f m.memo }

unfoldable pub counting : (Counted → Counted) → Marks → Marks
counting f m = record m { counted = f m.counted }
