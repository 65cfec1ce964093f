-- The record's request as a number: 0 nothing, 1 a pending candidate, 2 to 8 what is asked. Definitions only.
use Rattle.std.specs.Prelude.{ℕ, Bool, cond, ◌&&◌, eqb, leb, ltb}
use Rattle.attempts.specs.declared.Ask.{Ask}
use Rattle.attempts.specs.declared.Ask.TheVariants.{Derivative, Jacobian, TimePartial, FirstProbe, SecondProbe, Column, Stage}
use Rattle.attempts.specs.Attempt.{Ending, Asks, Ends, Shows}
use Rattle.refusals.specs.declared.Phase.{Phase}
use Rattle.refusals.specs.declared.Phase.TheVariants.{Idle, Pending, Open}

-- a candidate is pending, or an attempt is open
unfoldable pub is_pending : ℕ → Bool
is_pending request = eqb request 1

unfoldable pub is_open : ℕ → Bool
is_open request = leb 2 request

-- what is asked, where an attempt is open
unfoldable pub ask_of : ℕ → ℕ → Ask
ask_of request stage =
    cond (eqb request 2) Derivative
    (cond (eqb request 3) Jacobian
    (cond (eqb request 4) TimePartial
    (cond (eqb request 5) FirstProbe
    (cond (eqb request 6) SecondProbe
    (cond (eqb request 7) (Column stage) (Stage stage))))))

-- the number of a request, and of its column or stage
unfoldable pub ask_number : Ask → ℕ
ask_number Derivative = 2
ask_number Jacobian = 3
ask_number TimePartial = 4
ask_number FirstProbe = 5
ask_number SecondProbe = 6
ask_number (Column k) = 7
ask_number (Stage i) = 8

unfoldable pub ask_stage : Ask → ℕ
ask_stage Derivative = 0
ask_stage Jacobian = 0
ask_stage TimePartial = 0
ask_stage FirstProbe = 0
ask_stage SecondProbe = 0
ask_stage (Column k) = k
ask_stage (Stage i) = i

-- what the record waits for, and its two numbers
unfoldable pub phase_of : ℕ → ℕ → Phase
phase_of request stage = cond (eqb request 0) Idle (cond (eqb request 1) Pending (Open (ask_of request stage)))

unfoldable pub phase_number : Phase → ℕ
phase_number Idle = 0
phase_number Pending = 1
phase_number (Open a) = ask_number a

unfoldable pub phase_stage : Phase → ℕ
phase_stage Idle = 0
phase_stage Pending = 0
phase_stage (Open a) = ask_stage a

-- what the record waits for where an open attempt stopped, and its numbers
unfoldable pub phase_after : Ending → Phase
phase_after (Asks a) = Open a
phase_after (Ends refusal) = Idle
phase_after Shows = Pending

unfoldable pub request_after : Ending → ℕ
request_after (Asks a) = ask_number a
request_after (Ends refusal) = 0
request_after Shows = 1

unfoldable pub stage_after : Ending → ℕ
stage_after (Asks a) = ask_stage a
stage_after (Ends refusal) = 0
stage_after Shows = 0

-- in range: a column below n, a stage below s, and 0 beside any other request
unfoldable pub request_fits : ℕ → ℕ → ℕ → ℕ → Bool
request_fits n s request stage =
    cond (eqb request 8) (ltb stage s) (cond (eqb request 7) (ltb stage n) (ltb request 7 && eqb stage 0))
