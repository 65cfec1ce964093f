-- What a reader's answer says of the record and the memory as they are lent. Definitions only.
use Rattle.std.specs.Prelude.{ℕ, List, Float, Result, Ok, Err}
use Rattle.vector.specs.Parts.{part}
use Rattle.stepping.specs.declared.Refusal.{Refusal}
use Rattle.stages.specs.Layout.{stage_state_at, probe_state_at}
use Rattle.statistics.specs.declared.StepStatistics.{StepStatistics}
use Rattle.refusals.specs.Answers as Answers
use Rattle.refusals.specs.Answers.{Lent, Reply, Answer, derivative, jacobian, time_partial, number, vector, absent, request, statistics, refused, told}
use Rattle.attempts.specs.declared.Ask.{Ask}
use Rattle.attempts.specs.declared.Ask.TheVariants as ask
use Rattle.readers.specs.declared.Kind.{Kind}
use Rattle.readers.specs.declared.Kind.TheVariants.{Derivative, Jacobian, TimePartial}
use Rattle.readers.specs.declared.Told.{Told}
use Rattle.readers.specs.declared.Told.TheVariants.{Number, State, Part, Absent, Statistics, AskedAtState, AskedAtPart}

unfoldable pub kind_by : Kind → Answers.Kind
kind_by Derivative = derivative
kind_by Jacobian = jacobian
kind_by TimePartial = time_partial

unfoldable pub reply_of : Told → Lent → Reply
reply_of (Number v) m = number v
reply_of State m = vector m.state
reply_of (Part at count) m = vector (part at count m.work)
reply_of Absent m = absent
reply_of (Statistics t) m = statistics
reply_of (AskedAtState k time) m = request (record { kind = kind_by k; time = time; state = m.state })
reply_of (AskedAtPart k time at count) m = request (record { kind = kind_by k; time = time; state = part at count m.work })

unfoldable pub tells : Result Told Refusal → Lent → Answer
tells (Ok t) m = told (reply_of t m)
tells (Err refusal) m = refused refusal

-- what is asked for: its kind, the request's time, and the place of its state
unfoldable pub asked_by : ℕ → Ask → Float → Told
asked_by n ask.Derivative time = AskedAtState Derivative time
asked_by n ask.Jacobian time = AskedAtState Jacobian time
asked_by n ask.TimePartial time = AskedAtState TimePartial time
asked_by n ask.FirstProbe time = AskedAtState Derivative time
asked_by n ask.SecondProbe time = AskedAtState Derivative time
asked_by n (ask.Column k) time = AskedAtPart Derivative time (probe_state_at n) n
asked_by n (ask.Stage i) time = AskedAtPart Derivative time (stage_state_at n) n

-- what an output holds after a copy: the state, where nothing was refused
unfoldable pub copied : Result Told Refusal → List Float → List Float → List Float
copied (Ok t) old state = state
copied (Err refusal) old state = old

-- the counters that are told, where they are
unfoldable pub counters_told : Result Told Refusal → StepStatistics → StepStatistics
counters_told (Ok (Number v)) t = t
counters_told (Ok State) t = t
counters_told (Ok (Part at count)) t = t
counters_told (Ok Absent) t = t
counters_told (Ok (Statistics u)) t = u
counters_told (Ok (AskedAtState k time)) t = t
counters_told (Ok (AskedAtPart k time at count)) t = t
counters_told (Err refusal) t = t
