-- Short names for doubles and for what is seen after a call. Definitions only.
use Rattle.std.specs.Prelude.{ℕ, List, Float}
use Rattle.std.specs.Float.{binary64}
use Rattle.std.specs.Float.Ieee.{of_bits}
use Rattle.refusals.specs.Answers.{Kind, Answer, asked}
use Rattle.lists.specs.Run.{Accepted, Seen}

-- the double of 64 bits
abbrev pub bits : ℕ → Float
bits pattern = of_bits binary64 pattern

-- 0, 1 and -1
abbrev pub nought : Float
nought = bits 0

abbrev pub one : Float
one = bits 0x3ff0_0000_0000_0000

abbrev pub minus_one : Float
minus_one = bits 0xbff0_0000_0000_0000

abbrev pub asks : Kind → Float → List Float → Answer
asks kind time state = asked (record { kind = kind; time = time; state = state })

abbrev pub accepted : Float → List Float → Accepted
accepted time state = record { time = time; state = state }

-- an answer, with the accepted time and state after it
abbrev pub sees : Answer → Accepted → Seen
sees answer at = record { answer = answer; accepted = at }
