-- The program pond, run by the definitions: y' = -y from time 0, y = 1, twice by 1, with Jacobian -1 and time
-- partial 0. All that is seen of it are the original's bits. Definitions only.
use Rattle.std.specs.Prelude.{◌≡◌, ℕ, true, List, [], ◌∷◌, replicate, Float}
use Rattle.std.proofs.Math.Option.{none}
use Rattle.time_difference.specs.Policy.{default_policy}
use Rattle.tableau.specs.File.{file_of}
use Rattle.refusals.specs.Answers.{Lent, View, derivative, jacobian, time_partial, shown, done}
use Rattle.rosenbrock.specs.Stepper.{Call, attempt, supply, accept, by_value, in_place, System, make, made, made_of}
use Rattle.lists.specs.Run.{Accepted, run}
use Rattle.worked.specs.Seeing.{bits, nought, one, minus_one, asks, accepted, sees}

-- s = 1, gamma = d = b = 1, c = 0, no btilde
unfoldable pub file : List ℕ
file = file_of (record { counts = record { stages = 1; kind = 0; estimator = 0; btilde = 0 }; coefficients = one ∷ nought ∷ one ∷ one ∷ [] })

-- the state, more work than is needed, and a pivot that is no row
unfoldable pub lent : Lent
lent = record { state = one ∷ []; work = replicate 14 one; pivots = 7 ∷ [] }

unfoldable pub begun : System
begun = made_of file default_policy nought lent

abbrev pub PondIsMade : Type 0
PondIsMade = make file default_policy nought lent ≡ made begun

-- -0.5
abbrev minus_half : Float
minus_half = bits 0xbfe0_0000_0000_0000

-- the derivative, the Jacobian and the time partial are supplied
abbrev calls : List Call
calls =
    attempt file one true true ∷ supply file (minus_one ∷ []) ∷ supply file (minus_one ∷ []) ∷ supply file (nought ∷ []) ∷ accept in_place
    ∷ attempt file one true true ∷ supply file (minus_half ∷ []) ∷ supply file (minus_one ∷ []) ∷ supply file (nought ∷ []) ∷ accept by_value ∷ []

-- the three lines that the program prints
abbrev line_0 : Accepted
line_0 = accepted nought (one ∷ [])

abbrev line_1 : Accepted
line_1 = accepted one (bits 0x3fe0_0000_0000_0000 ∷ [])

abbrev line_2 : Accepted
line_2 = accepted (bits 0x4000_0000_0000_0000) (bits 0x3fd0_0000_0000_0000 ∷ [])

-- the view of a step with this tableau from an accepted time and state, for derivative f and stage u
abbrev pub view : Accepted → Float → Float → Float → Float → View
view from end candidate f u =
    record {
      previous = from.state;
      start = from.time;
      end = end;
      candidate = candidate ∷ [];
      error = none;
      stages = u ∷ [];
      rhs_stages = f ∷ [];
      jacobian = minus_one ∷ [];
      time_partial = nought ∷ [];
    }

abbrev view_1 : View
view_1 = view line_0 line_1.time (bits 0x3fe0_0000_0000_0000) minus_one minus_half

abbrev view_2 : View
view_2 = view line_1 line_2.time (bits 0x3fd0_0000_0000_0000) minus_half (bits 0xbfd0_0000_0000_0000)

abbrev pub PondRuns : Type 0
PondRuns = run begun calls
    ≡ sees (asks derivative line_0.time line_0.state) line_0
    ∷ sees (asks jacobian line_0.time line_0.state) line_0
    ∷ sees (asks time_partial line_0.time line_0.state) line_0
    ∷ sees (shown view_1) line_0
    ∷ sees done line_1
    ∷ sees (asks derivative line_1.time line_1.state) line_1
    ∷ sees (asks jacobian line_1.time line_1.state) line_1
    ∷ sees (asks time_partial line_1.time line_1.state) line_1
    ∷ sees (shown view_2) line_1
    ∷ sees done line_2
    ∷ []
