-- The host of pond: y' = -y with Jacobian -1 and time partial 0, and a step of it. Definitions only.
use Rattle.std.specs.Prelude.{ℕ, zero, suc, true, List, [], ◌∷◌, Float}
use Rattle.std.specs.Float.Ieee.{neg}
use Rattle.float.specs.Operators.{𝟎, 𝟏}
use Rattle.vector.specs.Lists.{el}
use Rattle.refusals.specs.Answers.{Reply, number, vector, absent, request, statistics, Answer, refused, asked, shown, told, done}
use Rattle.rosenbrock.specs.Readers.{the_request}
use Rattle.rosenbrock.specs.Stepper.{attempt, supply, accept, read, by_value, System, Next, stepped}
use Rattle.method.specs.Step.{Problem}
use Rattle.method.specs.Conversation.{answer_to}

-- y' = -y
unfoldable pub decay : Problem
decay = record { f = λ t y. neg (el y 0) ∷ []; J = λ t y. neg 𝟏 ∷ []; fₜ = λ t y. 𝟎 ∷ [] }

-- what the host supplies to what the stepper's reader tells; a 0 where nothing is asked
unfoldable pub supplied_to : Reply → List Float
supplied_to (request q) = answer_to decay q.kind q.time q.state
supplied_to (number x) = 𝟎 ∷ []
supplied_to (vector x) = 𝟎 ∷ []
supplied_to absent = 𝟎 ∷ []
supplied_to statistics = 𝟎 ∷ []

unfoldable pub supplied_by : Answer → List Float
supplied_by (told r) = supplied_to r
supplied_by (refused k) = 𝟎 ∷ []
supplied_by (asked q) = 𝟎 ∷ []
supplied_by (shown v) = 𝟎 ∷ []
supplied_by done = 𝟎 ∷ []

-- the host reads what is asked and supplies it
unfoldable pub if_asked : Answer → Next → Next → Next
if_asked (asked q) next now = next
if_asked (refused k) next now = now
if_asked (shown v) next now = now
if_asked (told r) next now = now
if_asked done next now = now

unfoldable pub answered_once : List ℕ → Next → Next
answered_once file r =
    let y = r.system in
    if_asked r.answer (stepped (supply file (supplied_by (stepped (read the_request) y).answer)) y) r

-- k times
unfoldable pub answered : ℕ → List ℕ → Next → Next
answered zero file r = r
answered (suc k) file r = answered_once file (answered k file r)

-- it accepts what is shown
unfoldable pub if_shown : Answer → Next → Next → Next
if_shown (shown v) next now = next
if_shown (refused k) next now = now
if_shown (asked q) next now = now
if_shown (told r) next now = now
if_shown done next now = now

unfoldable pub decided : Next → Next
decided r = if_shown r.answer (stepped (accept by_value) r.system) r

-- One step by 1. It asks for the derivative, the Jacobian, the time partial and at most 8 stages, so 11 answers are enough (steps_end).
unfoldable pub one_step : List ℕ → System → Next
one_step file y = decided (answered 11 file (stepped (attempt file 𝟏 true true) y))
