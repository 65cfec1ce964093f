-- The book. It holds a time, a state, a step, and a candidate or none. It is fed the calls' arguments, whether each was
-- refused, and the step views. Definitions only.
use Rattle.std.specs.Prelude.{List, [], ◌∷◌, Float, Option, Some, None, Result, Ok, Err}
use Rattle.float.specs.Operators.{◌⊕◌, ◌⊖◌, 𝟎}
use Rattle.stepping.specs.declared.Refusal.{Refusal}
use Rattle.stepping.specs.Time.{checked_time, endpoint_step}
use Rattle.refusals.specs.Answers.{View, Answer, refused, asked, shown, told, done}
use Rattle.rosenbrock.specs.Stepper.{Call, attempt, attempt_to, supply, fail, accept, reject, inject_derivative, reset, read}
use Rattle.lists.specs.Run.{Accepted}

pub record Book : Type 0 where
  pub time : Float
  pub state : List Float
  pub step : Float
  pub candidate : Option (List Float)

-- making: time and state as handed over, step 0, no candidate
unfoldable pub opened : Float → List Float → Book
opened time state = record { time = time; state = state; step = 𝟎; candidate = None }

-- the step becomes checked_time's end minus the book's time
unfoldable pub stepped : Result Float Refusal → Book → Book
stepped (Ok end) b = record b { step = end ⊖ b.time }
stepped (Err refusal) b = b

-- for endpoint_step's answer at the book's time
unfoldable pub stepped_to : Result Float Refusal → Book → Book
stepped_to (Ok step) b = stepped (checked_time b.time step) b
stepped_to (Err refusal) b = b

-- with a candidate: the state becomes it, the time becomes time plus step, rounded once; then no candidate
unfoldable pub accepting : Option (List Float) → Book → Book
accepting (Some candidate) b = record b { time = b.time ⊕ b.step; state = candidate; candidate = None }
accepting None b = b

-- a call that was not refused
unfoldable pub entered : Call → Book → Book
entered (attempt file step jacobian partial) b = stepped (checked_time b.time step) b
entered (attempt_to file endpoint proposal jacobian partial) b = stepped_to (endpoint_step b.time endpoint proposal) b
entered (accept f) b = accepting b.candidate b
entered (reject f) b = record b { candidate = None }
entered (reset time state) b = record b { time = time; state = state; candidate = None }
entered (supply file values) b = b
entered fail b = b
entered (inject_derivative derivative) b = b
entered (read q) b = b

-- all that the book is fed of an answer
pub data Fed : Type 0 where
  was_refused not_refused : Fed
  showed : View → Fed

unfoldable pub fed : Answer → Fed
fed (refused refusal) = was_refused
fed (asked r) = not_refused
fed (shown v) = showed v
fed (told r) = not_refused
fed done = not_refused

-- Every refused call: no change. A step view that ends an attempt: the candidate is the one shown.
unfoldable pub kept : Call → Fed → Book → Book
kept c was_refused b = b
kept c not_refused b = entered c b
kept c (showed v) b = record (entered c b) { candidate = Some v.candidate }

-- the accepted times and states of the book, for calls and what it is fed after each of them
unfoldable pub accounts : Book → List Call → List Fed → List Accepted
accounts b [] fs = []
accounts b (c ∷ cs) [] = []
accounts b (c ∷ cs) (f ∷ fs) = let b' = kept c f b in record { time = b'.time; state = b'.state } ∷ accounts b' cs fs
