-- The readers tell what the call before them answered: the entries of a step view, or the request, or that neither is there. Definitions only.
use Rattle.std.specs.Prelude.{◌≡◌, ◌≢◌, ℕ, ◌+◌, ◌*◌, cond, List, eqb, leb, length, Float}
use Rattle.vector.specs.Parts.{part}
use Rattle.stepping.specs.declared.Refusal.TheVariants.{Dimension, NoCandidate, NoRequest, AttemptOpen}
use Rattle.refusals.specs.Answers.{Request, View, Answer, refused, asked, shown, told, done, number, vector, request}
use Rattle.rosenbrock.specs.Readers.{Query, the_request, the_time, the_state, the_copy, the_start, the_end, the_candidate, the_error, the_stages, the_rhs_stages, the_jacobian, the_time_partial, the_stage, the_rhs_stage, optional}
use Rattle.rosenbrock.specs.Stepper.{Call, read, System, stepped}

-- what each reader answers
abbrev pub Readings : Type 0
Readings = Query → Answer

-- called on a stepper and its memory
abbrev pub readings : System → Readings
readings y q = (stepped (read q) y).answer

-- a state copied into an output of k components
unfoldable pub copied : ℕ → List Float → Answer
copied k state = cond (eqb k (length state)) (told (vector state)) (refused Dimension)

-- row i of rows of n components; refused where there are not so many, as at the step 0, where none is shown
unfoldable pub row : ℕ → List Float → ℕ → Answer
row n rows i = cond (leb (i * n + n) (length rows)) (told (vector (part (i * n) n rows))) (refused Dimension)

-- Each reader of a step tells its entry of the view v; time and state are those that the step starts from. The derivative that may be cached and the
-- counters are no entries.
pub record TellView (v : View) (reader : Readings) : Type 0 where
  pub of_time : reader the_time ≡ told (number v.start)
  pub of_state : reader the_state ≡ told (vector v.previous)
  pub of_copy : (k : ℕ) → reader (the_copy k) ≡ copied k v.previous
  pub of_start : reader the_start ≡ told (number v.start)
  pub of_end : reader the_end ≡ told (number v.end)
  pub of_candidate : reader the_candidate ≡ told (vector v.candidate)
  pub of_error : reader the_error ≡ told (optional v.error)
  pub of_stages : reader the_stages ≡ told (vector v.stages)
  pub of_stage : (i : ℕ) → reader (the_stage i) ≡ row (length v.previous) v.stages i
  pub of_rhs_stages : reader the_rhs_stages ≡ told (vector v.rhs_stages)
  pub of_rhs_stage : (i : ℕ) → reader (the_rhs_stage i) ≡ row (length v.previous) v.rhs_stages i
  pub of_jacobian : reader the_jacobian ≡ told (vector v.jacobian)
  pub of_time_partial : reader the_time_partial ≡ told (vector v.time_partial)
  -- nothing is asked
  pub of_request : reader the_request ≡ refused NoRequest

-- the request r alone is told
pub record TellRequest (r : Request) (reader : Readings) : Type 0 where
  pub of_request : reader the_request ≡ told (request r)
  pub of_others : (q : Query) → q ≢ the_request → reader q ≡ refused AttemptOpen

-- nothing is asked, and no step is pending
pub record TellNothing (reader : Readings) : Type 0 where
  pub of_request : reader the_request ≡ refused NoRequest
  pub of_start : reader the_start ≡ refused NoCandidate
  pub of_end : reader the_end ≡ refused NoCandidate
  pub of_candidate : reader the_candidate ≡ refused NoCandidate
  pub of_error : reader the_error ≡ refused NoCandidate
  pub of_stages : reader the_stages ≡ refused NoCandidate
  pub of_stage : (i : ℕ) → reader (the_stage i) ≡ refused NoCandidate
  pub of_rhs_stages : reader the_rhs_stages ≡ refused NoCandidate
  pub of_rhs_stage : (i : ℕ) → reader (the_rhs_stage i) ≡ refused NoCandidate
  pub of_jacobian : reader the_jacobian ≡ refused NoCandidate
  pub of_time_partial : reader the_time_partial ≡ refused NoCandidate

-- after every call, whatever record and memory are
pub record ReadersTell (c : Call) (y : System) : Type 0 where
  pub the_view : (v : View) → (stepped c y).answer ≡ shown v → TellView v (readings (stepped c y).system)
  pub the_request_asked : (r : Request) → (stepped c y).answer ≡ asked r → TellRequest r (readings (stepped c y).system)
  pub nothing : (stepped c y).answer ≡ done → TellNothing (readings (stepped c y).system)

abbrev pub ReadersTellTheAnswer : Type 0
ReadersTellTheAnswer = (c : Call) (y : System) → ReadersTell c y
