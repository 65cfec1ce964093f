-- The tests of the stepper's calls, in their order; a comment gives the number of each test's refusal. Definitions only.
use Rattle.std.specs.Prelude.{ℕ, min, Bool, false, not, ◌&&◌, List, [], ◌∷◌, ◌++◌, eqb, leb, ltb, length, get_or, Float}
use Rattle.vector.specs.Lists.{every}
use Rattle.stepping.specs.declared.Refusal.TheVariants.{Dimension, UnsupportedTableau, TableauFile, PivotRange, PendingCandidate, NoCandidate, NoRequest, AttemptOpen}
use Rattle.stepping.specs.Refusals.{Test, ◌when◌, finite_test}
use Rattle.stepping.specs.Time.{time_tests}
use Rattle.tableau.specs.Tableau.{stages_of}
use Rattle.tableau.specs.File.{tableau_of, accepts}
use Rattle.stages.specs.Layout.{needed_work}
use Rattle.attempts.specs.declared.Ask.{Ask}
use Rattle.attempts.specs.declared.Ask.TheVariants.{Derivative, Jacobian, TimePartial, FirstProbe, SecondProbe, Column, Stage}
use Rattle.attempts.specs.Attempt.{wanted}
use Rattle.refusals.specs.declared.Fixed.{Fixed}
use Rattle.refusals.specs.declared.Progress.{Progress}
use Rattle.refusals.specs.Requests.{is_pending, is_open, ask_of, request_fits}
use Rattle.refusals.specs.Answers.{Lent}

-- n, s and the lengths that are lent; the work is the needed work, so it is shorter only where too little was lent
unfoldable pub shape_fits : ℕ → ℕ → ℕ → ℕ → ℕ → Bool
shape_fits n s state work pivots =
    leb 1 n && (leb n 32 && (leb 1 s && (leb s 8 && (eqb state n && (eqb work (needed_work n s) && eqb pivots n)))))

-- 1: the numbers of the record and the lengths that are lent with it fit each other
abbrev pub size_tests : ℕ → ℕ → ℕ → ℕ → ℕ → ℕ → ℕ → List Test
size_tests n s request stage state work pivots =
    (Dimension when not (shape_fits n s state work pivots)) ∷ (Dimension when not (request_fits n s request stage)) ∷ []

abbrev pub fit_tests : Fixed → Progress → Lent → List Test
fit_tests fx x m = size_tests fx.n fx.s x.request x.stage (length m.state) (length m.work) (length m.pivots)

-- 12, 3, and 1 for another number of stages
abbrev pub file_tests : ℕ → List ℕ → List Test
file_tests s file =
    (TableauFile when not (accepts file))
    ∷ (UnsupportedTableau when eqb (tableau_of file).counts.kind 1)
    ∷ (Dimension when not (eqb (stages_of (tableau_of file)) s))
    ∷ []

-- 18
abbrev pub open_test : Progress → Test
open_test x = AttemptOpen when is_open x.request

-- 14
abbrev pub pending_test : Progress → Test
pending_test x = PendingCandidate when is_pending x.request

-- 15
abbrev pub candidate_test : Progress → Test
candidate_test x = NoCandidate when not (is_pending x.request)

-- 17
abbrev pub request_test : Progress → Test
request_test x = NoRequest when not (is_open x.request)

-- 1: another length than n
abbrev pub length_test : Fixed → List Float → Test
length_test fx values = Dimension when not (eqb (length values) fx.n)

-- a pivot that is no row, where a stage would be solved
unfoldable pub pivots_unfit : ℕ → List ℕ → Ask → Bool
pivots_unfit n pivots Derivative = false
pivots_unfit n pivots Jacobian = false
pivots_unfit n pivots TimePartial = false
pivots_unfit n pivots FirstProbe = false
pivots_unfit n pivots SecondProbe = false
pivots_unfit n pivots (Column k) = false
pivots_unfit n pivots (Stage i) = not (every n (λ k. ltb (get_or pivots k 0) n))

-- 1, 13: of what is supplied, from its length
abbrev pub answer_tests : Fixed → Progress → ℕ → List ℕ → List Test
answer_tests fx x values pivots =
    let a = ask_of x.request x.stage in
    (Dimension when not (eqb values (wanted fx.n a))) ∷ (PivotRange when pivots_unfit fx.n pivots a) ∷ []

-- ---- each call's, in order

-- making: 12, 1, 2, 3, for a state of n components and the s stages of the file, from the lengths that are lent
abbrev pub new_tests : List ℕ → Float → List Float → ℕ → ℕ → List Test
new_tests file time state work pivots =
    (TableauFile when not (accepts file))
    ∷ (Dimension when not (shape_fits (length state) (stages_of (tableau_of file)) (length state) work pivots))
    ∷ finite_test state
    ∷ finite_test (time ∷ [])
    ∷ (UnsupportedTableau when eqb (tableau_of file).counts.kind 1)
    ∷ []

abbrev pub making_tests : List ℕ → Float → Lent → List Test
making_tests file time m = new_tests file time m.state (length m.work) (length m.pivots)

-- what comes after the first tests, and with them
abbrev pub attempt_rest : Fixed → List ℕ → Progress → List Test
attempt_rest fx file x = file_tests fx.s file ++ (open_test x ∷ [])

-- attempt and attempt_to begin with 1, 12, 3, 1, 18
abbrev pub attempt_tests : Fixed → List ℕ → Progress → Lent → List Test
attempt_tests fx file x m = fit_tests fx x m ++ attempt_rest fx file x

-- and go on with 14, 2, 5 for the step
abbrev pub step_tests : Float → Progress → List Test
step_tests step x = pending_test x ∷ time_tests x.time step

-- supply: 1, 12, 3, 1, 17, 1, 13
abbrev pub supply_rest : Fixed → List ℕ → ℕ → List ℕ → Progress → List Test
supply_rest fx file values pivots x = file_tests fx.s file ++ (request_test x ∷ answer_tests fx x values pivots)

abbrev pub supply_tests : Fixed → List ℕ → List Float → Progress → Lent → List Test
supply_tests fx file values x m = fit_tests fx x m ++ supply_rest fx file (length values) m.pivots x

-- fail: 1, 17
abbrev pub fail_rest : Progress → List Test
fail_rest x = request_test x ∷ []

abbrev pub fail_tests : Fixed → Progress → Lent → List Test
fail_tests fx x m = fit_tests fx x m ++ fail_rest x

-- accept and reject: 1, 18, 15
abbrev pub decision_rest : Progress → List Test
decision_rest x = open_test x ∷ candidate_test x ∷ []

abbrev pub decision_tests : Fixed → Progress → Lent → List Test
decision_tests fx x m = fit_tests fx x m ++ decision_rest x

-- inject_derivative: 1, 18, 14, 1, 2
abbrev pub inject_rest : Fixed → List Float → Progress → List Test
inject_rest fx derivative x = open_test x ∷ pending_test x ∷ length_test fx derivative ∷ finite_test derivative ∷ []

abbrev pub inject_tests : Fixed → List Float → Progress → Lent → List Test
inject_tests fx derivative x m = fit_tests fx x m ++ inject_rest fx derivative x

-- reset: 1, 18, 1, 2
abbrev pub reset_rest : Fixed → Float → List Float → Progress → List Test
reset_rest fx time state x = open_test x ∷ length_test fx state ∷ finite_test state ∷ finite_test (time ∷ []) ∷ []

abbrev pub reset_tests : Fixed → Float → List Float → Progress → Lent → List Test
reset_tests fx time state x m = fit_tests fx x m ++ reset_rest fx time state x

-- ---- from the lengths as they are lent: of the work only the needed length counts

abbrev pub lent_tests : Fixed → Progress → ℕ → ℕ → ℕ → List Test
lent_tests fx x state work pivots = size_tests fx.n fx.s x.request x.stage state (min (needed_work fx.n fx.s) work) pivots

abbrev pub lent_new_tests : List ℕ → Float → List Float → ℕ → ℕ → List Test
lent_new_tests file time state work pivots = new_tests file time state (min (needed_work (length state) (stages_of (tableau_of file))) work) pivots
