-- `rosenbrock::RosenbrockStepper::settle` meets its contract. Assumes nothing.
use mathlib.Core.Path.{ap, ◌∙◌}
use mathlib.Core.Bool.{cond}
use Rattle.attempts.specs.Marks.{nothing_counted, one_attempt}
use Rattle.attempts.specs.Calls.{stop_by, marked}
use Rattle.refusals.specs.Requests.{phase_number, phase_stage}
use Rattle.refusals.proofs.Requests.{number_after, index_after}
use Rattle.rosenbrock.proofs.Stops.{settled_eq}
use Rattle.rosenbrock.proofs.RosenbrockStepper.settle.Goals as goal

pub returns : goal.returns
returns c =
    let y = c.args.self.now in
    let m = marked y.progress.memo (cond c.args.opens one_attempt nothing_counted) in
    let r = stop_by c.args.moved.now m in
    let phase = c.phase_after-phase.ensures m in
    settled_eq y.fixed y.progress y.statistics r (c.note.ensures m.counted)
    (c.number-self.ensures ∙ ap phase_number phase ∙ number_after r.ending)
    (c.stage-self.ensures ∙ ap phase_stage phase ∙ index_after r.ending)
    (c.tally.ensures y.progress.memo)
    (c.answer_after.ensures m)
