-- `dense::Segment::interpolate` meets its contract. Assumes nothing.
use mathlib.Core.Path.{sym, ◌∙◌}
use Rattle.dense.specs.Shown.{shown}
use Rattle.dense.proofs.Answers.{valid_fits}
use Rattle.dense.proofs.Segment.interpolate.Goals as goal

pub interpolate_stiff-requires-clause-fits : goal.interpolate_stiff-requires-clause-fits
interpolate_stiff-requires-clause-fits c = valid_fits (shown c.args.self.now) (sym c.is_valid.ensures ∙ c.if-not-is_valid.false)
