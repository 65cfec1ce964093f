-- `proposal::AttemptedStep::start_factor` meets its contract: 1 / 0 is the infinity. Assumes nothing.
use lib.Ieee.{div, of_bits}
use Rattle.proposal.specs.Rules.{start_factor}
use Rattle.proposal.proofs.AttemptedStep.start_factor.Goals as goal

pub returns-then-self-2 : goal.returns-then-self-2
unfolding start_factor div of_bits
returns-then-self-2 c = simp (c.if-self.false, c.if-self-2.true)

pub returns-else-self-2 : goal.returns-else-self-2
unfolding start_factor div of_bits
returns-else-self-2 c = simp (c.if-self.false, c.if-self-2.false)
