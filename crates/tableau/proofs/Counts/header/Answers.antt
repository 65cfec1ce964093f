-- `tableau::Counts::header` meets its contract. Assumes nothing.
use Rattle.tableau.proofs.Head.{header_is}
use Rattle.tableau.proofs.Counts.header.Goals as goal

pub returns : goal.returns
returns c = header_is c.args.self c.triangle-m.ensures.0 c.if_present.ensures.0 c.if_present-2.ensures.0
