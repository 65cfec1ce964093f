-- `tableau::accepts` meets its contract: as many bytes as 5 coefficients take, as 29 and as 89. Assumes nothing.
use mathlib.Core.Path.{refl}
use Rattle.tableau.specs.Tableau.{triangle}
use Rattle.tableau.proofs.Deciding.{said_stages, said_btilde}
use Rattle.tableau.proofs.accepts.Goals as goal

pub accepts_by_number-requires : goal.accepts_by_number-requires
unfolding triangle
accepts_by_number-requires c =
    let s = c.says.ensures in
    (c.if-file-eq-ONE_STAGE.true, refl, said_stages _ _ s c.if-says.true, said_btilde _ _ s c.if-says.true)

pub accepts_by_number-requires-then-says-2 : goal.accepts_by_number-requires-then-says-2
unfolding triangle
accepts_by_number-requires-then-says-2 c =
    let s = c.says-then-file-eq-FOUR_STAGES.ensures in
    (c.if-file-eq-FOUR_STAGES.true, refl, said_stages _ _ s c.if-says-2.true, said_btilde _ _ s c.if-says-2.true)

pub accepts_by_number-requires-then-says-3 : goal.accepts_by_number-requires-then-says-3
unfolding triangle
accepts_by_number-requires-then-says-3 c =
    let s = c.says-then-file-eq-EIGHT_STAGES.ensures in
    (c.if-file-eq-EIGHT_STAGES.true, refl, said_stages _ _ s c.if-says-3.true, said_btilde _ _ s c.if-says-3.true)
