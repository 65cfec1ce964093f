-- `vector::fours_finite` meets its contract. Assumes nothing.
use mathlib.Core.Path.{◌∙◌}
use Rattle.std.proofs.Common.{rules, tests}
use Rattle.std.proofs.lemmas.Iterator.{YieldsList-from_slice}
use Rattle.std.proofs.lemmas.Iterator.Search.{all_from_yields_List}
use Rattle.vector.specs.Lists.{el, four_finite}
use Rattle.vector.proofs.Fours.{four_is}
use Rattle.vector.proofs.fours_finite.Goals as goal

pub returns : goal.returns
returns c =
    all_from_yields_List four_finite _ _ c.all.result c.all.ensures.ran (YieldsList-from_slice c.args.fours.now cc)
    (λ x b q k. (search rules, search (rules, tests) ∙ four_is (el x.now 0) (el x.now 1) (el x.now 2) (el x.now 3)))
