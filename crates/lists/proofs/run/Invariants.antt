use mathlib.Core.Path.{◌≡◌}
use lib.ListN.{drop}
use Rattle.rosenbrock.specs.Outcomes.{next_of}
use Rattle.lists.specs.Orders.{calls_of, last_of}
use Rattle.lists.proofs.run.Given as goal

-- what the calls that are left come to is what all of them do
abbrev pub invariant-loop-entry : goal.invariant-loop-entry
invariant-loop-entry l =
    last_of (next_of l.last l.state l.work l.pivots) (calls_of l.file (drop l.entry-index l.entries))
    ≡ last_of (next_of l.initial.last l.initial.state l.initial.work l.initial.pivots) (calls_of l.file l.entries)
