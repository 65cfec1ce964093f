-- The runs of specs/Printed, by computation. Assumes nothing.
use mathlib.Core.Path.{◌≡◌, refl, ap, subst, ◌∙◌}
use lib.Ieee as ieee
use Rattle.rosenbrock.specs.Readers as readers
use Rattle.method.specs.Conversation as conversation
use Rattle.text.specs.Lines as text
use Rattle.decay.specs.Host as host
use Rattle.forecast.specs.Pond as pond
use Rattle.std.specs.Prelude.{ℕ, List, take, replicate, Option, Some, IfSome}
use Rattle.float.specs.Operators.{𝟎}
use Rattle.forecast.proofs.Writing.{printed_is}
use Rattle.worked.proofs.Opened.{computing}
use Rattle.worked.specs.Pond.{file}
use Rattle.worked.specs.Printed.{PondPrints, four_lines}

unfoldable pub printing : Unit {0}
unfolding ieee.neg readers.query_tests readers.reply readers.answered readers.read_of conversation.answer_to text.decimal_up_to text.decimal text.hexadecimal text.step_line text.refused_line host.decay host.supplied_to host.supplied_by host.if_asked host.answered_once host.answered host.if_shown host.decided host.one_step pond.after_making pond.begun pond.standing pond.after_step pond.advanced_by pond.advanced pond.line_by pond.line_of pond.header pond.start pond.printed
printing = tt

pub pond_prints : PondPrints
unfolding computing printing file
pond_prints = refl

-- the file is shorter than what pond reads
all_is_read : take 761 file ≡ file
unfolding computing file
all_is_read = refl

program_prints : pond.printed_with (replicate 2816 𝟎) (take 761 file) ≡ four_lines
program_prints = ap (pond.printed_with (replicate 2816 𝟎)) all_is_read ∙ printed_is file ∙ pond_prints

-- where the file is what is to be read
pub read_and_printed : (P : List ℕ → Type 0) (known : Option (List ℕ)) → known ≡ Some file → IfSome known (λ bytes. P (pond.printed_with (replicate 2816 𝟎) (take 761 bytes))) → P four_lines
read_and_printed P known e h =
    subst P program_prints (subst (λ (k : Option (List ℕ)). IfSome k (λ bytes. P (pond.printed_with (replicate 2816 𝟎) (take 761 bytes)))) e h)
