-- `tableau::accepts_by_number` meets its contract: the tests, in the order in which they are made. Assumes nothing.
use mathlib.Core.Path.{◌≡◌, sym, ap, ◌∙◌}
use mathlib.Core.Bool.{not}
use mathlib.Core.List.{List}
use Prim.Native.Nat.{ℕ}
use native.Mathlib.Omega.{arith}
use borrow.Author.Tests.{not-true, not-false}
use Rattle.float.proofs.Cases.{told_yes}
use Rattle.vector.specs.Lists.{every}
use Rattle.tableau.specs.declared.Counts.{Counts}
use Rattle.tableau.specs.Tableau.{in_range, allowed_at}
use Rattle.tableau.specs.File.{header, matches, coefficients_of}
use Rattle.tableau.proofs.Laws.{length_coefficients}
use Rattle.tableau.proofs.Deciding.{stages_in, out_of_range, other_numbers, taken, counts_by_number, length_by_number}
use Rattle.tableau.proofs.accepts_by_number.Goals as goal

pub returns-then-not-in_range : goal.returns-then-not-in_range
returns-then-not-in_range c =
    let file = c.args.file.now in
    let e = counts_by_number file _ _ _ c.requires.2 c.requires.3 c.number.ensures c.number-2.ensures in
    out_of_range file (ap in_range (sym e) ∙ sym c.in_range.ensures ∙ not-true _ (ap not c.if-not-in_range.true))

pub header-requires : goal.header-requires
header-requires c = stages_in _ (told_yes c.in_range.ensures (ap not c.if-not-in_range.false))

numbers_are : (file : List ℕ) {k l : Counts} {head : List ℕ} → k ≡ l → head ≡ header k → every 12 (matches file head) ≡ every 12 (matches file (header l))
numbers_are file e h = ap (λ (l : List ℕ). every 12 (matches file l)) (h ∙ ap header e)

pub returns-then-headed : goal.returns-then-headed
returns-then-headed c =
    let file = c.args.file.now in
    let e = counts_by_number file _ _ _ c.requires.2 c.requires.3 c.number.ensures c.number-2.ensures in
    let p = ap in_range (sym e) ∙ sym c.in_range.ensures ∙ not-false _ (ap not c.if-not-in_range.false) in
    let q = sym (numbers_are file e c.header.ensures) ∙ sym c.headed.ensures ∙ c.if-headed.true in
    c.first_allowed.ensures ∙ ap (λ (n : ℕ). every n (allowed_at (coefficients_of file))) (omega (arith, length_coefficients file, c.requires.0)) ∙ taken file p (length_by_number file _ _ _ e c.requires.0 c.requires.1) q

pub returns-else-headed : goal.returns-else-headed
returns-else-headed c =
    let file = c.args.file.now in
    let e = counts_by_number file _ _ _ c.requires.2 c.requires.3 c.number.ensures c.number-2.ensures in
    c.if-headed.false ∙ other_numbers file (sym (numbers_are file e c.header.ensures) ∙ sym c.headed.ensures ∙ c.if-headed.false)
