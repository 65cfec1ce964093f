-- `tableau::accepts_any` meets its contract: the tests, in the order in which they are made. Assumes nothing.
use mathlib.Core.Path.{◌≡◌, sym, ap, ◌∙◌}
use mathlib.Core.Bool.{not}
use mathlib.Core.List.{List}
use Prim.Native.Nat.{ℕ}
use native.Mathlib.Omega.{arith}
use lib.ListN.{get_or}
use borrow.Author.Tests.{not-true, not-false}
use Rattle.float.proofs.Cases.{told_yes}
use Rattle.vector.specs.Lists.{every}
use Rattle.tableau.specs.declared.Counts.{Counts}
use Rattle.tableau.specs.Tableau.{how_many, in_range, allowed_at}
use Rattle.tableau.specs.File.{place, header, matches, counts_of, coefficients_of}
use Rattle.tableau.proofs.Laws.{length_coefficients}
use Rattle.tableau.proofs.Deciding.{stages_in, last_is, out_of_range, other_length, other_numbers, taken}
use Rattle.tableau.proofs.accepts_any.Goals as goal

pub returns-then-not-in_range : goal.returns-then-not-in_range
returns-then-not-in_range c = out_of_range c.args.file.now (ap in_range (sym c.read_counts-counts.ensures) ∙ sym c.in_range.ensures ∙ not-true _ (ap not c.if-not-in_range.true))

pub header-head-requires : goal.header-head-requires
header-head-requires c = stages_in _ (told_yes c.in_range.ensures (ap not c.if-not-in_range.false))

-- the last of the twelve numbers is the length
length_is : (file : List ℕ) {k : Counts} {head : List ℕ} → k ≡ counts_of file → head ≡ header k → get_or head 11 0 ≡ place (how_many (counts_of file))
length_is file {k} e h = ap (λ (l : List ℕ). get_or l 11 0) h ∙ last_is k ∙ ap (λ (l : Counts). place (how_many l)) e

numbers_are : (file : List ℕ) {k : Counts} {head : List ℕ} → k ≡ counts_of file → head ≡ header k → every 12 (matches file head) ≡ every 12 (matches file (header (counts_of file)))
numbers_are file e h = ap (λ (l : List ℕ). every 12 (matches file l)) (h ∙ ap header e)

pub returns-then-file-head : goal.returns-then-file-head
returns-then-file-head c =
    let file = c.args.file.now in
    other_length file (λ e. c.if-file-head.true (e ∙ sym (length_is file c.read_counts-counts.ensures c.header-head.ensures)))

pub first_allowed-requires : goal.first_allowed-requires
first_allowed-requires c =
    let file = c.args.file.now in
    let e = c.if-file-head.false ∙ length_is file c.read_counts-counts.ensures c.header-head.ensures in
    omega (arith, e, c.held.ensures)

pub returns-then-headed : goal.returns-then-headed
returns-then-headed c =
    let file = c.args.file.now in
    let k = c.read_counts-counts.ensures in
    let h = c.header-head.ensures in
    let p = ap in_range (sym k) ∙ sym c.in_range.ensures ∙ not-false _ (ap not c.if-not-in_range.false) in
    let q = sym (numbers_are file k h) ∙ sym c.headed.ensures ∙ c.if-headed.true in
    c.first_allowed.ensures ∙ ap (λ (n : ℕ). every n (allowed_at (coefficients_of file))) (omega (arith, length_coefficients file, c.held.ensures)) ∙ taken file p (c.if-file-head.false ∙ length_is file k h) q

pub returns-else-headed : goal.returns-else-headed
returns-else-headed c =
    let file = c.args.file.now in
    c.if-headed.false ∙ other_numbers file (sym (numbers_are file c.read_counts-counts.ensures c.header-head.ensures) ∙ sym c.headed.ensures ∙ c.if-headed.false)
