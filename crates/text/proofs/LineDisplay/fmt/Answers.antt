-- Each line prints its text. Assumes nothing.
use mathlib.Core.Path.{ap, sym, subst, ◌∙◌}
use mathlib.Core.List.{List}
use Prim.Native.Nat.{ℕ, ◌^◌, ◌<◌}
use native.Mathlib.Omega.{arith}
use Rattle.std.specs.Prelude.{Option, Some}
use Rattle.std.specs.Fmt.{DisplaysOnOk}
use Rattle.text.specs.declared.Line.{Line}
use Rattle.text.specs.Lines.{text_of}
use Rattle.text.proofs.Texts.{hexadecimal_text, step_text}
use Rattle.text.proofs.LineDisplay.fmt.Goals as goal

pub returns-in-Step-clause-writes : goal.returns-in-Step-clause-writes
returns-in-Step-clause-writes g c =
    let x = c.in-Step in
    let n : x.step < 2 ^ 64 = omega arith in
    let m : c.bits_of-time.result < 2 ^ 64 = omega arith in
    let l : c.bits_of-state.result < 2 ^ 64 = omega arith in
    let t = hexadecimal_text _ _ x.time _ c.laid_out.ensures c.in_radix.ensures c.bits_of-time.ensures m in
    let u = hexadecimal_text _ _ x.state _ c.laid_out-in-Step.ensures c.in_radix-in-Step.ensures c.bits_of-state.ensures l in
    subst (λ (o : Option (List ℕ)). DisplaysOnOk g.W.Write.write_str_gives c.args.f.now c.writeln.result o c.writeln.new.self)
    (step_text x.step x.time x.state n t u ∙ ap (λ (l : Line). Some (text_of l)) (sym x.is))
    c.writeln.ensures.writes
