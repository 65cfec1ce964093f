-- `text::Line::put` meets its contract: piece after piece. Assumes nothing.
use native.Mathlib.Omega.{arith}
use mathlib.Core.Path.{◌≡◌}
use mathlib.Core.List.{◌++◌}
use lib.ListN.{length}
use Rattle.text.specs.Lines.{space, newline, decimal, hexadecimal, step_line, refused_word, refused_line}
use Rattle.text.proofs.Putting.{after, longer, counts}
use Rattle.text.proofs.Line.put.Goals as goal

pub returns-in-Step : goal.returns-in-Step
unfolding step_line
returns-in-Step c =
    let x = c.in-Step in
    let out = c.args.out.now in
    let k₁ = decimal x.step in
    let k₂ = k₁ ++ space in
    let k₃ = k₂ ++ hexadecimal x.time in
    let k₄ = k₃ ++ space in
    let k₅ = k₄ ++ hexadecimal x.state in
    let h₁ : c.append_decimal-a.result ≡ length k₁ = omega (arith, c.append_decimal-a.ensures.end) in
    let h₂ = longer k₁ space _ _ h₁ c.append-b.ensures.end in
    let h₃ = longer k₂ (hexadecimal x.time) _ _ h₂ c.append_hexadecimal-c.ensures.end in
    let h₄ = longer k₃ space _ _ h₃ c.append-d.ensures.end in
    let h₅ = longer k₄ (hexadecimal x.state) _ _ h₄ c.append_hexadecimal-e.ensures.end in
    let e₁ = c.append_decimal-a.ensures.text in
    let e₂ = after out k₁ space e₁ h₁ c.append-b.ensures.text in
    let e₃ = after out k₂ (hexadecimal x.time) e₂ h₂ c.append_hexadecimal-c.ensures.text in
    let e₄ = after out k₃ space e₃ h₃ c.append-d.ensures.text in
    let e₅ = after out k₄ (hexadecimal x.state) e₄ h₄ c.append_hexadecimal-e.ensures.text in
    record {
      bound = counts c.append.result c.append.new.out (omega arith);
      fits = omega arith;
      count = rw x.is (longer k₅ newline _ _ h₅ c.append.ensures.end);
      text = rw x.is (after out k₅ newline e₅ h₅ c.append.ensures.text);
    }

pub returns-in-Refused : goal.returns-in-Refused
unfolding refused_line
returns-in-Refused c =
    let x = c.in-Refused in
    let out = c.args.out.now in
    let k₂ = refused_word ++ decimal x.number in
    let h₁ : c.append-a.result ≡ length refused_word = omega (arith, c.append-a.ensures.end) in
    let h₂ = longer refused_word (decimal x.number) _ _ h₁ c.append_decimal-b.ensures.end in
    let e₂ = after out refused_word (decimal x.number) c.append-a.ensures.text h₁ c.append_decimal-b.ensures.text in
    record {
      bound = counts c.append-in-Refused.result c.append-in-Refused.new.out (omega arith);
      fits = omega arith;
      count = rw x.is (longer k₂ newline _ _ h₂ c.append-in-Refused.ensures.end);
      text = rw x.is (after out k₂ newline e₂ h₂ c.append-in-Refused.ensures.text);
    }
