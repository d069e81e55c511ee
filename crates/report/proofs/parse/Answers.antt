-- `report::parse` meets its contract. The loop's invariant is `Parsed`. Assumes nothing.
use mathlib.Core.Path.{ap, ◌∙◌}
use native.Mathlib.Omega.{arith}
use Rattle.report.specs.Input.{terms_of, energies_of}
use Rattle.report.proofs.Parsing.{wrong-length, wrong-terms, wrong-energies, begin, step, done, terms_long, energies_long, first_given, given, within_text}
use Rattle.report.proofs.parse.Goals as goal

pub returns-then-text-ne189 : goal.returns-then-text-ne189
returns-then-text-ne189 c = wrong-length _ c.if-text-ne189.true

pub read_terms-requires : goal.read_terms-requires
read_terms-requires c = rw (first_given c.of-reader.ensures c.in_ok-next.ensures.steps) (terms_long _ (omega arith))

pub returns-in_err-quantities : goal.returns-in_err-quantities
returns-in_err-quantities c =
    c.from_residual-in_err-quantities.ensures
    ∙ wrong-terms _ (c.in_err-quantities.ensures ∙ ap terms_of (first_given c.of-reader.ensures c.in_ok-next.ensures.steps))

pub loop-i-init : goal.loop-i-init
loop-i-init c =
    let r = c.of-reader.ensures in
    let m = c.in_ok-next.ensures.steps in
    record { text_is = ap (λ b. b.now) (m.keeps ∙ r.0); line_is = omega (arith, m.goes_on, r.1); parsed = begin _ }

pub read_energies-requires : goal.read_energies-requires
read_energies-requires c =
    let m = c.in_ok-next-2.ensures.steps in
    let at = c.loop-i.invariant in
    rw (given _ m at.text_is at.line_is) (energies_long _ _ (omega arith) (within_text _ m at.text_is at.line_is))

pub returns-in_err-energies : goal.returns-in_err-energies
returns-in_err-energies c =
    let at = c.loop-i.invariant in
    c.from_residual-in_err-energies.ensures
    ∙ wrong-energies _ _ c.loop-i-test.true (c.in_err-energies.ensures ∙ ap energies_of (given _ c.in_ok-next-2.ensures.steps at.text_is at.line_is))

pub loop-i-preserved : goal.loop-i-preserved
loop-i-preserved c =
    let m = c.in_ok-next-2.ensures.steps in
    let at = c.loop-i.invariant in
    record {
      text_is = ap (λ b. b.now) m.keeps ∙ at.text_is;
      line_is = omega (arith, m.goes_on, at.line_is);
      parsed = step _ at.parsed c.loop-i-test.true (c.in_ok-energies.ensures ∙ ap energies_of (given _ m at.text_is at.line_is));
    }

pub returns : goal.returns
returns c =
    let first = first_given c.of-reader.ensures c.in_ok-next.ensures.steps in
    done _ c.loop-i.invariant.parsed c.loop-i-test.false c.if-text-ne189.false (c.in_ok-quantities.ensures ∙ ap terms_of first)
