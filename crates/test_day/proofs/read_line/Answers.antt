-- `test_day::read_line` meets its contract. The loop's invariant is `Read`. Assumes nothing.
use mathlib.Core.Path.{sym, ◌∙◌}
use Rattle.test_day.proofs.Digits.{malformed, other_length, no-line-feed, zero-in-front, begin, stops, step, done}
use Rattle.test_day.proofs.read_line.Goals as goal

pub returns-then-text : goal.returns-then-text
returns-then-text c = malformed _ (other_length _ c.if-text.true)

pub returns-then-text-end-ne10 : goal.returns-then-text-end-ne10
returns-then-text-end-ne10 c = malformed _ (no-line-feed _ c.if-text.false c.if-text-end-ne10.true)

pub returns-then-end-text : goal.returns-then-end-text
returns-then-end-text c = malformed _ (zero-in-front _ c.if-text.false c.if-text-end-ne10.false c.if-end-text.true)

pub loop-b-init : goal.loop-b-init
loop-b-init c = begin _ c.if-text.false c.if-text-end-ne10.false c.if-end-text.false

pub returns-then-not-is_ascii_digit : goal.returns-then-not-is_ascii_digit
returns-then-not-is_ascii_digit c =
    malformed _ (stops _ c.loop-b.invariant c.loop-b-test.true (sym c.is_ascii_digit.ensures.value ∙ c.if-not-is_ascii_digit.true))

pub loop-b-preserved : goal.loop-b-preserved
loop-b-preserved c = step _ c.loop-b.invariant c.loop-b-test.true (sym c.is_ascii_digit.ensures.value ∙ c.if-not-is_ascii_digit.false)

pub returns : goal.returns
returns c = done _ c.loop-b.invariant c.loop-b-test.false
