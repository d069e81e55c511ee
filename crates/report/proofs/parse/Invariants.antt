-- What the loop of `parse` keeps: the reader stands on the line of period i + 1. Assumes nothing.
use mathlib.Core.Path.{◌≡◌}
use Prim.Native.Nat.{◌+◌}
use Rattle.report.proofs.Parsing.{Parsed}
use Rattle.report.proofs.parse.Given as goal

abbrev pub invariant-loop-i : goal.invariant-loop-i
invariant-loop-i l = record {
  text_is : l.reader.text.now ≡ l.fn.text;
  line_is : l.reader.line ≡ l.i + 2;
  parsed : Parsed l.fn.text l.bounds l.reported l.i;
}
