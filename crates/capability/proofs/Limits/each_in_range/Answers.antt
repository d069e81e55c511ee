-- `capability::Limits::each_in_range` meets its contract. Assumes nothing.
use mathlib.Core.Bool.{and-true}
use borrow.Author.Rules.{rules}
use Rattle.common.specs.Lists.{every}
use Rattle.capability.proofs.Limits.each_in_range.Goals as goal

pub returns : goal.returns
unfolding every
returns c =
    rw (
      c.in_range-5.ensures,
      c.in_range-4.ensures,
      c.in_range-3.ensures,
      c.in_range-2.ensures,
      c.in_range.ensures,
      and-true,
    )
    (search rules)
