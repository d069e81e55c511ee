-- `capability::Limits::hold` meets its contract. Assumes nothing.
use borrow.Author.Rules.{rules}
use Rattle.capability.specs.Capability.{limits_rule}
use Rattle.capability.proofs.Limits.hold.Goals as goal

pub returns : goal.returns
unfolding limits_rule
returns c = rw c.each_in_range.ensures (search rules)
