-- What the loop of `capability_of` keeps. Assumes nothing.
use Rattle.capability.proofs.Segments.{Reached}
use Rattle.capability.proofs.capability_of.Given as goal

abbrev pub invariant-loop-next : goal.invariant-loop-next
invariant-loop-next l = Reached l.points l.others l.room l.p l.q l.next-index
