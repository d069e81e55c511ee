-- `energy::table::fill_segment` meets its contract: what `fill` adds are the segment's responses. Assumes nothing.
use Rattle.energy.proofs.Segments.{fill-fits, filled}
use Rattle.energy.proofs.table.fill_segment.Goals as goal

pub fill-requires : goal.fill-requires
fill-requires c =
    rw (c.parts_of.ensures, c.from-width.ensures, c.from.ensures, c.from-2.ensures, c.from-3.ensures, c.from-4.ensures, c.from-5.ensures) (fill-fits c.requires)

pub returns : goal.returns
returns c =
    filled c.requires
    (rw (c.parts_of.ensures, c.from-width.ensures, c.from.ensures, c.from-2.ensures, c.from-3.ensures, c.from-4.ensures, c.from-5.ensures) at c.fill.ensures)
