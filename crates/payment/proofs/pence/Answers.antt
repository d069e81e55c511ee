-- `payment::pence` meets its contract. Assumes nothing.
use borrow.Author.Rules.{sfits_of}
use mir.Facts.{to_z-of_z}
use Rattle.payment.proofs.Rounding.{pence-is}
use Rattle.payment.proofs.pence.Goals as goal

pub returns : goal.returns
returns c =
    rw (to_z-of_z {z = c.difference.result} (sfits_of c.difference.type_inv), c.difference.ensures, c.min-both.ensures)
    (pence-is _ _ _ c.requires)
