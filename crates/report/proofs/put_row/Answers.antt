-- `report::put_row` meets its contract: after each call the line begins with the texts so far. Assumes nothing.
use mathlib.Core.Path.{◌≡◌, refl, ap, ◌∙◌}
use mathlib.Core.Bool.{Bool, true, false}
use Rattle.std.specs.Int.{from_bool}
use borrow.Author.Rules.{rules}
use lib.Dec.{lit≤}
use lib.IntN.{pos}
use mir.Syntax.{w64}
use mir.Facts.{to_z-of_z}
use Rattle.common.proofs.Placing.{nothing, byte, whole}
use Rattle.columns.proofs.Placing.{number, number_is}
use Rattle.report.specs.Output.{bit, line_of}
use Rattle.report.proofs.put_row.Goals as goal

bit-is : (b : Bool) → from_bool b ≡ bit b
bit-is true = refl
bit-is false = refl

-- the whole line: the numbers in their columns, then the line feed
pub returns : goal.returns
unfolding line_of
returns c =
    let r = c.args.r in
    let p1 = number (nothing 61 c.args.line.now c.requires) 2 (pos r.period) (lit≤ tt) c.put_number.ensures in
    let p2 = number p1 9 (pos r.bound) (lit≤ tt) c.put_number-2.ensures in
    let p3 = number_is p2 9 (lit≤ tt) c.put_signed.ensures (to_z-of_z {w = w64} {z = r.start} (search rules)) in
    let p4 = number_is p3 9 (lit≤ tt) c.put_signed-2.ensures (to_z-of_z {w = w64} {z = r.end} (search rules)) in
    let p5 = number p4 9 (pos r.sched) (lit≤ tt) c.put_number-3.ensures in
    let p6 = number p5 9 (pos r.back) (lit≤ tt) c.put_number-4.ensures in
    let p7 = number p6 9 (pos r.left) (lit≤ tt) c.put_number-5.ensures in
    let p8 = number_is p7 2 (lit≤ tt) c.put_number-6.ensures (ap pos (c.from.ensures ∙ bit-is r.flag)) in
    let p9 = number_is p8 2 (lit≤ tt) c.put_number-7.ensures (ap pos (c.from-2.ensures ∙ bit-is r.verdict)) in
    whole (byte p9 10 (lit≤ tt)) (lit≤ tt)
