-- `columns::put_at` meets its contract: the part comes back in its place. Assumes nothing.
use mathlib.Core.Path.{◌≡◌, sym}
use mathlib.Core.Bool.{Bool}
use mathlib.Core.List.{List}
use Prim.Native.Nat.{ℕ, ◌+◌, ◌<◌}
use native.Mathlib.Omega.{arith}
use lib.ListN.{length}
use Rattle.common.specs.Lists.{placed}
use Rattle.common.proofs.Placing.{stays, comes_back}
use Rattle.columns.specs.Number.{in_columns}
use Rattle.columns.proofs.Columns.{right-length}
use Rattle.columns.proofs.put_at.Goals as goal

-- the line has not all of the columns
short : (line : List ℕ) (at width : ℕ) (minus : Bool) (n : ℕ) → length line < at + width → line ≡ placed at (in_columns width minus n) line
short line at width minus n h = sym (stays at width _ line (right-length width _) h)

pub returns-then-line-width : goal.returns-then-line-width
returns-then-line-width c = short c.args.line.now c.args.at c.args.width c.args.minus c.args.n (omega arith)

pub returns-then-line-width-2 : goal.returns-then-line-width-2
returns-then-line-width-2 c = short c.args.line.now c.args.at c.args.width c.args.minus c.args.n (omega arith)

pub returns : goal.returns
returns c =
    let a = c.args in
    comes_back a.line.now _ a.at a.width (λ (k : ℕ). in_columns k a.minus a.n) (λ k. right-length k _) (omega arith) c.put.ensures
