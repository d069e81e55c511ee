-- Paper 01, "Report": the output, eight lines, 488 bytes. Assumes nothing.
use Rattle.std.specs.Prelude.{Bool, true, false, List, [], ◌∷◌, ◌++◌, ℕ, pos}
use Rattle.columns.specs.Number.{text}
use Rattle.monitor.specs.declared.Row.{Row}

-- 1 allowed, 1 pass
abbrev pub bit : Bool → ℕ
bit true = 1
bit false = 0

-- period in two columns and, in nine each, bound, start, end, sched, back, left; then flag and verdict in two columns
unfoldable pub line_of : Row → List ℕ
line_of r =
    text 2 (pos r.period)
    ++ text 9 (pos r.bound)
    ++ text 9 r.start
    ++ text 9 r.end
    ++ text 9 (pos r.sched)
    ++ text 9 (pos r.back)
    ++ text 9 (pos r.left)
    ++ text 2 (pos (bit r.flag))
    ++ text 2 (pos (bit r.verdict))
    ++ (10 ∷ [])

-- the table is the lines of its rows
unfoldable pub table : List Row → List ℕ
table [] = []
table (r ∷ rs) = line_of r ++ table rs
