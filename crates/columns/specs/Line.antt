-- Paper 01, "Report": numbers in the columns of a line. Assumes nothing.
use Rattle.std.specs.Prelude.{Bool, false, cond, List, [], ◌∷◌, ◌++◌, ℕ, ◌+◌, ◌/◌, ◌%◌, ltb, pos, take, drop}
use Rattle.columns.specs.Number.{text, number}
use Rattle.columns.specs.declared.Column.{Column}
use Rattle.columns.specs.declared.Field.{Field}

-- a refusal prints its number in nine columns and a line feed
unfoldable pub number_line : ℕ → List ℕ
number_line n = text 9 (pos n) ++ (10 ∷ [])

-- the number in the nine columns from `at` on; of a line that ends before them, in those that it has
abbrev pub number_at : ℕ → List ℕ → Field
number_at at line = number (take 9 (drop at line))

-- the last column that is still to be written, and what is left for those before it: a digit, then the -, then blanks
abbrev pub column_of : ℕ → Bool → Column
column_of rest minus =
    cond (ltb 0 rest) (record { byte = 48 + rest % 10; rest = rest / 10; minus = minus })
    (cond minus (record { byte = 45; rest = 0; minus = false }) (record { byte = 32; rest = 0; minus = false }))
