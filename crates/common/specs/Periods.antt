-- The settlement periods of a block, counted from 1. Assumes nothing.
use Rattle.std.specs.Prelude.{List, [], ◌∷◌, ◌++◌, ℕ, zero, suc, ◌-◌, get_or}

-- the periods 1 to n; a block has eight
unfoldable pub periods_to : ℕ → List ℕ
periods_to zero = []
periods_to (suc n) = periods_to n ++ (suc n ∷ [])

-- the entry of period i in a list that begins with period 1
abbrev pub of_period : List ℕ → ℕ → ℕ
of_period entries i = get_or entries (i - 1) 0
