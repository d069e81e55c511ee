-- Pairs of numbers as bytes: four bytes for each number, with the lowest first. Assumes nothing.
use Rattle.std.specs.Prelude.{List, [], ◌∷◌, ◌++◌, ℕ, zero, suc, ◌+◌, ◌*◌}
use Rattle.bytes_at.specs.Numbers.{number_at}

-- `pair` says what two numbers make
abbrev pub pair_at : {P : Type 0} → (ℕ → ℕ → P) → List ℕ → ℕ → P
pair_at pair bytes i = pair (number_at 4 (8 * i) bytes) (number_at 4 (8 * i + 4) bytes)

unfoldable pub first_pairs : {P : Type 0} → (ℕ → ℕ → P) → ℕ → List ℕ → List P
first_pairs pair zero bytes = []
first_pairs pair (suc n) bytes = first_pairs pair n bytes ++ (pair_at pair bytes n ∷ [])
