-- Sums and tests over lists, and entries placed in a list. Assumes nothing.
use Rattle.std.specs.Prelude.{Bool, true, false, cond, ◌&&◌, ◌||◌, List, [], ◌∷◌, ℕ, suc, ◌+◌, leb, length}
use Rattle.std.proofs.Math.Seq.{paste}

unfoldable pub sum : List ℕ → ℕ
sum [] = 0
sum (n ∷ ns) = n + sum ns

unfoldable pub every : {A : Type 0} → (A → Bool) → List A → Bool
every holds [] = true
every holds (x ∷ xs) = holds x && every holds xs

-- each entry passes a test that is given its place too, counted from `at`
unfoldable pub every_from : {A : Type 0} → ℕ → (ℕ → A → Bool) → List A → Bool
every_from at holds [] = true
every_from at holds (x ∷ xs) = holds at x && every_from (suc at) holds xs

unfoldable pub some_entry : {A : Type 0} → (A → Bool) → List A → Bool
some_entry holds [] = false
some_entry holds (x ∷ xs) = holds x || some_entry holds xs

-- from x on, each entry passes the test and is linked to the next
unfoldable pub chain : {A : Type 0} → (A → Bool) → (A → A → Bool) → A → List A → Bool
chain holds linked x [] = holds x
chain holds linked x (y ∷ ys) = holds x && linked x y && chain holds linked y ys

-- the entries from `at` on replaced by those of `t`; a list that has not all of these places stays as it was
unfoldable pub placed : ℕ → List ℕ → List ℕ → List ℕ
placed at t list = cond (leb (at + length t) (length list)) (paste list at t (length t)) list
