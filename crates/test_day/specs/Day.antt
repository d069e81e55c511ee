-- Paper 02, No. 9: a test day, frequency readings that anyone can repeat from a seed. Assumes nothing.
use Rattle.std.specs.Prelude.{◌≡◌, Bool, true, ◌&&◌, List, [], ◌∷◌, ◌++◌, ℕ, zero, suc, ◌+◌, ◌*◌, ◌/◌, ◌%◌, leb, ltb, length, Result}
use Rattle.common.specs.Answer.{Answer, given, Cause, cause, checked, or_blank, answered}
use Rattle.common.specs.Lists.{every}
use Rattle.test_day.specs.declared.SeedRefusal.{SeedRefusal}
use Rattle.test_day.specs.declared.SeedRefusal.TheVariants.{TooLarge}

-- ---- seeds and readings

-- each step makes the next seed: 1,103,515,245 times the old, plus 12,345, modulo 2,147,483,648
abbrev pub next_seed : ℕ → ℕ
next_seed old = (1103515245 * old + 12345) % 2147483648

-- the reading is 49,500 plus the remainder of (new seed divided by 65,536, rounded down) by 1,001
abbrev pub reading : ℕ → ℕ
reading new = 49500 + (new / 65536) % 1001

-- the readings of n steps
unfoldable pub readings : ℕ → ℕ → List ℕ
readings zero seed = []
readings (suc n) seed = reading (next_seed seed) ∷ readings n (next_seed seed)

-- the last seed, for length 0 the given one
unfoldable pub last_seed : ℕ → ℕ → ℕ
last_seed zero seed = seed
last_seed (suc n) seed = last_seed n (next_seed seed)

-- ---- the answer

-- a seed is 0 to 2,147,483,647
abbrev pub too_large : ℕ → Bool
too_large seed = ltb 2147483647 seed

-- 21: seed too large
abbrev pub fill_causes : ℕ → List Cause
fill_causes seed = cause 21 (too_large seed) ∷ []

-- fill a buffer of length n and return the last seed
unfoldable pub filling : ℕ → ℕ → Answer ℕ
filling seed n = checked (fill_causes seed) (last_seed n seed)

-- the buffer afterwards; it stays where the seed is too large
unfoldable pub filled : ℕ → List ℕ → List ℕ
filled seed buffer = or_blank buffer (checked (fill_causes seed) (readings (length buffer) seed))

-- the number of the code's refusal
abbrev pub refusal_number : SeedRefusal → ℕ
refusal_number TooLarge = 21

abbrev pub answer_of : Result ℕ SeedRefusal → Answer ℕ
answer_of = answered refusal_number

-- ---- the laws; proofs/Laws.antt proves both

abbrev pub in_range : ℕ → Bool
in_range r = leb 49500 r && leb r 50500

-- readings lie from 49,500 to 50,500 for every seed
abbrev pub ReadingsInRange : Type 0
ReadingsInRange = (n seed : ℕ) → every in_range (readings n seed) ≡ true

-- filling a first part and then the rest from the returned seed equals filling the whole
pub record SameInParts (seed last : ℕ) (first rest : List ℕ) : Type 0 where
  pub answer : filling last (length rest) ≡ filling seed (length (first ++ rest))
  pub buffer : filled seed first ++ filled last rest ≡ filled seed (first ++ rest)

-- for every split
abbrev pub FillInParts : Type 0
FillInParts = (seed last : ℕ) (first rest : List ℕ) → filling seed (length first) ≡ given last
    → SameInParts seed last first rest
