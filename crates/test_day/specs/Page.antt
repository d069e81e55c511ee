-- Paper 02, No. 9: the line that a seed is read from, and what is printed for it. In ASCII 10 is a line feed and 48 the digit 0.
-- Assumes nothing.
use Rattle.std.specs.List.{flat_map}
use Rattle.std.specs.Prelude.{Bool, not, cond, ◌&&◌, ◌||◌, List, [], ◌∷◌, ℕ, ◌-◌, leb, eqb, length, take, get_or, Option, Some, None, Result}
use Rattle.common.specs.Answer.{Answer, refused, given, Cause, cause, checked, answered}
use Rattle.common.specs.Lists.{every}
use Rattle.columns.specs.Line.{number_line}
use Rattle.columns.specs.Number.{digit, number, value}
use Rattle.test_day.specs.Day.{readings, too_large, refusal_number}
use Rattle.test_day.specs.declared.PageRefusal.{PageRefusal}
use Rattle.test_day.specs.declared.PageRefusal.TheVariants.{Malformed, Seed}

-- ---- the line

-- what stands before the last byte
abbrev pub digits_of : List ℕ → List ℕ
digits_of text = take (length text - 1) text

-- one to ten digits without a leading zero, zero as one 0, and a line feed
unfoldable pub is_line : List ℕ → Bool
is_line text =
    leb 2 (length text) && leb (length text) 11
    && every digit (digits_of text)
    && (eqb (length text) 2 || not (eqb (get_or text 0 0) 48))
    && eqb (get_or text (length text - 1) 0) 10

-- the number that the digits are
abbrev pub seed_of : List ℕ → ℕ
seed_of text = value (number (digits_of text))

-- ---- what is printed

-- any other input prints 13 and a seed too large 21
unfoldable pub page_causes : List ℕ → List Cause
page_causes text = cause 13 (not (is_line text)) ∷ cause 21 (too_large (seed_of text)) ∷ []

-- one reading a line in nine columns; a refusal in nine columns and a line feed
abbrev pub lines : Answer (List ℕ) → List ℕ
lines (refused n) = number_line n
lines (given rs) = flat_map number_line rs

-- one period of 3,600
unfoldable pub page_readings : List ℕ → Answer (List ℕ)
page_readings text = checked (page_causes text) (readings 3600 (seed_of text))

unfoldable pub printed : List ℕ → List ℕ
printed text = lines (page_readings text)

-- ---- what the private functions make

unfoldable pub line_of : List ℕ → Option ℕ
line_of text = cond (is_line text) (Some (seed_of text)) None

-- the number of each of the code's refusals
abbrev pub page_refusal_number : PageRefusal → ℕ
page_refusal_number Malformed = 13
page_refusal_number (Seed refusal) = refusal_number refusal

abbrev pub page_answer_of : Result (List ℕ) PageRefusal → Answer (List ℕ)
page_answer_of = answered page_refusal_number
