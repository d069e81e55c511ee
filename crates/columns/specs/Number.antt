-- Paper 01, "Report": a number as text, in ASCII: 32 is a blank, 45 a -, 48 to 57 are the digits. Assumes nothing.
use Rattle.std.specs.Prelude.{Bool, true, false, cond, ◌&&◌, List, [], ◌∷◌, ◌++◌, ℕ, zero, suc, ◌+◌, ◌*◌, ◌-◌, ◌/◌, ◌%◌, eqb, leb, ltb, ℤ, pos, negsuc, Option, Some, None, length, drop, replicate}
use Rattle.columns.specs.declared.Field.{Field}
use Rattle.columns.specs.declared.Field.TheVariants.{Blank, Number, Malformed}

-- ---- what text a number is

-- decimal digits, no leading zero, zero is one 0; of a number with more than k digits the last k
unfoldable pub digits : ℕ → ℕ → List ℕ
digits zero n = []
digits (suc k) n = cond (ltb n 10) [] (digits k (n / 10)) ++ ((48 + n % 10) ∷ [])

-- right-justified in k columns: the last k bytes of k blanks and the text
unfoldable pub right : ℕ → List ℕ → List ℕ
right k text = drop (length text) (replicate k 32 ++ text)

abbrev pub sign : Bool → List ℕ
sign true = 45 ∷ []
sign false = []

-- n in k columns, after a - where one is asked for
abbrev pub in_columns : ℕ → Bool → ℕ → List ℕ
in_columns k minus n = right k (sign minus ++ digits k n)

-- a number in k columns; below 0 it has a - before its first digit
abbrev pub text : ℕ → ℤ → List ℕ
text k (pos n) = in_columns k false n
text k (negsuc n) = in_columns k true (suc n)

-- ---- what number a text is

abbrev pub digit : ℕ → Bool
digit b = leb 48 b && leb b 57

-- the number so far
abbrev pub value : Field → ℕ
value Blank = 0
value (Number n) = n
value Malformed = 0

-- one column more: blanks, then digits, of which the first is 0 only where it stands alone
unfoldable pub next : Field → ℕ → Field
next Blank b = cond (eqb b 32) Blank (cond (digit b) (Number (b - 48)) Malformed)
next (Number n) b = cond (digit b && ltb 0 n) (Number (10 * n + (b - 48))) Malformed
next Malformed b = Malformed

abbrev pub after : Field → List ℕ → Field
after f [] = f
after f (b ∷ bs) = after (next f b) bs

abbrev pub number : List ℕ → Field
number = after Blank

-- the number that columns hold, where they hold one
abbrev pub number_in : Field → Option ℕ
number_in Blank = None
number_in (Number n) = Some n
number_in Malformed = None
