-- Paper 01, "Report": the input, nine lines ended by a line feed, 189 bytes. Assumes nothing.
use Rattle.std.specs.Prelude.{◌≡◌, Bool, cond, ◌&&◌, ◌||◌, List, [], map, Option, Some, None, is_some, IfSome, IfNone, ℕ, zero, suc, ◌+◌, ◌*◌, ◌-◌, ◌<◌, ◌≤◌, eqb, length, get_or, take, drop, replicate}
use Rattle.std.specs.Borrow.{Bor}
use Rattle.common.specs.Lists.{every}
use Rattle.common.specs.Periods.{periods_to}
use Rattle.columns.specs.Line.{number_at}
use Rattle.columns.specs.declared.Field.{Field}
use Rattle.terms.specs.Terms.{Quantities, no_quantities}
use Rattle.report.specs.declared.Energies.{Energies}
use Rattle.report.specs.declared.Reader.{Reader}
use Rattle.report.specs.declared.Input.{Input}

-- ---- a line

-- number i of a line, counted from 0, stands in nine columns
abbrev pub column : ℕ → List ℕ → Field
column i line = number_at (9 * i) line

-- a line of k numbers has its line feed after them
abbrev pub ended : ℕ → List ℕ → Bool
ended k line = eqb (get_or line (9 * k) 0) 10

-- f of a number, else nothing
abbrev pub with_number : {A : Type 0} → Field → (ℕ → Option A) → Option A
with_number (Field.Number n) f = f n
with_number Field.Blank f = None
with_number Field.Malformed f = None

-- line 1: direction (1 low, 2 high), DC, DM, DR; another direction is malformed
unfoldable pub terms_of : List ℕ → Option Quantities
terms_of line =
    with_number (column 0 line) (λ direction.
    with_number (column 1 line) (λ dc.
    with_number (column 2 line) (λ dm.
    with_number (column 3 line) (λ dr.
    cond (ended 4 line && (eqb direction 1 || eqb direction 2)) (Some (record { dc = dc; dm = dm; dr = dr })) None))))

-- lines 2 to 9: bound, reported
unfoldable pub energies_of : List ℕ → Option Energies
energies_of line =
    with_number (column 0 line) (λ bound.
    with_number (column 1 line) (λ reported.
    cond (ended 2 line) (Some (record { bound = bound; reported = reported })) None))

-- ---- the lines of a text

-- line n: line 1 has 37 bytes and each line after it 19; there is no line 0
unfoldable pub line_at : List ℕ → ℕ → List ℕ
line_at text zero = []
line_at text (suc zero) = take 37 text
line_at text (suc (suc before)) = take 19 (drop (37 + 19 * before) text)

-- the bytes up to the end of line n
abbrev pub line_end : ℕ → ℕ
line_end n = 37 + 19 * (n - 1)

-- a reader gives its line, keeps its text and goes on to the next line; where the text ends before the line does it gives none and stays
pub record MovedOn (before : Reader) (line : Option (Bor (List ℕ))) (after : Reader) : Type 0 where
  pub gives : IfSome line (λ l. (l.now ≡ line_at before.text.now before.line) × (1 ≤ before.line) × (line_end before.line ≤ length before.text.now))
  pub keeps : after.text ≡ before.text
  pub goes_on : IfSome line (λ l. after.line ≡ before.line + 1)
  pub stays : IfNone line (after.line ≡ before.line)
  pub ends : IfNone line (1 ≤ before.line → length before.text.now < line_end before.line)

-- ---- the input

-- where line 1 says nothing, zeros
abbrev pub quantities_of : Option Quantities → Quantities
quantities_of (Some quantities) = quantities
quantities_of None = no_quantities

abbrev pub bound_of : Option Energies → ℕ
bound_of (Some energies) = energies.bound
bound_of None = 0

abbrev pub reported_of : Option Energies → ℕ
reported_of (Some energies) = energies.reported
reported_of None = 0

-- the line of period i is line i + 1
unfoldable pub period_lines : List ℕ → List (Option Energies)
period_lines text = map (λ (i : ℕ). energies_of (line_at text (suc i))) (periods_to 8)

-- another length is malformed
unfoldable pub well_formed : List ℕ → Bool
well_formed text = eqb (length text) 189 && is_some (terms_of (line_at text 1)) && every is_some (period_lines text)

abbrev pub no_input : Input
no_input = record { quantities = no_quantities; bounds = replicate 8 0; reported = replicate 8 0 }

-- what a text says; zeros where it is malformed
unfoldable pub input_of : List ℕ → Input
input_of text =
    cond (well_formed text)
    (record {
      quantities = quantities_of (terms_of (line_at text 1));
      bounds = map bound_of (period_lines text);
      reported = map reported_of (period_lines text);
    })
    no_input

-- the same, and nothing where it is malformed
abbrev pub parsed : List ℕ → Option Input
parsed text = cond (well_formed text) (Some (input_of text)) None
