-- Paper 01, "Ledger": what opening checks, and the record that it returns. Assumes nothing.
use Rattle.std.specs.Prelude.{Bool, not, ◌&&◌, ◌||◌, List, [], ◌∷◌, Result, ℕ, ◌+◌, ltb, eqb, pos, ◌-ℤ◌, replicate}
use Rattle.std.specs.Int.Signed.{lt_z}
use Rattle.common.specs.Answer.{Answer, Cause, cause, checked, answered}
use Rattle.terms.specs.Terms.{Q, REV, no_quantities, above1000, limits_broken}
use Rattle.terms.specs.declared.Terms.{Terms}
use Rattle.energy.specs.Curve.{Curves, blank, curves_rule}
use Rattle.energy.specs.declared.curve.Curve.{Curve}
use Rattle.ledger_record.specs.declared.Entries.{Entries}
use Rattle.ledger_record.specs.declared.Totals.{Totals}
use Rattle.ledger_record.specs.declared.Record.{Record}
use Rattle.ledger_record.specs.declared.OpenRefusal.{OpenRefusal}
use Rattle.ledger_record.specs.declared.OpenRefusal.TheVariants.{Quantity, Power, Curve as BadCurve, Size, State}

-- ---- refusals 1, 2, 5, 3, 4 in that order

-- size above 10,000,000 or below both REVs together
abbrev pub size_out : Terms → ℕ → Bool
size_out t size = ltb 10000000 size || ltb size (REV t.low + REV t.high)

-- first state below low REV or above size − high REV
abbrev pub first_out : Terms → ℕ → ℕ → Bool
first_out t size first = ltb first (REV t.low) || lt_z (pos size -ℤ pos (REV t.high)) (pos first)

-- a direction above 1,000 MW, or both 0
abbrev pub quantity_out : Terms → Bool
quantity_out t = above1000 t.low || above1000 t.high || (eqb (Q t.low) 0 && eqb (Q t.high) 0)

unfoldable pub opening_causes : Terms → Curves → ℕ → ℕ → List Cause
opening_causes t curves size first =
    cause 1 (quantity_out t)
    ∷ cause 2 (limits_broken t)
    ∷ cause 5 (not (curves_rule curves))
    ∷ cause 3 (size_out t size)
    ∷ cause 4 (first_out t size first)
    ∷ []

-- ---- the record

abbrev pub no_entries : Entries
no_entries = record { bounds = replicate 8 0; starts = replicate 8 (pos 0); scheds = replicate 8 0 }

-- nobody has bought or sold: eight zeros
abbrev pub no_totals : Totals
no_totals = record { bought = replicate 4 0; sold = replicate 4 0; delivered = 0; taken = 0 }

-- no period closed
abbrev pub first_record : Terms → Curves → ℕ → ℕ → Record
first_record t curves size first =
    record {
      terms = t;
      curves = curves;
      size = size;
      first = first;
      state = first;
      closed = 0;
      low = no_entries;
      high = no_entries;
      totals = no_totals;
    }

unfoldable pub opening : Terms → Curves → ℕ → ℕ → Answer Record
opening t curves size first = checked (opening_causes t curves size first) (first_record t curves size first)

-- ---- all zero: what a caller may show where an opening is refused

abbrev pub blank_curve : Curve
blank_curve = record { count = 0; points = replicate 5 blank }

abbrev pub blank_record : Record
blank_record =
    first_record
    (record { low = no_quantities; high = no_quantities; export_limit = pos 0; import_limit = pos 0 })
    (record { dc = blank_curve; dm = blank_curve; dr = blank_curve })
    0 0

-- the number of each of the code's refusals
abbrev pub refusal_number : OpenRefusal → ℕ
refusal_number Quantity = 1
refusal_number Power = 2
refusal_number BadCurve = 5
refusal_number Size = 3
refusal_number State = 4

abbrev pub answer_of : {A : Type 0} → Result A OpenRefusal → Answer A
answer_of = answered refusal_number
