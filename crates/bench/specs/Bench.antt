-- What the timing program links: period energy and closings over numbers. Assumes nothing.
use Rattle.std.specs.Prelude.{cond, List, [], ◌∷◌, ℕ, zero, suc, ◌+◌, ◌*◌, eqb, pos}
use Rattle.common.specs.Answer.{Answer, refused, given, or_blank}
use Rattle.common.specs.declared.Directions.{Directions}
use Rattle.terms.specs.Terms.{Quantities}
use Rattle.terms.specs.declared.Terms.{Terms}
use Rattle.energy.specs.declared.curve.Curve.{Curve}
use Rattle.energy.specs.Curve.{Curves, point, containment_curve, regulation_curve}
use Rattle.energy.specs.Period.{period_energy}
use Rattle.ledger_record.specs.declared.Record.{Record}
use Rattle.ledger_record.specs.Opening.{blank_record, opening}
use Rattle.ledger.specs.Calls.{Closing, closing}

abbrev pub quantities : ℕ → ℕ → ℕ → Quantities
quantities dc dm dr = record { dc = dc; dm = dm; dr = dr }

-- (15, 0) (200, 50) (500, 400) (1500, 700) (3000, 1000)
abbrev pub rising_curve : Curve
rising_curve =
    record { count = 5; points = point 15 0 ∷ point 200 50 ∷ point 500 400 ∷ point 1500 700 ∷ point 3000 1000 ∷ [] }

-- 1 is containment, 3 a curve still rising at 3,000 mHz, any other number regulation
abbrev pub curve_of : ℕ → Curve
curve_of n = cond (eqb n 1) containment_curve (cond (eqb n 3) rising_curve regulation_curve)

abbrev pub curves_of : ℕ → ℕ → ℕ → Curves
curves_of dc dm dr = record { dc = curve_of dc; dm = curve_of dm; dr = curve_of dr }

-- a refusal's number, or both bounds as one number
abbrev pub one_number : Answer (Directions ℕ) → ℕ
one_number (refused number) = number
one_number (given b) = b.low * 4294967296 + b.high

-- the same quantities in both directions
abbrev pub period_number : Quantities → Curves → List ℕ → ℕ
period_number q cs rs = one_number (period_energy q q cs rs)

-- regulation alone, as much low as high, with power limits that hold any quantity
abbrev pub regulation_terms : ℕ → Terms
regulation_terms mw =
    record { low = quantities 0 0 mw; high = quantities 0 0 mw; export_limit = pos 2000000; import_limit = pos 2000000 }

-- opened with the stock curve of regulation for every service
abbrev pub opened_record : ℕ → ℕ → ℕ → Record
opened_record mw size first = or_blank blank_record (opening (regulation_terms mw) (curves_of 2 2 2) size first)

-- the record after n closings with the same arguments, each on the record that the last one returned or left
unfoldable pub closings : ℕ → Record → Closing → Record
closings zero r c = r
closings (suc n) r c = or_blank (closings n r c) (closing (closings n r c) c)

-- the periods closed and the state as one number
abbrev pub record_number : Record → ℕ
record_number r = r.closed * 4294967296 + r.state
