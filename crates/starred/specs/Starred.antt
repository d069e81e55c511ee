-- The starred examples of paper 01, "Checked examples", and those of paper 02, No. 8, as one list: what the papers print, and what
-- the definitions give.
-- `starred-hold` computes the whole list. Assumes nothing.
use Rattle.std.specs.Prelude.{◌≡◌, refl, Bool, cond, List, [], ◌∷◌, ◌++◌, map, ℕ, ◌*◌, ℤ, pos, neg_ℤ, drop}
use Rattle.common.specs.Answer.{number_of, or_blank}
use Rattle.common.specs.Lists.{sum, every, some_entry, chain}
use Rattle.common.specs.Periods.{periods_to}
use Rattle.terms.specs.Terms.{Quantities, REV, ER, limits_broken}
use Rattle.requirement.specs.declared.Row.{Row as Requirement}
use Rattle.requirement.specs.Requirement.{left, sched, back, start, end, row_of, table_of}
use Rattle.monitor.specs.declared.Row.{Row}
use Rattle.monitor.specs.Monitor.{rows_of, monitoring}
use Rattle.energy.specs.Curve.{regulation_curve, curve_rule, curves_rule, share_from, response}
use Rattle.energy.specs.Period.{low_deviation}
use Rattle.capability.specs.declared.Point.{Point}
use Rattle.capability.specs.Capability.{points_rule, capability_from, capability_of, capability_answer}
use Rattle.payment.specs.declared.Piece.{Piece}
use Rattle.payment.specs.Exact.{total, rounded}
use Rattle.payment.specs.Payment.{pieces_rule, amount, payment_causes, paying}
use Rattle.ledger_record.specs.declared.Record.{Record}
use Rattle.ledger_record.specs.Opening.{opening_causes, blank_record, opening}
use Rattle.ledger_record.specs.Rule.{start_at, sched_at, back_at, entries_rule, totals_rule, next_start, state_rule, record_rule}
use Rattle.ledger.specs.Calls.{unusable, need, accepts, checking}

-- lines of numbers
record Example : Type 0 where
  printed : List (List ℤ)
  given : List (List ℤ)

-- ---- quantities, in MW

containment : ℕ → Quantities
containment mw = record { dc = mw; dm = 0; dr = 0 }

regulation : ℕ → Quantities
regulation mw = record { dc = 0; dm = 0; dr = mw }

volumes : Quantities → List ℤ
volumes q = pos (REV q) ∷ pos (ER q) ∷ []

-- ---- a line of the report

bit : Bool → ℤ
bit b = cond b (pos 1) (pos 0)

line : Row → List ℤ
line r =
    pos r.period ∷ pos r.bound ∷ r.start ∷ r.end ∷ pos r.sched ∷ pos r.back ∷ pos r.left
    ∷ bit r.flag ∷ bit r.verdict ∷ []

nat : List ℕ → List ℤ
nat = map pos

high_table : List Requirement
high_table =
    (table_of (REV (containment 40)) (ER (containment 40))
    (0 ∷ 1000 ∷ 8000 ∷ 2000 ∷ 0 ∷ 0 ∷ 0 ∷ 0 ∷ [])).rows

-- ---- capability, in kW

-- a point given in MW
point : ℕ → ℕ → Point
point room capability = record { room = 1000 * room; capability = 1000 * capability }

low_points : List Point
low_points = point 0 0 ∷ point 10 9 ∷ point 50 25 ∷ point 100 40 ∷ []

high_points : List Point
high_points = point 0 0 ∷ point 30 20 ∷ point 100 60 ∷ []

capabilities : List Point → List ℕ → List ℤ
capabilities ps rooms = map (λ (room : ℕ). pos (or_blank 0 (capability_answer ps room))) rooms

-- ---- a payment

-- 10,000 kW for 1,800 seconds
one_piece : List Piece
one_piece = record { quantity = 10000; duration = 1800 } ∷ []

-- ---- a ledger

-- the record that opening returns: any power limits and curves that it lets through
full_battery : Record
full_battery =
    or_blank blank_record
    (opening (record { low = regulation 100; high = regulation 0; export_limit = pos 100000; import_limit = pos 40000 })
    (record { dc = regulation_curve; dm = regulation_curve; dr = regulation_curve })
    100000 100000)

-- ---- the list

starred : List Example
starred =
    -- 100 MW DR: REV 100,000, ER 20,000. 40 MW DC: 10,000 and 2,000.
    record {
      printed = nat (100000 ∷ 20000 ∷ []) ∷ nat (10000 ∷ 2000 ∷ []) ∷ [];
      given = volumes (regulation 100) ∷ volumes (containment 40) ∷ [];
    }
    -- Regulation, 100 MW: 49,985 gives 0 W; 49,984 gives 540,541; 49,800 gives 100,000,000. By 02, No. 5, in place of 01's
    -- 0 kW, 541 and 100,000.
    ∷ record {
      printed = nat (0 ∷ 540541 ∷ 100000000 ∷ []) ∷ [];
      given = nat (map (λ (r : ℕ). response 100 regulation_curve (low_deviation r)) (49985 ∷ 49984 ∷ 49800 ∷ [])) ∷ [];
    }
    -- the low table
    ∷ record {
      printed =
          nat (1 ∷ 15000 ∷ 100000 ∷ 85000 ∷ 15000 ∷ 0 ∷ 0 ∷ 0 ∷ 1 ∷ [])
          ∷ nat (2 ∷ 12000 ∷ 85000 ∷ 73000 ∷ 12000 ∷ 0 ∷ 0 ∷ 0 ∷ 1 ∷ [])
          ∷ nat (3 ∷ 20000 ∷ 73000 ∷ 53000 ∷ 20000 ∷ 0 ∷ 0 ∷ 0 ∷ 0 ∷ [])
          ∷ nat (4 ∷ 40000 ∷ 53000 ∷ 13000 ∷ 20000 ∷ 0 ∷ 0 ∷ 0 ∷ 1 ∷ [])
          ∷ (nat (5 ∷ 30000 ∷ 13000 ∷ []) ++ neg_ℤ (pos 2000) ∷ nat (20000 ∷ 15000 ∷ 20000 ∷ 1 ∷ 1 ∷ []))
          ∷ (nat (6 ∷ 4000 ∷ []) ++ neg_ℤ (pos 2000) ∷ nat (6000 ∷ 20000 ∷ 12000 ∷ 30000 ∷ 1 ∷ 1 ∷ []))
          ∷ nat (7 ∷ 5000 ∷ 6000 ∷ 21000 ∷ 19000 ∷ 20000 ∷ 14000 ∷ 0 ∷ 1 ∷ [])
          ∷ nat (8 ∷ 1000 ∷ 21000 ∷ 40000 ∷ 1000 ∷ 20000 ∷ 0 ∷ 0 ∷ 1 ∷ [])
          ∷ [];
      given =
          map line (or_blank [] (monitoring (regulation 100)
          (15000 ∷ 12000 ∷ 20000 ∷ 40000 ∷ 30000 ∷ 4000 ∷ 5000 ∷ 1000 ∷ [])
          (100000 ∷ 85000 ∷ 72999 ∷ 53000 ∷ 20000 ∷ 0 ∷ 6000 ∷ 21000 ∷ [])));
    }
    -- high, 40 MW DC, bounds 0, 1, 8, 2, 0, 0, 0, 0 MWh: starts 10, 10, 9, 1, −1, −1, 0, 2; last end 4
    ∷ record {
      printed =
          (nat (10000 ∷ 10000 ∷ 9000 ∷ 1000 ∷ []) ++ neg_ℤ (pos 1000) ∷ neg_ℤ (pos 1000) ∷ nat (0 ∷ 2000 ∷ []))
          ∷ nat (4000 ∷ [])
          ∷ [];
      given =
          map (λ (r : Requirement). r.start) high_table
          ∷ map (λ (r : Requirement). r.end) (drop 7 high_table)
          ∷ [];
    }
    -- points (0,0) (10,9) (50,25) (100,40), in MW: room 30 gives 17, 150 gives 55
    ∷ record {
      printed = nat (17000 ∷ 55000 ∷ []) ∷ [];
      given = capabilities low_points (30000 ∷ 150000 ∷ []) ∷ [];
    }
    -- points (0,0) (30,20) (100,60): room 170 gives 100; 003 prints 80, against its rule
    ∷ record {
      printed = nat (100000 ∷ []) ∷ [];
      given = capabilities high_points (170000 ∷ []) ∷ [];
    }
    -- 100 MW DR low only, size and state 100,000: p = 0 accepted, 1 and −1 refused
    ∷ record {
      printed = nat (0 ∷ 8 ∷ 8 ∷ []) ∷ [];
      given = nat (map (λ (p : ℤ). number_of (checking full_battery p)) (pos 0 ∷ pos 1 ∷ neg_ℤ (pos 1) ∷ [])) ∷ [];
    }
    -- 02, No. 8. With price 500, K and F 1,000, and 10,000 kW for 1,800 seconds it is 2,500 pence; with adjustment price 1,000 and
    -- K 900, 2,000. In the first any adjustment price will do.
    ∷ record {
      printed = nat (2500 ∷ 2000 ∷ []) ∷ [];
      given = map (or_blank (pos 0)) (paying 500 0 1000 1000 one_piece ∷ paying 500 1000 900 1000 one_piece ∷ []) ∷ [];
    }
    ∷ []

starred-hold : map (λ (x : Example). x.given) starred ≡ map (λ (x : Example). x.printed) starred
unfolding starred volumes containment regulation line bit nat high_table point low_points high_points capabilities full_battery left sched back start end row_of periods_to table_of rows_of monitoring some_entry every sum share_from response chain curve_rule curves_rule limits_broken opening_causes opening start_at sched_at back_at entries_rule totals_rule next_start state_rule record_rule unusable need accepts checking points_rule capability_from capability_of capability_answer one_piece pieces_rule total rounded amount payment_causes paying
starred-hold = refl
