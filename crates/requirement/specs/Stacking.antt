-- Paper 02, No. 10: what combining two contracts of one direction costs, against the two in separate books. `Stacking`, `Multiples`
-- and `InMW` are the statements; `stacking` and `in-mw` in proofs/Stacking.antt and `multiples` in proofs/Multiples.antt prove them.
-- `Stacking`, in words: take two contracts with eight bounds each, and a third with REV, ER and each bound added. Each of its nine
-- starts is at least the sum of the two separate starts. It equals that sum wherever neither contract has had anything left before.
-- And it is above that sum by exactly the left that combining saves four periods before: what the two have left in that period,
-- less what the third has left in it. What one contract leaves then comes back by the ER that the other does not use, and so
-- sooner.
-- `Multiples`, in words: multiply REV, ER and all bounds of a contract by one whole number, 0 or more. Each start, schedule and
-- left is then that number times what it was.
-- `InMW`, in words: add the MW of two contracts, service by service, or multiply those of one. REV and ER are then added, or
-- multiplied. So a report of the MW and bounds of both is that of the combined contract.
-- The first two hold for any number of bounds, as many in each contract, and any period: `stacked` and `multiple`.
-- Assumes nothing.
use Rattle.std.specs.Prelude.{◌≡◌, cond, ℕ, ◌+◌, ◌*◌, ◌-◌, ◌≤◌, ◌<◌, leb, ℤ, pos, ◌+ℤ◌, ◌-ℤ◌, ◌*ℤ◌, length, ◌≤ℤ◌}
use mathlib.Core.List.{List, map, zip_with}
use Rattle.common.specs.Periods.{of_period}
use Rattle.terms.specs.Terms.{Quantities, REV, ER}
use Rattle.requirement.specs.Requirement.{left, sched, start}

-- ---- a contract in one direction, with its bounds from period 1 on

pub record Contract : Type 0 where
  pub REV : ℕ
  pub ER : ℕ
  pub bounds : List ℕ

-- start, sched and left of period i, by the definitions that the rows of every table have; start 9 is `start_in c 9`
module _ (c : Contract) (i : ℕ) where
  abbrev pub start_in : ℤ
  start_in = start c.REV c.ER (of_period c.bounds) i

  abbrev pub sched_in : ℕ
  sched_in = sched c.ER (of_period c.bounds) i

  abbrev pub left_in : ℕ
  left_in = left c.ER (of_period c.bounds) i

-- ---- two contracts as one

abbrev pub each_added : List ℕ → List ℕ → List ℕ
each_added = zip_with (λ (e f : ℕ). e + f)

-- REV, ER and each bound added
abbrev pub combined : Contract → Contract → Contract
combined a b = record { REV = a.REV + b.REV; ER = a.ER + b.ER; bounds = each_added a.bounds b.bounds }

-- the left that combining saves in period i
abbrev pub saved_in : Contract → Contract → ℕ → ℤ
saved_in a b i = pos (left_in a i + left_in b i) -ℤ pos (left_in (combined a b) i)

-- the same of four periods before i; for i ≤ 4 there is no such period
abbrev pub saved_before : Contract → Contract → ℕ → ℤ
saved_before a b i = cond (leb i 4) (pos 0) (saved_in a b (i - 4))

pub record Stacked (a b : Contract) (i : ℕ) : Type 0 where
  -- every start is at least the sum of the two separate starts
  pub at_least : (start_in a i +ℤ start_in b i) ≤ℤ start_in (combined a b) i
  -- it equals that sum wherever neither contract has had anything left before
  pub equal : ((j : ℕ) → 1 ≤ j → j < i → (left_in a j ≡ 0) × (left_in b j ≡ 0))
      → start_in (combined a b) i ≡ start_in a i +ℤ start_in b i
  -- what combining costs, exactly
  pub cost : start_in (combined a b) i -ℤ (start_in a i +ℤ start_in b i) ≡ saved_before a b i

-- every two contracts with eight bounds each, and each start, also start 9
abbrev pub Stacking : Type 0
Stacking = (a b : Contract) → length a.bounds ≡ 8 → length b.bounds ≡ 8 → (i : ℕ) → 1 ≤ i → i ≤ 9 → Stacked a b i

-- ---- a contract multiplied

abbrev pub each_times : ℕ → List ℕ → List ℕ
each_times m = map (λ (e : ℕ). m * e)

-- REV, ER and all bounds multiplied by m
abbrev pub multiplied : ℕ → Contract → Contract
multiplied m c = record { REV = m * c.REV; ER = m * c.ER; bounds = each_times m c.bounds }

pub record Multiple (m : ℕ) (c : Contract) (i : ℕ) : Type 0 where
  pub starts : start_in (multiplied m c) i ≡ pos m *ℤ start_in c i
  pub schedules : sched_in (multiplied m c) i ≡ m * sched_in c i
  pub lefts : left_in (multiplied m c) i ≡ m * left_in c i

-- every contract with eight bounds, every whole number, 0 or more, and each period, also start 9
abbrev pub Multiples : Type 0
Multiples = (m : ℕ) (c : Contract) → length c.bounds ≡ 8 → (i : ℕ) → 1 ≤ i → i ≤ 9 → Multiple m c i

-- ---- in MW

-- the contract of a direction's quantities (01, "Contract terms")
abbrev pub contract_of : Quantities → List ℕ → Contract
contract_of q bounds = record { REV = REV q; ER = ER q; bounds = bounds }

abbrev pub mw_added : Quantities → Quantities → Quantities
mw_added p q = record { dc = p.dc + q.dc; dm = p.dm + q.dm; dr = p.dr + q.dr }

abbrev pub mw_times : ℕ → Quantities → Quantities
mw_times m q = record { dc = m * q.dc; dm = m * q.dm; dr = m * q.dr }

pub record InMW : Type 0 where
  pub sums : (p q : Quantities) (es fs : List ℕ)
      → contract_of (mw_added p q) (each_added es fs) ≡ combined (contract_of p es) (contract_of q fs)
  pub multiples : (m : ℕ) (q : Quantities) (es : List ℕ)
      → contract_of (mw_times m q) (each_times m es) ≡ multiplied m (contract_of q es)
