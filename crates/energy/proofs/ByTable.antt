-- The table for the containment curve: what its rule says of each entry, and that responses and bounds by it are those by
-- interpolation. Assumes nothing.
use mathlib.Core.Path.{◌≡◌, refl, sym, ap, ◌∙◌}
use mathlib.Core.Bool.{true}
use mathlib.Core.List.{List}
use Prim.Native.Nat.{ℕ, ◌*◌, ◌≤◌, min}
use native.Mathlib.Nat.{eq_of_mul-eq-mul_right}
use native.Mathlib.Omega.{arith}
use borrow.Author.Tests.{eqb-true, eq-eqb}
use lib.Dec.{eqb}
use lib.ListN.{length, get_or, replicate}
use lib.Seq.{ext_get_or}
use Rattle.common.specs.Fraction.{rounded_up}
use Rattle.common.specs.Lists.{every_from}
use Rattle.common.proofs.Lists.{sum_same, entry-holds, every-entry}
use Rattle.common.proofs.Tests.{both_true, by-test}
use Rattle.terms.specs.Terms.{Quantities}
use Rattle.energy.specs.Curve.{containment_curve, share_from, response_to, response, Curves}
use Rattle.energy.specs.Containment.{containment_share, entry_rule, table_rule, entry_for, response_by_table, is_containment, service_by_table, bound_by_table, TableServes}
use Rattle.energy.specs.Period.{low_deviation, high_deviation, responses_by, responses, bound}
use Rattle.energy.specs.Rate.{divisor}
use Rattle.energy.specs.Table.{Added}
use Rattle.energy.specs.declared.curve.Curve.{Curve}
use Rattle.energy.proofs.Rounding.{up-exact, up_same}
use Rattle.energy.proofs.StockCurve.{positive, flat, Divides, divides, stock-response}
use Rattle.energy.proofs.Tables.{either, zeros-at}

-- an entry is the share times 11,100
abbrev IsEntry : ℕ → ℕ → Type 0
IsEntry d entry = entry * (containment_share d).denominator ≡ 11100 * (containment_share d).numerator

-- ---- a table that keeps the rule

module _ (table : List ℕ) (keeps : table_rule table ≡ true) where
  pub long : length table ≡ 501
  unfolding table_rule
  long = eqb-true (length table) 501 (both_true (eqb (length table) 501) (every_from 0 entry_rule table) keeps).0

  entry : (d : ℕ) → d ≤ 500 → IsEntry d (get_or table d 0)
  unfolding table_rule
  entry d h =
      let passes = (both_true (eqb (length table) 501) (every_from 0 entry_rule table) keeps).1 in
      eqb-true (get_or table d 0 * (containment_share d).denominator) (11100 * (containment_share d).numerator)
      (entry-holds entry_rule 0 table passes d (omega (arith, long)))

  -- also past the last entry
  entry-for : (d : ℕ) → IsEntry d (entry_for table d)
  unfolding share_from
  entry-for d =
      either 500 d
      (λ past. let m : min d 500 ≡ 500 = omega arith in rw (m, flat d (omega arith)) (entry 500 (omega arith)))
      (λ near. let m : min d 500 ≡ d = omega arith in rw m (entry d near))

  -- any multiple of the share
  pub same-multiple : (factor d : ℕ) → rounded_up (factor * entry_for table d) 11100 ≡ response_to factor (containment_share d)
  same-multiple factor d =
      up_same factor (entry_for table d) 11100 (containment_share d).numerator (containment_share d).denominator (omega arith) (positive d) (entry-for d)

  pub same_response : (mw d : ℕ) → response_by_table table mw d ≡ response mw containment_curve d
  unfolding response
  same_response mw d = same-multiple (1000 * mw) d

  same-service : (mw : ℕ) (c : Curve) (d : ℕ) → service_by_table table mw c d ≡ response mw c d
  same-service mw c d =
      by-test (λ (n : ℕ). n ≡ response mw c d) (is_containment c) (response_by_table table mw d) (response mw c d)
      (λ t. same_response mw d ∙ stock-response c t mw d) (λ t. refl)

  same-bound : (deviation : ℕ → ℕ) (q : Quantities) (cs : Curves) (rs : List ℕ) → bound_by_table table deviation q cs rs ≡ bound deviation q cs rs
  unfolding bound
  same-bound deviation q cs rs =
      let each : (r : ℕ) → responses_by (service_by_table table) q cs (deviation r) ≡ responses q cs (deviation r) =
      λ r. rw (
        same-service q.dc cs.dc (deviation r),
        same-service q.dm cs.dm (deviation r),
        same-service q.dr cs.dr (deviation r),
      ) in
      ap (λ (s : ℕ). rounded_up s (divisor (length rs)))
      (sum_same (λ (r : ℕ). responses_by (service_by_table table) q cs (deviation r)) (λ (r : ℕ). responses q cs (deviation r)) each rs)

-- paper 02, No. 4
pub table-serves : TableServes
unfolding share_from
table-serves table keeps =
    record {
      entry = entry table keeps;
      entry_200 = let e : get_or table 200 0 * 300 ≡ 11100 * 15000 = entry table keeps 200 (omega arith) in omega arith;
      only = λ other kept.
          ext_get_or 0 other table (long other kept ∙ sym (long table keeps))
          (λ d h.
          let near : d ≤ 500 = omega (arith, long other kept) in
          eq_of_mul-eq-mul_right (containment_share d).denominator (positive d) (get_or other d 0) (get_or table d 0)
          (entry other kept d near ∙ sym (entry table keeps d near)));
      same_response = same_response table keeps;
      same_bounds = λ low high cs rs i.
          record { low = same-bound table keeps low_deviation low cs rs i; high = same-bound table keeps high_deviation high cs rs i };
    }

-- ---- the table by interpolation

-- 11,100 times the share is an entry, since nothing has to be rounded
exact : (d : ℕ) → IsEntry d (response_to 11100 (containment_share d))
exact d = by (divides d)
  where
    by : Divides (containment_share d) → IsEntry d (response_to 11100 (containment_share d))
    by (k, e) =
        let n = (containment_share d).numerator in
        let b = (containment_share d).denominator in
        let over : 11100 * n ≡ k * n * b = omega (arith, ap (λ (m : ℕ). m * n) e) in
        rw (over, up-exact (k * n) b (positive d))

pub interpolated : (table : List ℕ) → length table ≡ 501 → Added 0 501 (λ (d : ℕ). response_to 11100 (containment_share d)) (replicate 501 0) table →
    table_rule table ≡ true
unfolding table_rule
interpolated table l a =
    rw (eq-eqb (length table) 501 l)
    (every-entry entry_rule 0 table
    (λ d h.
    let is : get_or table d 0 ≡ response_to 11100 (containment_share d) = omega (arith, a.inside d (omega arith) (omega arith), zeros-at 501 d) in
    eq-eqb (get_or table d 0 * (containment_share d).denominator) (11100 * (containment_share d).numerator) (rw is (exact d))))
