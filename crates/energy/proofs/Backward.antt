-- The loop of `sum_table`: at each step the sums from the present reading's place on. Assumes nothing.
use mathlib.Core.Path.{◌≡◌, ap, ◌∙◌}
use mathlib.Core.List.{List}
use Prim.Native.Nat.{ℕ, ◌+◌, ◌-◌, ◌^◌, ◌≤◌, ◌<◌}
use native.Mathlib.Omega.{arith}
use lib.ListN.{length, drop, get_or, length-drop}
use lib.Seq.{drop-length}
use Rattle.common.specs.Lists.{sum}
use Rattle.common.proofs.Lists.{drop-next, sum-le}
use Rattle.common.specs.declared.Directions.{Directions}
use Rattle.energy.specs.Period.{low_deviation, high_deviation}
use Rattle.energy.specs.Table.{table_sum, table_sums, sums_from}

-- ---- a direction's sum from a place on

module _ (deviation : ℕ → ℕ) (table rs : List ℕ) where
  -- a turn: the sum from place i on, and what the table has for the reading before it, whose deviation is d
  module _ {i s d : ℕ} (same : s ≡ table_sum deviation table (drop i rs)) (h : 0 < i) (within : i ≤ length rs) (at : d ≡ deviation (get_or rs (i - 1) 0)) where
    -- make the sum from that reading's place on
    one_more : s + get_or table d 0 ≡ table_sum deviation table (drop (i - 1) rs)
    unfolding sum
    one_more =
        let e : i - 1 + 1 ≡ i = omega arith in
        let next = drop-next rs (i - 1) 0 (omega arith) in
        omega (arith, same, ap (λ (k : ℕ). get_or table k 0) at, ap (table_sum deviation table) next, ap (λ (k : ℕ). table_sum deviation table (drop k rs)) e)

    -- and fit a u64, where the entries are u32
    one-more-fits : ((k : ℕ) → get_or table k 0 < 2 ^ 32) → length rs ≤ 2 ^ 32 → s + get_or table d 0 < 2 ^ 64
    one-more-fits small count =
        let most = sum-le (λ r. get_or table (deviation r) 0) 4294967295 (λ r. omega (arith, small (deviation r))) (drop (i - 1) rs) in
        omega (arith, one_more, most, length-drop (i - 1) rs)

-- ---- both directions

module _ (lows highs rs : List ℕ) where
  -- paper 02, No. 3: the running sums are those of the readings from place i to the last, and no others
  pub record Running (i low high : ℕ) : Type 0 where
    pub within : i ≤ length rs
    pub sums : record { low = low; high = high } ≡ sums_from i (table_sums lows highs) rs

  pub begin : Running (length rs) 0 0
  unfolding sum
  begin = record { within = omega arith; sums = rw (drop-length rs) }

  module _ {i low high : ℕ} (r : Running i low high) where
    low_sum : low ≡ table_sum low_deviation lows (drop i rs)
    low_sum = ap (λ (s : Directions ℕ). s.low) r.sums

    high_sum : high ≡ table_sum high_deviation highs (drop i rs)
    high_sum = ap (λ (s : Directions ℕ). s.high) r.sums

    module _ (h : 0 < i) {below above : ℕ} (b : below ≡ low_deviation (get_or rs (i - 1) 0)) (a : above ≡ high_deviation (get_or rs (i - 1) 0)) where
      pub low_fits : ((k : ℕ) → get_or lows k 0 < 2 ^ 32) → length rs ≤ 2 ^ 32 → low + get_or lows below 0 < 2 ^ 64
      low_fits = one-more-fits low_deviation lows rs low_sum h r.within b

      pub high_fits : ((k : ℕ) → get_or highs k 0 < 2 ^ 32) → length rs ≤ 2 ^ 32 → high + get_or highs above 0 < 2 ^ 64
      high_fits = one-more-fits high_deviation highs rs high_sum h r.within a

      pub step : Running (i - 1) (low + get_or lows below 0) (high + get_or highs above 0)
      step =
          record {
            within = omega (arith, r.within);
            sums = rw (one_more low_deviation lows rs low_sum h r.within b, one_more high_deviation highs rs high_sum h r.within a);
          }

    pub done : i ≤ 0 → record { low = low; high = high } ≡ table_sums lows highs rs
    done h = let e : i ≡ 0 = omega arith in r.sums ∙ ap (λ (k : ℕ). sums_from k (table_sums lows highs) rs) e
