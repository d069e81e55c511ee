-- The loop of `fill_by_table`: below the entry d, the responses by a table were added; and what is added past the last entry.
-- Assumes nothing.
use mathlib.Core.Path.{◌≡◌, ◌∙◌}
use mathlib.Core.List.{List}
use Prim.Native.Nat.{ℕ, ◌+◌, ◌-◌, ◌*◌, ◌^◌, ◌≤◌, ◌<◌, min}
use native.Mathlib.Omega.{arith}
use lib.ListN.{length, get_or}
use Rattle.common.specs.Fraction.{rounded_up}
use Rattle.energy.specs.Containment.{response_by_table}
use Rattle.energy.specs.Table.{Added, wholes, FillFits, TableFits}
use Rattle.energy.proofs.FixedPoint.{start-value}
use Rattle.energy.proofs.Segments.{first-parts}
use Rattle.energy.proofs.Tables.{same-added, then-added}

module _ (mw : ℕ) (entries : List ℕ) where
  -- what is added to an entry
  abbrev pub added : ℕ → ℕ
  added = response_by_table entries mw

  -- what the code finds by the entry at a place
  abbrev pub found : ℕ → ℕ
  found place = rounded_up (1000 * mw * get_or entries place 0) 11100

  pub found-is : (d : ℕ) → d ≤ 500 → found d ≡ added d
  found-is d h = let m : min d 500 ≡ d = omega arith in rw m

  -- entry 500 serves for larger deviations
  last-serves : (d : ℕ) → 500 ≤ d → found 500 ≡ added d
  last-serves d h = let m : min d 500 ≡ 500 = omega arith in rw m

  -- ---- the loop, over the entries of the table that the other table has too

  module _ (before : List ℕ) where
    pub record Adding (near : List ℕ) (d : ℕ) : Type 0 where
      pub long : length near ≡ length before
      pub so_far : Added 0 d added before near

    module _ {near : List ℕ} {d : ℕ} (a : Adding near d) (h : d < length before) (has : d ≤ 500) where
      pub sum_fits : get_or before d 0 + added d < 2 ^ 32 → get_or near d 0 + found d < 2 ^ 32
      sum_fits room = omega (arith, found-is d has, a.so_far.above d (omega arith), room)

  -- ---- past the last entry

  abbrev pub flat-parts : ℕ
  flat-parts = first-parts (found 500)

  module _ {before mid : List ℕ} {n : ℕ} (is : n ≡ min (length before) 501) (a : Added 0 n added before mid) (long : length mid ≡ length before) where
    flat-at : (d : ℕ) → 501 ≤ d → wholes flat-parts 0 (d - 501) ≡ added d
    flat-at d h = start-value (2 ^ 32) (found 500) (d - 501) (omega arith) ∙ last-serves d (omega arith)

    pub fill-fits : TableFits mw entries before → FillFits flat-parts 0 501 (length before) mid
    fill-fits s =
        record {
          order = omega arith;
          parts_fit = omega (arith, s.room 500, found-is 500 (omega arith));
          room = λ d l m. omega (arith, flat-at d l, a.above d (omega arith), s.room d);
        }

    pub filled : {after : List ℕ} → Added 501 (min (length mid) (length before)) (λ (d : ℕ). wholes flat-parts 0 (d - 501)) mid after → Added 0 (length before) added before after
    filled b =
        let all : min (length mid) (length before) ≡ length before = omega arith in
        then-added (length before) 501 (rw is at a) (same-added (rw all at b) _ (λ d l m. flat-at d l)) (omega arith) (omega arith)
