-- The loop of `measure`: after i pieces, their seconds and their kW and seconds. Assumes nothing.
use mathlib.Core.Path.{◌≡◌, ap, ◌∙◌}
use mathlib.Core.Bool.{true, false}
use mathlib.Core.List.{List, [], map}
use Prim.Native.Nat.{ℕ, ◌+◌, ◌*◌, ◌≤◌, ◌<◌}
use native.Mathlib.Nat.{mul-le-mul_right}
use native.Mathlib.Omega.{arith}
use borrow.Author.Tests.{le-leb, lt-leb}
use lib.Dec.{leb}
use lib.ListN.{length, drop, get_or, drop_of_length-le}
use Rattle.std.specs.Prelude.{Some, None}
use Rattle.common.specs.Lists.{sum, every}
use Rattle.common.proofs.Lists.{drop-next}
use Rattle.payment.specs.Payment.{quantity_rule, seconds, work, pieces_rule, measured_of}
use Rattle.payment.specs.declared.Piece.{Piece}

module _ (ps : List Piece) where
  -- ---- by the rule

  pub over : pieces_rule ps ≡ false → None ≡ measured_of ps
  unfolding measured_of
  over h = rw h

  pub kept : pieces_rule ps ≡ true → {w : ℕ} → w ≡ sum (map work ps) → Some w ≡ measured_of ps
  unfolding measured_of
  kept h e = rw (h, e)

  pub miscounted : 64 < length ps → pieces_rule ps ≡ false
  unfolding pieces_rule
  miscounted h = rw (lt-leb (length ps) 64 h)

  -- ---- the loop

  -- the first i pieces kept their limit, and have s seconds and w kW and seconds; the others decide the rest
  pub record Read (s w i : ℕ) : Type 0 where
    pub good : every quantity_rule ps ≡ every quantity_rule (drop i ps)
    pub in_all : s + seconds (drop i ps) ≡ seconds ps
    pub work-in-all : w + sum (map work (drop i ps)) ≡ sum (map work ps)
    pub few : s ≤ 4294967295 * i
    pub little : w ≤ 1000000 * s

  module _ {s w i : ℕ} (r : Read s w i) (few : length ps ≤ 64) where
    module _ (d : Piece) (h : i < length ps) where
      abbrev here : Piece
      here = get_or ps i d

      pub too_much : 1000000 < (get_or ps i d).quantity → pieces_rule ps ≡ false
      unfolding pieces_rule every
      too_much b =
          let bad : every quantity_rule ps ≡ false = r.good ∙ (rw (drop-next ps i d h, lt-leb here.quantity 1000000 b)) in
          rw (le-leb (length ps) 64 few, bad)

      module _ (b : (get_or ps i d).quantity ≤ 1000000) where
        pub piece-little : work (get_or ps i d) ≤ 1000000 * (get_or ps i d).duration
        piece-little = mul-le-mul_right here.duration b

        pub step : (get_or ps i d).duration ≤ 4294967295 → Read (s + (get_or ps i d).duration) (w + work (get_or ps i d)) (i + 1)
        unfolding every sum
        step fits =
            record {
              good = r.good ∙ (rw (drop-next ps i d h, le-leb here.quantity 1000000 b));
              in_all = omega (arith, r.in_all, ap seconds (drop-next ps i d h));
              work-in-all = omega (arith, r.work-in-all, ap (λ (l : List Piece). sum (map work l)) (drop-next ps i d h));
              few = omega (arith, r.few);
              little = omega (arith, r.little, piece-little);
            }

    module _ (h : length ps ≤ i) where
      end : drop i ps ≡ []
      end = drop_of_length-le ps h

      pub all-work : w ≡ sum (map work ps)
      unfolding sum
      all-work = omega (arith, r.work-in-all, ap (λ (l : List Piece). sum (map work l)) end)

      -- once all have been read, their seconds decide
      decided : pieces_rule ps ≡ leb s 1800
      unfolding pieces_rule every sum
      decided =
          let good : every quantity_rule ps ≡ true = r.good ∙ (rw end) in
          let all : seconds ps ≡ s = omega (arith, r.in_all, ap seconds end) in
          rw (le-leb (length ps) 64 few, good, all)

      pub too_long : 1800 < s → pieces_rule ps ≡ false
      too_long b = decided ∙ lt-leb s 1800 b

      pub holds : s ≤ 1800 → pieces_rule ps ≡ true
      holds b = decided ∙ le-leb s 1800 b
