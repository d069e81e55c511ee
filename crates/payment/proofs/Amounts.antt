-- The amount by the kW and seconds of all pieces: earned and lost per kW and second, times these. Assumes nothing.
use mathlib.Core.Path.{◌≡◌, ap}
use mathlib.Core.List.{List, [], ◌∷◌, map}
use Prim.Native.Nat.{ℕ, ◌+◌, ◌*◌, ◌-◌, ◌≤◌, max}
use native.Mathlib.Nat.{mul-le-mul}
use native.Mathlib.Omega.{arith}
use Rattle.common.specs.Lists.{sum}
use Rattle.payment.specs.Exact.{times, total, rounded}
use Rattle.payment.specs.Payment.{worth, short, piece_amount, amount, work, parts_less}
use Rattle.payment.specs.declared.Piece.{Piece}
use Rattle.payment.proofs.Fractions.{Is, ratio-is, scaled, told, times-is, minus_is, total-is}
use Rattle.payment.proofs.Rounding.{parts_is, rounded-same}

-- the kW and seconds of all pieces
abbrev pub all : List Piece → ℕ
all ps = sum (map work ps)

short-is : (k f : ℕ) → Is (short k f) 1000000 (k * f) 1000000
short-is k f =
    told (minus_is (scaled (ratio-is 1 1 (omega arith)) 1000000) (times-is (ratio-is f 1000 (omega arith)) k 1000 (omega arith)))
    (omega arith)
    (omega arith)

sum-times : (c : ℕ) (ps : List Piece) → sum (map (λ (p : Piece). work p * c) ps) ≡ all ps * c
unfolding sum
sum-times c [] = omega arith
sum-times c (p ∷ ps) = omega (arith, sum-times c ps)

worth-is : (price : ℕ) (p : Piece) → Is (worth price p) (work p * (price * 1000000)) (work p * 0) 3600000000000
worth-is price p = told (scaled (ratio-is (price * work p) 3600000 (omega arith)) 1000000) (omega arith) (omega arith)

pub gross-is : (price : ℕ) (ps : List Piece) → Is (total (map (worth price) ps)) (all ps * (price * 1000000)) (all ps * 0) 3600000000000
gross-is price ps =
    told (total-is (worth price) (λ p. work p * (price * 1000000)) (λ p. work p * 0) 3600000000000 (worth-is price) ps)
    (sum-times (price * 1000000) ps)
    (sum-times 0 ps)

module _ (price adjustment k f : ℕ) where
  abbrev most : ℕ
  most = max price adjustment

  -- what a kW and second earns, and what goes from it
  abbrev plus-part : ℕ
  plus-part = price * 1000000 + most * (k * f)

  abbrev minus-part : ℕ
  minus-part = most * 1000000

  lost-is : (p : Piece) → Is (times (worth most p) (short k f)) (most * work p * 1000000) (most * work p * (k * f)) 3600000000000
  lost-is p = times-is (short-is k f) (most * work p) 3600000 (omega arith)

  piece_is : (p : Piece) → Is (piece_amount price adjustment k f p) (work p * plus-part) (work p * minus-part) 3600000000000
  piece_is p = told (minus_is (worth-is price p) (lost-is p)) (omega arith) (omega arith)

  pub sum_is : (ps : List Piece)
      → Is (total (map (piece_amount price adjustment k f) ps))
      (all ps * (price * 1000000 + max price adjustment * (k * f)))
      (all ps * (max price adjustment * 1000000))
      3600000000000
  sum_is ps =
      told (total-is (piece_amount price adjustment k f) (λ p. work p * plus-part) (λ p. work p * minus-part) 3600000000000 piece_is ps)
      (sum-times plus-part ps)
      (sum-times minus-part ps)

  -- as the code computes it
  pub amount-is : k ≤ 1000 → f ≤ 1000 → (ps : List Piece)
      → rounded (parts_less (price * 1000000 * all ps) (max price adjustment * (1000000 - k * f) * all ps)) ≡ amount price adjustment k f ps
  unfolding amount
  amount-is hk hf ps =
      let kf : k * f ≤ 1000000 = mul-le-mul hk hf in
      let g : 1000000 - k * f + k * f ≡ 1000000 = omega arith in
      rounded-same (parts_is (price * 1000000 * all ps) (most * (1000000 - k * f) * all ps)) (sum_is ps) (omega arith)
      (balanced price most (k * f) (1000000 - k * f) (all ps) g)
    where
      balanced : (price most kf s w : ℕ) → s + kf ≡ 1000000
          → price * 1000000 * w + w * (most * 1000000) ≡ w * (price * 1000000 + most * kf) + most * s * w
      balanced price most kf s w g = omega (arith, ap (λ (t : ℕ). most * w * t) g)
