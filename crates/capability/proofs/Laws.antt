-- What holds of every room: where the limits keep their rule, it is 0 to 4,000,000. Assumes nothing.
use mathlib.Core.Path.{◌≡◌}
use mathlib.Core.Bool.{true, cond, ◌&&◌, ◌||◌}
use mathlib.Core.List.{[], ◌∷◌}
use Prim.Native.Nat.{ℕ, ◌≤◌}
use native.Mathlib.Omega.{arith}
use lib.Dec.{eqb}
use lib.IntN.{ℤ, pos, neg_ℤ, ◌-ℤ◌}
use lib.Signed.{le_z, ◌≤ℤ◌, ≤ℤ_refl}
use Rattle.common.specs.Lists.{every}
use Rattle.signed.specs.Sign.{above}
use Rattle.signed.proofs.Orders.{le_z-true, within-true}
use Rattle.signed.proofs.Whole.{whole, less, same, ≤-read, one-sided}
use Rattle.common.proofs.Tests.{both_true, by-test}
use Rattle.capability.specs.Capability.{in_range, limits_rule, whole_range, headroom, footroom, room_of}
use Rattle.capability.specs.declared.Limits.{Limits}

-- ---- what the rule says

record Kept (l : Limits) : Type 0 where
  mil-least : neg_ℤ (pos 2000000) ≤ℤ l.mil
  mel-most : l.mel ≤ℤ pos 2000000
  mil-sil : l.mil ≤ℤ l.sil
  sil-zero : l.sil ≤ℤ pos 0
  zero-sel : pos 0 ≤ℤ l.sel
  sel-mel : l.sel ≤ℤ l.mel
  mil-ol : l.mil ≤ℤ l.ol
  ol-mel : l.ol ≤ℤ l.mel

kept : (l : Limits) → limits_rule l ≡ true → Kept l
unfolding limits_rule every
kept l rule =
    let ranges = every in_range (l.mil ∷ l.sil ∷ l.sel ∷ l.mel ∷ l.ol ∷ []) in
    let to-sil = ranges && le_z l.mil l.sil in
    let to-zero = to-sil && le_z l.sil (pos 0) in
    let to-sel = to-zero && le_z (pos 0) l.sel in
    let to-mel = to-sel && le_z l.sel l.mel in
    let levels = both_true to-mel _ rule in
    let mel = both_true to-sel _ levels.0 in
    let sel = both_true to-zero _ mel.0 in
    let zero = both_true to-sil _ sel.0 in
    let sil = both_true ranges _ zero.0 in
    let mil-range = both_true (in_range l.mil) _ sil.0 in
    let sil-range = both_true (in_range l.sil) _ mil-range.1 in
    let sel-range = both_true (in_range l.sel) _ sil-range.1 in
    let mel-range = both_true (in_range l.mel) _ sel-range.1 in
    let ol = within-true l.mil l.ol l.mel levels.1 in
    record {
      mil-least = (within-true _ l.mil _ mil-range.0).0;
      mel-most = (within-true (neg_ℤ (pos 2000000)) l.mel _ mel-range.0).1;
      mil-sil = le_z-true sil.1;
      sil-zero = le_z-true zero.1;
      zero-sel = le_z-true sel.1;
      sel-mel = le_z-true mel.1;
      mil-ol = ol.0;
      ol-mel = ol.1;
    }

-- ---- the rooms

abbrev pub Room : ℤ → Type 0
Room z = (pos 0 ≤ℤ z) × (z ≤ℤ pos 4000000)

zero_room : Room (pos 0)
zero_room = (omega (arith, whole), omega (arith, whole))

exact : {z : ℤ} → Room z → pos (above z) ≡ z
exact {z} r = same (pos (above z)) z (omega (arith, whole, ≤-read r.0, one-sided z))

most : {z : ℤ} → Room z → above z ≤ 4000000
most {z} r = omega (arith, whole, ≤-read r.0, ≤-read r.1, one-sided z)

module _ (l : Limits) (rule : limits_rule l ≡ true) where
  -- from one level up to another, both in MIL..MEL
  gap : {low high : ℤ} → l.mil ≤ℤ low → low ≤ℤ high → high ≤ℤ l.mel → Room (high -ℤ low)
  gap {low} {high} from up to =
      let k = kept l rule in
      (omega (arith, whole, less high low), omega (arith, whole, less high low, ≤-read k.mil-least, ≤-read k.mel-most))

  pub headroom-range : Room (headroom l)
  unfolding headroom
  headroom-range =
      let k = kept l rule in
      by-test Room (whole_range l || le_z l.sel l.ol) _ _ (λ t. gap k.mil-ol k.ol-mel (≤ℤ_refl _))
      (λ u. by-test Room (le_z l.ol l.sil) _ _ (λ t. gap k.mil-ol (le_z-true t) (omega (arith, whole))) (λ t. zero_room))

  pub footroom-range : Room (footroom l)
  unfolding footroom
  footroom-range =
      let k = kept l rule in
      by-test Room (whole_range l || le_z l.ol l.sil) _ _ (λ t. gap (≤ℤ_refl _) k.mil-ol k.ol-mel)
      (λ u. by-test Room (le_z l.sel l.ol) _ _ (λ t. gap {low = l.sel} (omega (arith, whole)) (le_z-true t) k.ol-mel) (λ t. zero_room))

  module _ (direction : ℕ) where
    room-range : Room (cond (eqb direction 1) (headroom l) (footroom l))
    room-range = by-test Room (eqb direction 1) _ _ (λ t. headroom-range) (λ t. footroom-range)

    -- the part above 0 of a room is the whole of it
    pub room-exact : pos (room_of direction l) ≡ cond (eqb direction 1) (headroom l) (footroom l)
    unfolding room_of
    room-exact = exact room-range

    pub room_most : room_of direction l ≤ 4000000
    unfolding room_of
    room_most = most room-range
