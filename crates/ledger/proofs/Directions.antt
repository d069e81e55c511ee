-- One direction after the closings carried out: what it needs at the next start, and how one more closing moves the start.
-- Assumes nothing.
use mathlib.Core.Path.{◌≡◌, ap, ◌∙◌}
use mathlib.Core.List.{[], ◌∷◌, map, map-append}
use Prim.Native.Nat.{ℕ, suc, ◌+◌, ◌-◌, ◌≤◌, ◌<◌}
use native.Mathlib.Omega.{arith}
use lib.IntN.{pos, ◌+ℤ◌, ◌-ℤ◌}
use lib.ListN.{length, length-append, length-map, get_or-append}
use lib.Seq.{get_or_at}
use Rattle.common.specs.Periods.{of_period}
use Rattle.signed.specs.Sign.{above, below}
use Rattle.signed.proofs.Whole.{sum, less}
use Rattle.requirement.specs.Requirement.{start}
use Rattle.requirement.proofs.Need.{needed-is, needed-most}
use Rattle.requirement.proofs.Laws.{back-recovery, start-local, back-local}
use Rattle.ledger.specs.Calls.{Closing}
use Rattle.ledger.specs.Promise.{History, Direction, extend, bounds, start_after, back_after, need_after}

module _ (d : Direction) (h : History) where
  -- the need as a natural number
  abbrev pub need : ℕ
  need = above (start_after d h) + back_after d h - below (start_after d h)

  pub need-is : need_after d h ≡ pos need
  unfolding need_after start_after back_after
  need-is = needed-is d.REV d.ER (of_period (bounds d h)) (suc (length h))

  pub need-most : need ≤ d.REV
  unfolding start_after back_after
  need-most = needed-most d.REV d.ER (of_period (bounds d h)) (suc (length h))

  pub back_most : back_after d h ≤ d.ER
  unfolding back_after
  back_most = back-recovery d.ER (of_period (bounds d h)) (suc (length h))

  module _ (c : Closing) where
    f : Closing → ℕ
    f c = d.bound c.readings

    -- the bounds of the periods before stay, and that of the period just closed is its readings'
    pub kept : (k : ℕ) → suc k < suc (length h) → of_period (bounds d (extend h c)) (suc k) ≡ of_period (bounds d h) (suc k)
    unfolding f
    kept k l = rw map-append (get_or-append (map f h) (f c ∷ []) 0 (suc k - 1) (omega (arith, length-map h f)))

    pub new : of_period (bounds d (extend h c)) (suc (length h)) ≡ d.bound c.readings
    unfolding f
    new = rw map-append (get_or_at (map f h) (f c) [] 0 (suc (length h) - 1) (omega (arith, length-map h f)))

    goes_on : start_after d (extend h c) ≡ start_after d h +ℤ pos (back_after d h) -ℤ pos (d.bound c.readings)
    unfolding start_after back_after start
    goes_on =
        ap (start d.REV d.ER e') longer
        ∙ rw (start-local d.ER e' (of_period (bounds d h)) d.REV (suc (length h)) kept, back-local d.ER e' (of_period (bounds d h)) (suc (length h)) kept, new)
      where
        e' : ℕ → ℕ
        e' = of_period (bounds d (extend h c))

        longer : suc (length (extend h c)) ≡ suc (suc (length h))
        longer = omega (arith, length-append h (c ∷ []))

    -- start(n+2) = start(n+1) + back(n+1) − the bound
    pub start-next : above (start_after d (extend h c)) + (below (start_after d h) + d.bound c.readings)
        ≡ above (start_after d h) + back_after d h + below (start_after d (extend h c))
    start-next =
        let s = start_after d h in
        let k = pos (back_after d h) in
        omega (arith, ap above goes_on, ap below goes_on, sum s k, less (s +ℤ k) (pos (d.bound c.readings)))
