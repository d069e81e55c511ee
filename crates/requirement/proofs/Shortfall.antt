-- The bridge from the requirement in ℤ to natural numbers: a start is REV less the shortfall, which is what is left and what has
-- yet to come back. Assumes nothing.
use mathlib.Core.Path.{◌≡◌, refl, sym, ap}
use Prim.Native.Nat.{ℕ, zero, suc, ◌+◌, ◌-◌, ◌≤◌}
use native.Mathlib.Omega.{arith}
use borrow.Author.Tests.{le-leb, lt-leb}
use lib.IntN.{pos, ◌+ℤ◌, ◌-ℤ◌}
use Rattle.signed.specs.Sign.{above, below}
use Rattle.signed.proofs.Whole.{sum, less, same}
use Rattle.requirement.specs.Requirement.{left, sched, back, end_of, start, end}

module _ (ER : ℕ) (e : ℕ → ℕ) where
  pub left-next : (i : ℕ) → left ER e (suc (suc i)) ≡ left ER e (suc i) + e (suc i) - sched ER e (suc i)
  unfolding left sched
  left-next i = refl

  -- what is left after a period is what ER did not cover
  pub left_over : (i : ℕ) → left ER e (suc (suc i)) ≡ left ER e (suc i) + e (suc i) - ER
  unfolding left
  left_over i = omega arith

  pub sched-le : (i : ℕ) → sched ER e i ≤ e i + left ER e i
  unfolding sched
  sched-le i = omega arith

  scheduled : (i : ℕ) → left ER e (suc (suc i)) + sched ER e (suc i) ≡ left ER e (suc i) + e (suc i)
  scheduled i = omega (arith, left-next i, sched-le (suc i))

  pub back_none : (i : ℕ) → i ≤ 4 → back ER e i ≡ 0
  unfolding back
  back_none i h = rw (le-leb i 4 h)

  pub back-later : (i : ℕ) → back ER e (suc (suc (suc (suc (suc i))))) ≡ sched ER e (suc i)
  unfolding back
  back-later i = rw (lt-leb (suc (suc (suc (suc (suc i))))) 4 (omega arith)) (ap (sched ER e) (omega arith))

  unfoldable pub shortfall : ℕ → ℕ
  shortfall zero = 0
  shortfall (suc zero) = 0
  shortfall (suc (suc i)) = shortfall (suc i) + e (suc i) - back ER e (suc i)

  -- what is left, and what comes back in this period and the three after it
  owed : (i : ℕ) → shortfall (suc i)
      ≡ left ER e (suc i) + back ER e (suc i) + back ER e (suc (suc i)) + back ER e (suc (suc (suc i))) + back ER e (suc (suc (suc (suc i))))
  unfolding shortfall left
  owed zero = rw (back_none 1 (omega arith), back_none 2 (omega arith), back_none 3 (omega arith), back_none 4 (omega arith))
  owed (suc i) = omega (arith, owed i, left-next i, back-later i, sched-le (suc i))

  -- four periods on: what was left, and the bounds since, of which nothing has come back
  pub four-on : (i : ℕ) → shortfall (suc (suc (suc (suc (suc i)))))
      ≡ left ER e (suc i) + e (suc i) + e (suc (suc i)) + e (suc (suc (suc i))) + e (suc (suc (suc (suc i))))
  four-on i =
      let j = suc i in
      let k = suc j in
      let l = suc k in
      omega (
        arith,
        owed (suc l),
        back-later i,
        back-later j,
        back-later k,
        back-later l,
        scheduled i,
        scheduled j,
        scheduled k,
        scheduled l,
      )

  pub back-le : (i : ℕ) → back ER e i ≤ shortfall i
  back-le zero = omega (arith, back_none 0 (omega arith))
  back-le (suc i) = omega (arith, owed i)

-- the end of a period that starts at REV less s, where no more than s comes back
pub end-less : (REV s b e : ℕ) → b ≤ s → end_of (pos REV -ℤ pos s) b e ≡ pos REV -ℤ pos (s + e - b)
end-less REV s b e h =
    let start = pos REV -ℤ pos s in
    same (start +ℤ pos b -ℤ pos e) (pos REV -ℤ pos (s + e - b))
    (omega (arith, less (pos REV) (pos s), sum start (pos b), less (start +ℤ pos b) (pos e), less (pos REV) (pos (s + e - b))))

module _ (REV ER : ℕ) (e : ℕ → ℕ) where
  pub start-next : (i : ℕ) → start REV ER e (suc (suc i)) ≡ end REV ER e (suc i)
  unfolding start end
  start-next i = refl

  pub start_is : (i : ℕ) → start REV ER e i ≡ pos REV -ℤ pos (shortfall ER e i)
  unfolding start shortfall
  start_is zero = sym (ap pos (omega arith))
  start_is (suc zero) = sym (ap pos (omega arith))
  start_is (suc (suc i)) = rw (start_is (suc i)) (end-less REV (shortfall ER e (suc i)) (back ER e (suc i)) (e (suc i)) (back-le ER e (suc i)))

  -- the same in natural numbers
  pub start-sum : (i : ℕ) → above (start REV ER e i) + shortfall ER e i ≡ REV + below (start REV ER e i)
  start-sum i = let is = start_is i in omega (arith, ap above is, ap below is, less (pos REV) (pos (shortfall ER e i)))
