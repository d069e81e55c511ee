-- The rows of the monitor, made by a call for each period. Assumes nothing.
use Rattle.std.proofs.Common.{ℕ, ◌≡◌, ◌+◌, ◌-◌, ◌<◌, ◌≤◌, List, map, zero, suc, refl, subst, arith, ◌∙◌, get_or, add-one}
use native.Mathlib.Decide.{ℕ_discrete}
use denote.Param.Members.{Mut, Called}
use Rattle.std.specs.List.{range_with_len}
use Rattle.std.specs.Array.{IsFromFnResultFrom, IsFromFnResult}
use Rattle.std.proofs.lemmas.List.FromFn.{fill_by_all}
use Rattle.common.specs.Periods.{periods_to, of_period}
use Rattle.common.proofs.Periods.{period-at}
use Rattle.requirement.specs.declared.Row.{Row as Requirement}
use Rattle.requirement.specs.declared.Table.{Table}
use Rattle.requirement.specs.Requirement.{row_of, table_of}
use Rattle.monitor.specs.Monitor.{judged, judged_row, rows_of}

-- an array of n, made by a call at each place of a closure that gives `h` of the place and stays as it is
module _ {F B : Type 0} (g : Mut F (ℕ × Unit {0}) B) (n : ℕ) (h : ℕ → B) (f : F) (gives : (i : ℕ) (y : B) (q : F) → i < n → Called g f (i, tt) y q → (q ≡ f) × (y ≡ h i)) where
  each_is : (ys : List B) (p : F) (i m : ℕ) → i + m ≡ n → p ≡ f → IsFromFnResultFrom g p ys i m → (k : ℕ) (d : B) → i ≤ k → k < n → get_or ys k d ≡ h k
  each_is ys p i zero all e r k d from below = absurd (omega arith)
  each_is ys p i (suc m) all e (q, y, at, call, rest) k d from below = by (ℕ_discrete k i) (λ same over. each_is ys q (i + 1) m (omega arith) same rest k d over below)
    where
      here : (q ≡ f) × (y ≡ h i)
      here = gives i y q (omega arith) (subst (λ p. Called g p (i, tt) y q) e call)

      by : Dec (k ≡ i) → (q ≡ f → i + 1 ≤ k → get_or ys k d ≡ h k) → get_or ys k d ≡ h k
      by (yes is) later = rw is (at.1 d ∙ here.1)
      by (no other) later = later here.0 (omega arith)

  pub made_is : (ys : List B) (d : B) → IsFromFnResult g f ys n → ys ≡ map h (range_with_len 0 n)
  made_is ys d r = fill_by_all h ys n d r.long (λ k l. each_is ys f 0 n (omega arith) refl r.each k d (omega arith) l)

module _ (REV ER : ℕ) (bounds reported : List ℕ) where
  -- the row that a call judges is that of period i + 1
  pub judged_is : {t : Table} → t ≡ table_of REV ER bounds → (i : ℕ) (d : Requirement) → i < 8
      → judged (i + 1) (get_or bounds i 0) (get_or t.rows i d) (get_or reported i 0) ≡ judged_row REV ER bounds reported (suc i)
  unfolding table_of
  judged_is is i d h =
      let p : suc i - 1 ≡ i = omega arith in
      rw (is, period-at (row_of REV ER (of_period bounds)) 8 i d h, add-one i, p)

  pub rows_are : map (λ (i : ℕ). judged_row REV ER bounds reported (suc i)) (range_with_len 0 8) ≡ rows_of REV ER bounds reported
  unfolding rows_of periods_to
  rows_are = refl
