-- The digits of a seed's line: the tests before the loop of `read_line`, and what the digits passed are read as. Assumes nothing.
use mathlib.Core.Path.{◌≡◌, refl, sym, ap, ◌∙◌}
use mathlib.Core.Bool.{Bool, true, false, not, ◌&&◌, ◌||◌, and-true, and-false}
use mathlib.Core.List.{List, [], ◌∷◌}
use Prim.Native.Nat.{ℕ, zero, suc, ◌+◌, ◌*◌, ◌-◌, ◌^◌, ◌≤◌, ◌<◌}
use native.Mathlib.Nat.{pow-succ'}
use native.Mathlib.Numerals.{add-one}
use native.Mathlib.Omega.{arith}
use native.Mathlib.Decide.{ℕ_discrete}
use borrow.Author.Tests.{eq-eqb, ne_eqb, eqb-false, lt-ltb, le-ltb, leb-true, not-true, not-false}
use lib.Dec.{leb, ltb, eqb, lit<}
use lib.ListN.{length, drop, get_or, length-take, drop_of_length-le}
use lib.Seq.{get_or-take}
use Rattle.common.specs.Lists.{every}
use Rattle.common.proofs.Lists.{drop-next}
use Rattle.common.proofs.Tests.{not-leb, not-both, both_true}
use Rattle.columns.specs.declared.Field.{Field}
use Rattle.columns.specs.declared.Field.TheVariants.{Blank, Number}
use Rattle.columns.specs.Number.{digit, number, after}
use Rattle.columns.specs.Number as Columns
use Rattle.columns.proofs.Reading.{digit-le}
use Rattle.test_day.specs.Page.{digits_of, is_line, line_of}
use Rattle.std.specs.Prelude.{Some, None}

-- below a or above b
outside : (a b n : ℕ) → ltb n a || ltb b n ≡ not (leb a n && leb n b)
outside a b n = sym (not-both (leb a n) (leb n b) ∙ rw (not-leb a n, not-leb n b))

-- a zero in front, as the code looks for it
one-digit : (n : ℕ) → 2 ≤ n → (z : Bool) → eqb n 2 || not z ≡ not (ltb 1 (n - 1) && z)
one-digit n h z = by (ℕ_discrete n 2)
  where
    by : Dec (n ≡ 2) → eqb n 2 || not z ≡ not (ltb 1 (n - 1) && z)
    by (yes e) = rw (eq-eqb n 2 e, le-ltb 1 (n - 1) (omega arith))
    by (no e) = rw (ne_eqb n 2 e, lt-ltb 1 (n - 1) (omega arith))

-- what the first i digits are read as, where they make n
abbrev read_as : ℕ → ℕ → Field
read_as zero n = Blank
read_as (suc i) n = Number n

module _ (text : List ℕ) where
  abbrev end : ℕ
  end = length text - 1

  -- ---- the tests before the loop

  pub malformed : is_line text ≡ false → None ≡ line_of text
  unfolding line_of
  malformed h = rw h

  pub other_length : ltb (length text) 2 || ltb 11 (length text) ≡ true → is_line text ≡ false
  unfolding is_line
  other_length h =
      let e : leb 2 (length text) && leb (length text) 11 ≡ false = not-true _ (sym (outside 2 11 (length text)) ∙ h) in
      rw e

  module _ (lengths : ltb (length text) 2 || ltb 11 (length text) ≡ false) where
    within : leb 2 (length text) && leb (length text) 11 ≡ true
    within = not-false _ (sym (outside 2 11 (length text)) ∙ lengths)

    pub two : 2 ≤ length text
    two = leb-true 2 (length text) (both_true (leb 2 (length text)) (leb (length text) 11) within).0

    eleven : length text ≤ 11
    eleven = leb-true (length text) 11 (both_true (leb 2 (length text)) (leb (length text) 11) within).1

    pub no-line-feed : (get_or text end 0 ≡ 10 → ⊥) → is_line text ≡ false
    unfolding is_line
    no-line-feed h = rw (within, ne_eqb (get_or text end 0) 10 h) (and-false (every digit (digits_of text) && (eqb (length text) 2 || not (eqb (get_or text 0 0) 48))))

    module _ (ended : get_or text end 0 ≡ 10) where
      by_digits : is_line text ≡ every digit (digits_of text) && not (ltb 1 end && eqb (get_or text 0 0) 48)
      unfolding is_line
      by_digits = rw (within, eq-eqb (get_or text end 0) 10 ended, one-digit (length text) two (eqb (get_or text 0 0) 48)) (and-true _)

      pub zero-in-front : ltb 1 end && eqb (get_or text 0 0) 48 ≡ true → is_line text ≡ false
      zero-in-front h = by_digits ∙ rw h (and-false (every digit (digits_of text)))

  -- ---- the loop: the first i digits make n

  pub record Read (n i : ℕ) : Type 0 where
    pub eleven : length text ≤ 11
    pub two : 2 ≤ length text
    -- no zero in front of others
    pub front : 1 < end → get_or text 0 0 ≡ 48 → ⊥
    pub decides : is_line text ≡ every digit (drop i (digits_of text))
    pub same : number (digits_of text) ≡ after (read_as i n) (drop i (digits_of text))
    pub small : n < 10 ^ i
    -- so the number is not 0 where a digit follows
    pub some : 0 < i → i < end → 0 < n

  pub begin : ltb (length text) 2 || ltb 11 (length text) ≡ false → get_or text end 0 ≡ 10 → ltb 1 end && eqb (get_or text 0 0) 48 ≡ false → Read 0 0
  begin lengths ended h =
      record {
        eleven = eleven lengths;
        two = two lengths;
        front = λ more. eqb-false (get_or text 0 0) 48 (rw (lt-ltb 1 end more) at h);
        decides = by_digits lengths ended ∙ rw h (and-true (every digit (digits_of text)));
        same = refl;
        small = lit< tt;
        some = λ z l. absurd (omega arith);
      }

  module _ {n i : ℕ} (r : Read n i) (h : i < length (digits_of text)) where
    abbrev here : ℕ
    here = get_or (digits_of text) i 0

    before : i < end
    before = omega (arith, length-take end text)

    split : drop i (digits_of text) ≡ here ∷ drop (i + 1) (digits_of text)
    split = drop-next (digits_of text) i 0 h

    pub stops : digit here ≡ false → is_line text ≡ false
    unfolding every
    stops bad = r.decides ∙ rw (split, bad)

    module _ (good : digit here ≡ true) where
      pub range : (48 ≤ here) × (here ≤ 57)
      range = digit-le here good

      -- the digit makes ten times the number and its own
      goes_on : (j : ℕ) → i ≡ j → Columns.next (read_as j n) here ≡ Number (10 * n + (here - 48))
      unfolding Columns.next
      goes_on zero e =
          let none : n < 10 ^ 0 = rw e at r.small in
          let first : here - 48 ≡ 10 * n + (here - 48) = omega arith in
          rw (ne_eqb here 32 (λ blank. omega (arith, range)), good) (ap Number first)
      goes_on (suc j) e = rw (good, lt-ltb 0 n (r.some (omega arith) before))

      -- to a number that is not 0 where one more follows
      grows : (j : ℕ) → i ≡ j → i + 1 < end → 0 < 10 * n + (here - 48)
      grows zero e l = let first : here ≡ 48 → ⊥ = rw (get_or-take end text i 0 before, e) (r.front (omega arith)) in omega (arith, range)
      grows (suc j) e l = omega (arith, r.some (omega arith) before)

      pub step : Read (10 * n + (here - 48)) (i + 1)
      unfolding every
      step =
          record {
            eleven = r.eleven;
            two = r.two;
            front = r.front;
            decides = r.decides ∙ rw (split, good);
            same = r.same ∙ ap (after (read_as i n)) split ∙ ap (λ (f : Field). after f (drop (i + 1) (digits_of text))) (goes_on i refl ∙ rw (add-one i));
            small = rw (add-one i, pow-succ' 10 i) (omega (arith, r.small, range));
            some = λ z l. grows i refl l;
          }

  pub done : {n i : ℕ} → Read n i → length (digits_of text) ≤ i → Some n ≡ line_of text
  unfolding line_of every
  done {n} {i} r h =
      let none : drop i (digits_of text) ≡ [] = drop_of_length-le (digits_of text) h in
      let all : is_line text ≡ true = r.decides ∙ rw none in
      let is : number (digits_of text) ≡ read_as i n = r.same ∙ rw none in
      let last : suc (i - 1) ≡ i = omega (arith, r.two, length-take end text) in
      let made : number (digits_of text) ≡ Number n = rw (← last) at is in
      rw (all, made)
