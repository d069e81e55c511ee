-- Lines on a page, and what is printed by what the text says. Assumes nothing.
use mathlib.Core.Path.{◌≡◌, refl, sym, ap, ◌∙◌}
use mathlib.Core.Bool.{Bool, true, false, not, cond}
use mathlib.Core.List.{List, [], ◌∷◌, ◌++◌, append-nil}
use Prim.Native.Nat.{ℕ, suc, ◌+◌, ◌*◌, ◌/◌, ◌≤◌, ◌<◌, min}
use native.Mathlib.Nat.{zero-add}
use native.Mathlib.Numerals.{add-one}
use native.Mathlib.Omega.{arith}
use borrow.Author.Tests.{lt-ltb, le-ltb, le-leb}
use borrow.Rule.Slice.PartMut.{put_mid}
use lib.IntN.{pos}
use lib.ListN.{length, get_or, take, replicate, length-append, length-take, length-replicate}
use lib.Seq.{take-suc}
use Rattle.std.specs.List.{flat_map}
use Rattle.std.specs.Prelude.{Some, None}
use Rattle.std.proofs.lemmas.Grind.{flat_map-append}
use Rattle.std.proofs.lemmas.Slice.{put_mid-paste}
use Rattle.common.specs.Answer.{Answer, refused, given, cause, checked}
use Rattle.common.specs.Lists.{placed}
use Rattle.common.proofs.Tests.{by-test}
use Rattle.common.proofs.Placing.{stays, placed-none, placed-length, placed-behind}
use Rattle.columns.specs.Line.{number_line}
use Rattle.columns.specs.Number.{text}
use Rattle.columns.proofs.Columns.{text-length}
use Rattle.test_day.specs.Day.{readings, too_large, fill_causes, filling, filled}
use Rattle.test_day.specs.Page.{is_line, seed_of, page_causes, lines, printed, page_readings, line_of}
use Rattle.test_day.proofs.Seeds.{readings-length, refuses, fills, given-good, refused-large}

-- ---- lines

pub line-length : (n : ℕ) → length (number_line n) ≡ 10
unfolding number_line
line-length n = length-append (text 9 (pos n)) (10 ∷ []) ∙ rw (text-length 9 (pos n))

pub lines-length : (rs : List ℕ) → length (flat_map number_line rs) ≡ 10 * length rs
lines-length [] = refl
lines-length (r ∷ rs) = length-append (number_line r) (flat_map number_line rs) ∙ omega (arith, line-length r, lines-length rs)

lines_snoc : (rs : List ℕ) (r : ℕ) → flat_map number_line (rs ++ (r ∷ [])) ≡ flat_map number_line rs ++ number_line r
lines_snoc rs r = flat_map-append number_line rs (r ∷ []) ∙ ap (λ (l : List ℕ). flat_map number_line rs ++ l) (append-nil (number_line r))

-- the bytes of a part of the page replaced by a line
pub line-placed : (at k n : ℕ) (page line : List ℕ) → at + 10 ≤ length page → k ≡ 10 → line ≡ number_line n → put_mid at k page line ≡ placed at (number_line n) page
unfolding placed
line-placed at k n page line h k-is line-is =
    rw (le-leb (at + length (number_line n)) (length page) (omega (arith, line-length n)))
    (put_mid-paste at k page line (number_line n) (length (number_line n)) line-is (omega (arith, line-length n)) refl)

-- a page that has not all of the places
pub too_short : (t page : List ℕ) → length page < length t → page ≡ placed 0 t page
too_short t page h = sym (stays 0 (length t) t page refl (omega arith))

-- ---- the loop of `put_lines`: after i turns the first i lines are on the page
module _ (rs page : List ℕ) where
  pub no_room : length page / 10 < length rs → page ≡ placed 0 (flat_map number_line rs) page
  no_room h = too_short (flat_map number_line rs) page (omega (arith, lines-length rs))

  pub record Written (now : List ℕ) (i : ℕ) : Type 0 where
    pub room : length rs ≤ length page / 10
    pub within : i ≤ length rs
    pub is : now ≡ placed 0 (flat_map number_line (take i rs)) page

  pub begin : length rs ≤ length page / 10 → Written page 0
  begin h = record { room = h; within = omega arith; is = sym (placed-none 0 page) }

  module _ {now : List ℕ} {i : ℕ} (w : Written now i) where
    pub long : length now ≡ length page
    long = rw w.is (placed-length 0 (flat_map number_line (take i rs)) page)

    pub fits : i < length rs → 10 * i + 10 ≤ length now
    fits h = omega (arith, long, w.room)

    pub step : i < length rs → {last : List ℕ} → last ≡ placed (10 * i) (number_line (get_or rs i 0)) now → Written last (i + 1)
    step h {last} e =
        let first = flat_map number_line (take i rs) in
        let wide : length first ≡ 10 * i = lines-length (take i rs) ∙ omega (arith, length-take i rs) in
        let more : flat_map number_line (take (suc i) rs) ≡ first ++ number_line (get_or rs i 0) = ap (flat_map number_line) (take-suc rs i 0 h) ∙ lines_snoc (take i rs) (get_or rs i 0) in
        let both : placed (0 + 10 * i) (number_line (get_or rs i 0)) (placed 0 first page) ≡ placed 0 (first ++ number_line (get_or rs i 0)) page =
        placed-behind 0 (10 * i) first (number_line (get_or rs i 0)) page wide (omega (arith, w.room, line-length (get_or rs i 0))) in
        record {
          room = w.room;
          within = omega arith;
          is = e ∙ rw (w.is, add-one i, more) (rw (zero-add (10 * i)) at both);
        }

-- ---- what is printed

-- 13 and 21 take ten bytes, and readings 36,000
printed-most : (text : List ℕ) → length (printed text) ≤ 36000
unfolding printed page_readings page_causes
printed-most text =
    by-test (λ (a : Answer (List ℕ)). length (lines a) ≤ 36000) (not (is_line text)) (refused 13) (checked (fill_causes (seed_of text)) (readings 3600 (seed_of text)))
    (λ t. omega (arith, line-length 13))
    (λ f. by-test (λ (a : Answer (List ℕ)). length (lines a) ≤ 36000) (too_large (seed_of text)) (refused 21) (given (readings 3600 (seed_of text)))
    (λ t. omega (arith, line-length 21)) (λ g. omega (arith, lines-length (readings 3600 (seed_of text)), readings-length 3600 (seed_of text))))

pub printed-fits : (text page : List ℕ) {last : List ℕ} {count : ℕ} → count ≡ length (printed text) → last ≡ placed 0 (printed text) page → length page ≡ 36000
    → count ≤ length last
printed-fits text page counted is long = rw (counted, is, placed-length 0 (printed text) page, long) (printed-most text)

-- ---- the readings of the period, by what the text says

module _ (text : List ℕ) where
  pub malformed-13 : line_of text ≡ None → refused 13 ≡ page_readings text
  unfolding page_readings page_causes line_of
  malformed-13 = by (is_line text)
    where
      by : (t : Bool) → cond t (Some (seed_of text)) None ≡ None
          → refused 13 ≡ checked (cause 13 (not t) ∷ fill_causes (seed_of text)) (readings 3600 (seed_of text))
      by true e = let o : ◌≡◌ {A = ℕ} 0 1 = cc in absurd (omega arith)
      by false e = refl

  by-seed : {n : ℕ} → line_of text ≡ Some n → page_readings text ≡ checked (fill_causes n) (readings 3600 n)
  unfolding page_readings page_causes line_of
  by-seed {n} = by (is_line text)
    where
      by : (t : Bool) → cond t (Some (seed_of text)) None ≡ Some n
          → checked (cause 13 (not t) ∷ fill_causes (seed_of text)) (readings 3600 (seed_of text)) ≡ checked (fill_causes n) (readings 3600 n)
      by true e = let same : seed_of text ≡ n = cc in rw same
      by false e = let o : ◌≡◌ {A = ℕ} 0 1 = cc in absurd (omega arith)

  -- `fill` is handed the smaller of the seed and the greatest u32
  module _ {n seed : ℕ} (said : line_of text ≡ Some n) (handed : seed ≡ min n 4294967295) (k : ℕ) where
    pub seed-refused : {number : ℕ} → refused number ≡ filling seed k → refused number ≡ page_readings text
    seed-refused {number} e =
        let large : 2147483647 < seed = refused-large seed k (sym e) in
        let same : ◌≡◌ {A = Answer ℕ} (refused number) (refused 21) = e ∙ refuses seed large k in
        let is-21 : number ≡ 21 = cc in
        rw is-21 (sym (by-seed said ∙ rw (lt-ltb 2147483647 n (omega arith))))

    pub seed-given : {last : ℕ} → given last ≡ filling seed k → {rs : List ℕ} → rs ≡ filled seed (replicate 3600 0) → given rs ≡ page_readings text
    seed-given e {rs} rs-is =
        let good : seed ≤ 2147483647 = given-good seed k (sym e) in
        let same : seed ≡ n = omega arith in
        let made : rs ≡ readings 3600 n = rs-is ∙ fills seed good (replicate 3600 0) ∙ rw (length-replicate {A = ℕ} 3600 0, same) in
        ap given made ∙ sym (by-seed said ∙ rw (le-ltb 2147483647 n (omega arith)))

  pub record Prints (page last : List ℕ) (count : ℕ) : Type 0 where
    pub counted : count ≡ length (printed text)
    pub is : last ≡ placed 0 (printed text) page

  module _ (page : List ℕ) {last : List ℕ} where
    pub prints-number : {n : ℕ} → refused n ≡ page_readings text → last ≡ placed 0 (number_line n) page → Prints page last 10
    unfolding printed
    prints-number {n} e is = record { counted = rw (← e, line-length n); is = rw (← e) is }

    pub prints-readings : {rs : List ℕ} → given rs ≡ page_readings text → length rs ≡ 3600 → last ≡ placed 0 (flat_map number_line rs) page → Prints page last 36000
    unfolding printed
    prints-readings {rs} e long is = record { counted = rw (← e, lines-length rs, long); is = rw (← e) is }
