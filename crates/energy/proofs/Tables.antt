-- Tables: what was added to their entries. Assumes nothing.
use mathlib.Core.Path.{◌≡◌, refl, sym, ap, ◌∙◌}
use mathlib.Core.List.{List, ◌++◌}
use mathlib.Core.Logic.{⊎_elim}
use Prim.Native.Nat.{ℕ, zero, suc, ◌+◌, ◌-◌, ◌≤◌, ◌<◌, min}
use native.Mathlib.Nat.{add-zero}
use native.Mathlib.Omega.{arith}
use lib.ListN.{length, get_or, replicate, take, drop, length-take, get_or-append}
use lib.Seq.{get_or-take, get_or-drop}
use Rattle.std.proofs.lemmas.Bool.{cases_lt}
use Rattle.std.proofs.lemmas.List.{get_or-append_right, get_or_past}
use Rattle.energy.specs.Table.{Added, Room}

pub either : {P : Type 0} (a b : ℕ) → (a < b → P) → (b ≤ a → P) → P
either a b f g = ⊎_elim f g (cases_lt a b)

pub zeros-at : (n d : ℕ) → ◌≡◌ {A = ℕ} (get_or (replicate n 0) d 0) 0
zeros-at zero d = refl
zeros-at (suc n) zero = refl
zeros-at (suc n) (suc d) = zeros-at n d

module _ {from : ℕ} {f : ℕ → ℕ} {before : List ℕ} where
  -- where f is 0, nothing has to be added
  pub none-added : (end : ℕ) → ((d : ℕ) → from ≤ d → d < end → f d ≡ 0) → Added from end f before before
  none-added end none =
      record {
        inside = λ d l h. rw (none d l h) (sym (add-zero (get_or before d 0)));
        below = λ d h. refl;
        above = λ d h. refl;
      }

  module _ {at : ℕ} {after : List ℕ} (a : Added from at f before after) where
    pub same-added : (g : ℕ → ℕ) → ((d : ℕ) → from ≤ d → d < at → f d ≡ g d) → Added from at g before after
    same-added g e =
        record {
          inside = λ d l h. a.inside d l h ∙ (rw (e d l h));
          below = a.below;
          above = a.above;
        }

module _ {f : ℕ → ℕ} {before mid after : List ℕ} where
  -- from the first entry up to one, and then from that one on
  pub then-added : (end at : ℕ) {to : ℕ} → Added 0 (min end at) f before mid → Added at to f mid after → min end at ≤ to → to ≤ end →
      Added 0 to f before after
  then-added end at a b low high =
      record {
        inside = λ d l h.
            either d at (λ lt. b.below d lt ∙ a.inside d l (omega arith))
            (λ ge. rw (b.inside d ge h, a.above d (omega arith)));
        below = λ d h. absurd (omega arith);
        above = λ d h. either d at (λ lt. b.below d lt) (λ ge. b.above d h) ∙ a.above d (omega arith);
      }

-- the room that is left
pub room-left : {end : ℕ} {f : ℕ → ℕ} {before after : List ℕ} → Added 0 end f before after →
    (more less : ℕ) → ((d : ℕ) → f d ≤ less) → Room (less + more) before → Room more after
room-left {end} {f} a more less le room d =
    either d end (λ lt. omega (arith, a.inside d (omega arith) lt, le d, room d)) (λ ge. omega (arith, a.above d ge, room d))

-- ---- the entries from one up to another as a list of their own

module _ (table part : List ℕ) (from to : ℕ) (order : from ≤ to) (there : to ≤ length table) (long : length part ≡ to - from) where
  abbrev rest : List ℕ
  rest = part ++ drop (to - from) (drop from table)

  abbrev whole : List ℕ
  whole = take from table ++ rest

  front : length (take from table) ≡ from
  front = simp length-take (omega arith)

  at-rest : (d : ℕ) → from ≤ d → get_or whole d 0 ≡ get_or rest (d - from) 0
  at-rest d h = get_or-append_right (take from table) rest from d 0 front h

  -- what was added to them was added to the table
  pub part-added : {f : ℕ → ℕ} → Added 0 (to - from) f (take (to - from) (drop from table)) part →
      Added from to (λ (d : ℕ). f (d - from)) table (take from table ++ (part ++ drop (to - from) (drop from table)))
  part-added {f} a =
      record {
        inside = λ d l h.
            let e : from + (d - from) ≡ d = omega arith in
            let same : get_or (take (to - from) (drop from table)) (d - from) 0 ≡ get_or table d 0 =
            get_or-take (to - from) (drop from table) (d - from) 0 (omega arith) ∙ get_or-drop from table (d - from) 0 ∙ ap (λ (k : ℕ). get_or table k 0) e in
            at-rest d l ∙ get_or-append part (drop (to - from) (drop from table)) 0 (d - from) (omega arith) ∙ a.inside (d - from) (omega arith) (omega arith)
            ∙ ap (λ (n : ℕ). n + f (d - from)) same;
        below = λ d h. get_or-append (take from table) rest 0 d (omega (arith, front)) ∙ get_or-take from table d 0 h;
        above = λ d h.
            let e : from + (to - from + (d - from - (to - from))) ≡ d = omega arith in
            at-rest d (omega arith) ∙ get_or-append_right part (drop (to - from) (drop from table)) (to - from) (d - from) 0 long (omega arith)
            ∙ get_or-drop (to - from) (drop from table) (d - from - (to - from)) 0 ∙ get_or-drop from table (to - from + (d - from - (to - from))) 0
            ∙ ap (λ (k : ℕ). get_or table k 0) e;
      }

-- what was added to the first ones was added to the table
pub front-added : (n : ℕ) {f : ℕ → ℕ} {table part : List ℕ} → n ≤ length table → length part ≡ n → Added 0 n f (take n table) part → Added 0 n f table (part ++ drop n table)
front-added n {f} {table} {part} there long a =
    record {
      inside = λ d l h.
          get_or-append part (drop n table) 0 d (omega arith) ∙ a.inside d l h ∙ ap (λ (k : ℕ). k + f d) (get_or-take n table d 0 h);
      below = λ d h. absurd (omega arith);
      above = λ d h.
          let e : n + (d - n) ≡ d = omega arith in
          get_or-append_right part (drop n table) n d 0 long h ∙ get_or-drop n table (d - n) 0 ∙ ap (λ (k : ℕ). get_or table k 0) e;
    }

-- a table that does not go as far as `from`
pub clipped : (f : ℕ → ℕ) (end from to : ℕ) {before after : List ℕ} → Added (min end from) (min end to) (λ (d : ℕ). f (d - min end from)) before after →
    Added from (min end to) (λ (d : ℕ). f (d - from)) before after
clipped f end from to a =
    record {
      inside = λ d l h. let e : min end from ≡ from = omega arith in rw e at (a.inside d (omega arith) h);
      below = λ d h. either d (min end from) (λ lt. a.below d lt) (λ ge. a.above d (omega arith));
      above = a.above;
    }

pub room-front : (n more : ℕ) (table : List ℕ) → Room more table → Room more (take n table)
room-front n more table room d =
    either d n (λ lt. rw (get_or-take n table d 0 lt) (room d))
    (λ ge. let none : get_or (take n table) d 0 ≡ 0 = get_or_past (take n table) d 0 (simp length-take (omega arith)) in omega (arith, room d))
