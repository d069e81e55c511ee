-- The segment of a room, and the loop of `capability_of` that looks for it. Assumes nothing.
use mathlib.Core.Path.{◌≡◌, ◌∙◌}
use mathlib.Core.Bool.{true, ◌&&◌}
use mathlib.Core.List.{List, [], ◌∷◌}
use Prim.Native.Nat.{ℕ, ◌+◌, ◌-◌, ◌≤◌, ◌<◌}
use native.Mathlib.Omega.{arith}
use borrow.Author.Tests.{le-leb, lt-leb, leb-true, ltb-true, eqb-true}
use lib.Dec.{leb, ltb, eqb}
use lib.ListN.{length, take, drop, get_or, drop_of_length-le}
use Rattle.std.proofs.lemmas.List.{take_rest}
use Rattle.common.specs.Lists.{chain}
use Rattle.common.proofs.Chains.{link, onward, first_holds}
use Rattle.common.proofs.Lists.{drop-next}
use Rattle.common.proofs.Tests.{both_true}
use Rattle.capability.specs.Capability.{point_in_range, rises, list_rule, points_rule, Segment, line, capability_from, capability_at}
use Rattle.capability.specs.declared.Point.{Point}

abbrev pub blank : Point
blank = record { room = 0; capability = 0 }

abbrev pub at : List Point → ℕ → Point
at points i = get_or points i blank

-- ---- what the rule says

module _ (points : List Point) (rule : points_rule points ≡ true) where
  parts : (leb 2 (length points) && leb (length points) 5 ≡ true) × (list_rule points ≡ true)
  unfolding points_rule
  parts = both_true (leb 2 (length points) && leb (length points) 5) (list_rule points) rule

  pub two-least : 2 ≤ length points
  two-least = leb-true _ _ (both_true (leb 2 (length points)) (leb (length points) 5) parts.0).0

-- of two points that follow each other
segment : (p q : Point) (ps : List Point) → chain point_in_range rises p (q ∷ ps) ≡ true → Segment p q
segment p q ps e =
    let higher = both_true (ltb p.room q.room) (leb p.capability q.capability) (link point_in_range rises p q ps e) in
    let range = both_true (leb q.room 4000000) (leb q.capability 4000000) (first_holds point_in_range rises q ps (onward point_in_range rises p q ps e)) in
    record {
      farther = ltb-true _ _ higher.0;
      no_less = leb-true _ _ higher.1;
      room_most = leb-true _ _ range.0;
      capability_most = leb-true _ _ range.1;
    }

-- the points from the third on, as the code takes them
abbrev pub third-on : List Point → List Point
third-on points = take (length points - 2) (drop 2 points)

-- ---- the loop: the room is past the point p, and q and the other points from the i-th on decide

module _ (points others : List Point) (room : ℕ) where
  pub record Reached (p q : Point) (i : ℕ) : Type 0 where
    pub segment : Segment p q
    pub rising : chain point_in_range rises q (drop i others) ≡ true
    pub past : p.room ≤ room
    pub same : capability_at points room ≡ capability_from p q (drop i others) room

  module _ {p q : Point} {i : ℕ} (r : Reached p q i) where
    pub last-two : length others ≤ i → capability_at points room ≡ line p q room
    unfolding capability_from
    last-two h = r.same ∙ (rw (drop_of_length-le others h))

    module _ (h : i < length others) where
      pub here : room ≤ q.room → capability_at points room ≡ line p q room
      unfolding capability_from
      here b = r.same ∙ (rw (drop-next others i blank h, le-leb room q.room b))

      pub farther-on : q.room < room → Reached q (at others i) (i + 1)
      unfolding capability_from
      farther-on b =
          let rising : chain point_in_range rises q (at others i ∷ drop (i + 1) others) ≡ true = rw (drop-next others i blank h) at r.rising in
          record {
            segment = segment q (at others i) (drop (i + 1) others) rising;
            rising = onward point_in_range rises q (at others i) (drop (i + 1) others) rising;
            past = omega arith;
            same = r.same ∙ (rw (drop-next others i blank h, lt-leb room q.room b));
          }

pub begin : (points : List Point) (room : ℕ) → points_rule points ≡ true → Reached points (third-on points) room (at points 0) (at points 1) 0
unfolding points_rule
begin [] room rule = let two = two-least [] rule in absurd (omega arith)
begin (p ∷ []) room rule = let two = two-least (p ∷ []) rule in absurd (omega arith)
begin (p ∷ q ∷ ps) room rule =
    let tests = both_true (eqb p.room 0) (chain point_in_range rises p (q ∷ ps)) (parts (p ∷ q ∷ ps) rule).1 in
    record {
      segment = segment p q ps tests.1;
      rising = rw (take_rest (p ∷ q ∷ ps) 2) (onward point_in_range rises p q ps tests.1);
      past = omega (arith, eqb-true p.room 0 tests.0);
      same = rw (take_rest (p ∷ q ∷ ps) 2);
    }
