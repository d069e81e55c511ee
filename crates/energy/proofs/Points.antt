-- The points of a curve: what its rule says of each, and the loop of `fill_by_steps`, which passes them one by one. Assumes nothing.
use mathlib.Core.Path.{◌≡◌, sym, subst, ◌∙◌}
use mathlib.Core.Bool.{true, false, ◌&&◌}
use mathlib.Core.List.{List, ◌∷◌}
use Prim.Native.Nat.{ℕ, ◌+◌, ◌-◌, ◌≤◌, ◌<◌}
use native.Mathlib.Omega.{arith}
use borrow.Author.Tests.{le-leb, lt-leb, lt-ltb, le-ltb, leb-true, ltb-true}
use lib.Dec.{leb, eqb}
use lib.ListN.{length, drop, get_or, take, length-take, length-drop, drop_of_length-le}
use lib.Seq.{take_all}
use Rattle.std.proofs.lemmas.List.{drop_more}
use Rattle.common.specs.Fraction.{whole}
use Rattle.common.specs.Lists.{chain}
use Rattle.common.proofs.Chains.{link, onward, first_holds}
use Rattle.common.proofs.Tests.{both_true}
use Rattle.energy.specs.Curve.{blank, points_of, in_range, rises, points_rule, curve_rule, between, share_from, share_at}
use Rattle.energy.specs.declared.curve.Point.{Point}
use Rattle.energy.specs.declared.curve.Curve.{Curve}

-- ---- what the rule says

pub record InRange (p : Point) : Type 0 where
  pub deviation-le : p.deviation ≤ 3000
  pub share-le : p.share ≤ 1000

pub record Rises (p q : Point) : Type 0 where
  pub farther : p.deviation < q.deviation
  pub no_less : p.share ≤ q.share

in-range : (p : Point) → in_range p ≡ true → InRange p
in-range p e =
    let b = both_true _ _ e in
    record { deviation-le = leb-true _ _ b.0; share-le = leb-true _ _ b.1 }

pub range-of : (p : Point) (ps : List Point) → chain in_range rises p ps ≡ true → InRange p
range-of p ps e = in-range p (first_holds in_range rises p ps e)

module _ (p q : Point) (ps : List Point) (e : chain in_range rises p (q ∷ ps) ≡ true) where
  pub rises_next : Rises p q
  rises_next =
      let b = both_true _ _ (link in_range rises p q ps e) in
      record { farther = ltb-true _ _ b.0; no_less = leb-true _ _ b.1 }

  pub rule-next : chain in_range rises q ps ≡ true
  rule-next = onward in_range rises p q ps e

module _ (c : Curve) where
  pub counted : curve_rule c ≡ true → (2 ≤ c.count) × (c.count ≤ 5)
  unfolding curve_rule
  counted e =
      let b = both_true _ _ (both_true _ _ e).0 in
      (leb-true _ _ b.0, leb-true _ _ b.1)

  pub ruled : curve_rule c ≡ true → points_rule (points_of c) ≡ true
  unfolding curve_rule
  ruled e = (both_true (leb 2 c.count && leb c.count 5) (points_rule (points_of c)) e).1

  -- ---- what `curve_holds` tests

  pub too_few : c.count < 2 → curve_rule c ≡ false
  unfolding curve_rule
  too_few h = rw (lt-leb 2 c.count h)

  pub too_many : 5 < c.count → curve_rule c ≡ false
  unfolding curve_rule
  too_many h = rw (le-leb 2 c.count (omega arith), lt-leb c.count 5 h)

  -- the points that are counted: the first, and the others as the code cuts them off
  module _ {ps : List Point} (are : ps ≡ points_of c) where
    abbrev pub first-of : Point
    first-of = get_or ps 0 blank

    abbrev pub others-of : List Point
    others-of = take (length ps - 1) (drop 1 ps)

    module _ (few : 2 ≤ c.count) (long : length c.points ≡ 5) where
      pub some-point : 1 ≤ length ps
      some-point = rw are (simp length-take (omega arith))

      pub first_and_others : points_of c ≡ first-of ∷ others-of
      first_and_others =
          let e : length (drop 1 ps) ≤ length ps - 1 = omega (arith, length-drop 1 ps) in
          rw (take_all (length ps - 1) (drop 1 ps) e) (sym are ∙ drop_more ps 0 blank some-point)

      pub holds : c.count ≤ 5 → eqb first-of.share 0 && chain in_range rises first-of others-of ≡ curve_rule c
      unfolding curve_rule
      holds many = rw (le-leb 2 c.count few, le-leb c.count 5 many, first_and_others)

    pub ruled-by : curve_rule c ≡ true → length c.points ≡ 5 → points_rule (first-of ∷ others-of) ≡ true
    ruled-by rule long = subst (λ (qs : List Point). points_rule qs ≡ true) (first_and_others (counted rule).0 long) (ruled rule)

-- ---- the loop of `fill_by_steps`: from the point `last` on, the points from the i-th on decide the share

module _ (first : Point) (others : List Point) where
  pub record Reached (last : Point) (i : ℕ) : Type 0 where
    pub rule : chain in_range rises last (drop i others) ≡ true
    pub same : (d : ℕ) → last.deviation ≤ d → share_at (first ∷ others) d ≡ share_from last (drop i others) d

  pub below-first : (d : ℕ) → d < first.deviation → share_at (first ∷ others) d ≡ whole 0
  below-first d h = rw (lt-ltb d first.deviation h)

  pub reach-first : points_rule (first ∷ others) ≡ true → Reached first 0
  reach-first rule =
      record {
        rule = (both_true (eqb first.share 0) (chain in_range rises first others) rule).1;
        same = λ d h. rw (le-ltb d first.deviation h);
      }

  module _ {last : Point} {i : ℕ} (r : Reached last i) where
    pub last-range : InRange last
    last-range = range-of last (drop i others) r.rule

    pub flat : length others ≤ i → (d : ℕ) → last.deviation ≤ d → share_at (first ∷ others) d ≡ whole last.share
    unfolding share_from
    flat h d l = r.same d l ∙ (rw (drop_of_length-le others h))

    module _ (h : i < length others) where
      abbrev pub at : Point
      at = get_or others i blank

      following : drop i others ≡ at ∷ drop (i + 1) others
      following = drop_more others i blank h

      rule-there : chain in_range rises last (at ∷ drop (i + 1) others) ≡ true
      rule-there = subst (λ (ps : List Point). chain in_range rises last ps ≡ true) following r.rule

      pub next-rises : Rises last at
      next-rises = rises_next last at (drop (i + 1) others) rule-there

      pub next-range : InRange at
      next-range = range-of at (drop (i + 1) others) (rule-next last at (drop (i + 1) others) rule-there)

      pub here : (d : ℕ) → last.deviation ≤ d → d < at.deviation → share_at (first ∷ others) d ≡ between last at d
      unfolding share_from
      here d l b = r.same d l ∙ (rw (following, lt-ltb d at.deviation b))

      pub reach-next : Reached at (i + 1)
      unfolding share_from
      reach-next =
          let f = next-rises.farther in
          record {
            rule = rule-next last at (drop (i + 1) others) rule-there;
            same = λ d b. r.same d (omega arith) ∙ (rw (following, le-ltb d at.deviation b));
          }
