-- A call's answer from its causes, read as facts. Assumes nothing.
use mathlib.Core.Path.{◌≡◌, refl, sym, ap, ◌∙◌}
use mathlib.Core.Logic.{◌↔◌, ◌≢◌}
use mathlib.Core.Bool.{Bool, true, false, not, cond, ◌&&◌}
use mathlib.Core.List.{List, [], ◌∷◌, ◌++◌}
use Prim.Native.Nat.{ℕ}
use native.Mathlib.Omega.{arith}
use borrow.Author.Tests.{eqb-false, not-true}
use lib.Dec.{eqb}
use Rattle.common.specs.Answer.{refused, given, is_given, Cause, cause, checked, clear, or_blank}
use Rattle.common.specs.Lists.{every}
use Rattle.common.proofs.Tests.{both_true, by-test}

module _ {A : Type 0} where
  -- a value is given exactly where no cause holds
  pub given_is : (causes : List Cause) (a : A) → is_given (checked causes a) ≡ clear causes
  given_is [] a = refl
  given_is (c ∷ causes) a = by c.holds (given_is causes a)
    where
      by : (h : Bool) → is_given (checked causes a) ≡ clear causes → is_given (cond h (refused c.number) (checked causes a)) ≡ not h && clear causes
      by true rest = refl
      by false rest = rest

  pub clear-given : (causes : List Cause) (a : A) → clear causes ≡ true → checked causes a ≡ given a
  clear-given [] a e = refl
  clear-given (c ∷ causes) a e =
      let w = both_true (not c.holds) (clear causes) e in
      rw (not-true c.holds w.0) (clear-given causes a w.1)

  pub given-clear : (causes : List Cause) (a b : A) → checked causes a ≡ given b → clear causes ≡ true
  given-clear causes a b e = sym (given_is causes a) ∙ ap is_given e

  pub given-value : (causes : List Cause) (a b : A) → checked causes a ≡ given b → a ≡ b
  given-value causes a b e = same (sym (clear-given causes a (given-clear causes a b e)) ∙ e)
    where
      same : given a ≡ given b → a ≡ b
      same g = cc

  -- what is handed back beside the answer
  pub or_blank-is : (blank : A) (causes : List Cause) (a : A) → or_blank blank (checked causes a) ≡ cond (clear causes) a blank
  or_blank-is blank [] a = refl
  or_blank-is blank (c ∷ causes) a = by c.holds (or_blank-is blank causes a)
    where
      by : (h : Bool) → or_blank blank (checked causes a) ≡ cond (clear causes) a blank
          → or_blank blank (cond h (refused c.number) (checked causes a)) ≡ cond (not h && clear causes) a blank
      by true rest = refl
      by false rest = rest

  -- a number that no cause has is not given
  other : (k : ℕ) (causes : List Cause) (a : A) → every (λ (c : Cause). not (eqb c.number k)) causes ≡ true → checked causes a ≢ refused k
  unfolding every
  other k [] a e = λ g. let o : ◌≡◌ {A = ℕ} 0 1 = cc in omega arith
  other k (c ∷ causes) a e =
      let w = both_true (not (eqb c.number k)) (every (λ (c : Cause). not (eqb c.number k)) causes) e in
      by c.holds (eqb-false c.number k (not-true (eqb c.number k) w.0)) (other k causes a w.1)
    where
      by : (h : Bool) → c.number ≢ k → checked causes a ≢ refused k → cond h (refused c.number) (checked causes a) ≢ refused k
      by true n rest g = n (cc)
      by false n rest g = rest g

  -- the first cause's number is given exactly where that cause holds
  pub first-given : (k : ℕ) (h : Bool) (causes : List Cause) (a : A) → every (λ (c : Cause). not (eqb c.number k)) causes ≡ true
      → checked (cause k h ∷ causes) a ≡ refused k ↔ h ≡ true
  first-given k true causes a e = (λ g. refl, λ g. refl)
  first-given k false causes a e = (λ g. absurd (other k causes a e g), λ g. let o : ◌≡◌ {A = ℕ} 0 1 = cc in absurd (omega arith))

-- where a value is given, the first cause does not hold and the others let it through
passed : {A : Type 0} (c : Cause) (causes : List Cause) (a : A) {x : A} → checked (c ∷ causes) a ≡ given x → (c.holds ≡ false) × (checked causes a ≡ given x)
passed c causes a {x} = by c.holds
  where
    by : (t : Bool) → cond t (refused c.number) (checked causes a) ≡ given x → (t ≡ false) × (checked causes a ≡ given x)
    by true h = let o : ◌≡◌ {A = ℕ} 0 1 = cc in absurd (omega arith)
    by false h = (refl, h)

-- ---- of causes that are clear each is false

-- whether the first cause of number k holds; false where none has that number
abbrev pub holds_of : ℕ → List Cause → Bool
holds_of k [] = false
holds_of k (c ∷ causes) = cond (eqb c.number k) c.holds (holds_of k causes)

pub clear_of : (k : ℕ) (causes : List Cause) → clear causes ≡ true → holds_of k causes ≡ false
clear_of k [] e = refl
clear_of k (c ∷ causes) e =
    let w = both_true (not c.holds) (clear causes) e in
    by-test (λ (h : Bool). h ≡ false) (eqb c.number k) c.holds (holds_of k causes) (λ t. not-true c.holds w.0) (λ t. clear_of k causes w.1)

-- ---- causes that stand before others: what they refuse is refused, and where they refuse nothing the others decide
module _ {A B : Type 0} (later : List Cause) (a : A) where
  pub refused-first : (causes : List Cause) (b : B) {n : ℕ} → checked causes b ≡ refused n → checked (causes ++ later) a ≡ refused n
  refused-first [] b h = let o : ◌≡◌ {A = ℕ} 0 1 = cc in absurd (omega arith)
  refused-first (c ∷ causes) b {n} h = by c.holds h (refused-first causes b)
    where
      by : (t : Bool) → cond t (refused c.number) (checked causes b) ≡ refused n → (checked causes b ≡ refused n → checked (causes ++ later) a ≡ refused n)
          → cond t (refused c.number) (checked (causes ++ later) a) ≡ refused n
      by true h rest = cc
      by false h rest = rest h

  pub none_first : (causes : List Cause) (b : B) {x : B} → checked causes b ≡ given x → (checked (causes ++ later) a ≡ checked later a) × (b ≡ x)
  none_first [] b h = (refl, cc)
  none_first (c ∷ causes) b h = let p = passed c causes b h in rw p.0 (none_first causes b p.1)
