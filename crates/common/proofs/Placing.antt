-- Entries placed in a list, and a list that is filled from its beginning. Assumes nothing.
use mathlib.Core.Path.{◌≡◌, refl, sym, ap, ◌∙◌}
use mathlib.Core.Bool.{Bool, true, false, cond}
use mathlib.Core.List.{List, [], ◌∷◌, ◌++◌, append_assoc}
use Prim.Native.Nat.{ℕ, suc, ◌+◌, ◌-◌, ◌≤◌, ◌<◌}
use native.Mathlib.Decide.{dec_le}
use native.Mathlib.Numerals.{add-one}
use native.Mathlib.Omega.{arith}
use borrow.Author.Tests.{le-leb, lt-leb}
use lib.Dec.{leb}
use lib.ListN.{length, take, drop, set, length-append, length-take, length-drop, length-set}
use lib.Seq.{paste, paste-zero, length-paste, take-paste, drop-paste, take_all, take-length, drop-drop, drop-set-lt, take-suc-set, set_split, append_snoc}
use Rattle.common.specs.Lists.{placed}

-- ---- t, which has w entries, in a list
module _ (at w : ℕ) (t list : List ℕ) (wide : length t ≡ w) where
  -- the list has not all of the places
  pub stays : length list < at + w → placed at t list ≡ list
  unfolding placed
  stays h = rw (wide, lt-leb (at + w) (length list) h)

  -- it has them
  pastes : at + w ≤ length list → placed at t list ≡ paste list at t w
  unfolding placed
  pastes h = rw (wide, le-leb (at + w) (length list) h)

pub placed-none : (at : ℕ) (list : List ℕ) → placed at [] list ≡ list
unfolding placed
placed-none at list = by (leb (at + 0) (length list))
  where
    by : (b : Bool) → cond b (paste list at [] 0) list ≡ list
    by true = sym (paste-zero list at [])
    by false = refl

-- the first entry, then the others
pub placed-next : (at b : ℕ) (t list : List ℕ) → at + suc (length t) ≤ length list → placed at (b ∷ t) list ≡ placed (at + 1) t (set list at b)
placed-next at b t list h =
    let k = length-set list at b in
    let on : at + 1 + length t ≤ length (set list at b) = omega arith in
    let past : at + suc (length t) ≡ at + 1 + length t = omega arith in
    rw (
      pastes at (suc (length t)) (b ∷ t) list refl h,
      pastes (at + 1) (length t) t (set list at b) refl on,
      past,
      drop-set-lt (at + 1 + length t) list at b (omega arith),
      add-one at,
      take-suc-set list at b (omega arith),
    )
    (simp append_assoc)

-- the part of a list that was lent comes back as what f says of its length
pub comes_back : (list last : List ℕ) (at w : ℕ) (f : ℕ → List ℕ) → ((k : ℕ) → length (f k) ≡ k) → at + w ≤ length list
    → last ≡ f (length (take (at + w - at) (drop at list)))
    → take at list ++ (last ++ drop (at + w - at) (drop at list)) ≡ placed at (f w) list
comes_back list last at w f wide h e =
    let d : at + w - at ≡ w = omega arith in
    let k : length (take w (drop at list)) ≡ w = simp (length-take, length-drop) (omega arith) in
    let whole : take w (f w) ≡ f w = take_all w (f w) (omega (arith, wide w)) in
    rw (pastes at w (f w) list (wide w) h, e, d, k, drop-drop w at list, whole)
    (sym (append_assoc (take at list) (f w) (drop (at + w) list)))

-- the list is as long as before
pub placed-length : (at : ℕ) (t list : List ℕ) → length (placed at t list) ≡ length list
placed-length at t list = by (dec_le (at + length t) (length list))
  where
    by : Dec (at + length t ≤ length list) → length (placed at t list) ≡ length list
    by (yes h) = rw (pastes at (length t) t list refl h) (length-paste list at t (length t) h (omega arith))
    by (no h) = rw (stays at (length t) t list refl (omega arith))

-- t placed behind p, which has w entries
pub placed-behind : (at w : ℕ) (p t list : List ℕ) → length p ≡ w → at + w + length t ≤ length list
    → placed (at + w) t (placed at p list) ≡ placed at (p ++ t) list
placed-behind at w p t list wide h =
    let all : length (p ++ t) ≡ w + length t = rw (length-append p t, wide) in
    let end : at + (w + length t) ≡ at + w + length t = omega arith in
    let first = paste list at p w in
    let past : drop (at + w + length t) first ≡ drop (at + w + length t) list =
    sym (drop-drop (length t) (at + w) first) ∙ ap (drop (length t)) (drop-paste list at p w (omega arith) (omega arith)) ∙ drop-drop (length t) (at + w) list in
    rw (
      pastes at w p list wide (omega arith),
      pastes (at + w) (length t) t first refl (omega (arith, length-paste list at p w (omega arith) (omega arith))),
      pastes at (w + length t) (p ++ t) list all (omega arith),
      take-paste list at p w (omega arith) (omega arith),
      past,
      end,
      take_all w p (omega arith),
      take-length t,
      take_all (w + length t) (p ++ t) (omega arith),
    )
    (simp append_assoc)

-- a store of one entry
pub stores : (list : List ℕ) (at b : ℕ) → at < length list → set list at b ≡ placed at (b ∷ []) list
stores list at b h =
    rw (pastes at 1 (b ∷ []) list refl (omega arith), add-one at)
    (set_split list at b h ∙ sym (append_snoc (take at list) b (drop (suc at) list)))

-- ---- the first n entries of a list of k are p
pub record Prefix (k : ℕ) (list : List ℕ) (n : ℕ) (p : List ℕ) : Type 0 where
  pub long : length list ≡ k
  pub starts : take n list ≡ p

pub nothing : (k : ℕ) (list : List ℕ) → length list ≡ k → Prefix k list 0 []
nothing k list h = record { long = h; starts = refl }

module _ {k : ℕ} {list : List ℕ} {n : ℕ} {p : List ℕ} (x : Prefix k list n p) where
  -- others after them
  pub more : {m : List ℕ} (t : List ℕ) (w : ℕ) → length t ≡ w → n + w ≤ k → m ≡ placed n t list → Prefix k m (n + w) (p ++ t)
  more {m} t w wide fits e =
      let is : m ≡ paste list n t w = e ∙ pastes n w t list wide (omega (arith, x.long)) in
      record {
        long = ap length is ∙ length-paste list n t w (omega (arith, x.long)) (omega arith) ∙ x.long;
        starts = rw (is, take-paste list n t w (omega (arith, x.long)) (omega arith), x.starts, take_all w t (omega arith));
      }

  -- one after them
  pub byte : (b : ℕ) → n + 1 ≤ k → Prefix k (set list n b) (n + 1) (p ++ (b ∷ []))
  byte b fits = more (b ∷ []) 1 refl fits (stores list n b (omega (arith, x.long)))

  pub whole : k ≤ n → list ≡ p
  whole h = sym (take_all n list (omega (arith, x.long))) ∙ x.starts
