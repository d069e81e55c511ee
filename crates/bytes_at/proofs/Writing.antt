-- The bytes of a number written at their place. Assumes nothing.
use mathlib.Core.Path.{◌≡◌, refl, sym, ap, ◌∙◌}
use mathlib.Core.List.{List, append_assoc}
use Prim.Native.Nat.{ℕ, zero, suc, ◌+◌, ◌-◌, ◌/◌, ◌%◌, ◌^◌, ◌≤◌}
use native.Mathlib.Nat.{pow-suc, div-div-eq-div-mul}
use native.Mathlib.Omega.{arith}
use borrow.Author.Tests.{le-leb}
use borrow.Rule.Slice.PartMut.{put_mid}
use lib.ListN.{length, take, drop}
use lib.Seq.{drop-drop, take-length}
use Rattle.std.specs.Int.{byte_at, bytes_low_first}
use Rattle.common.specs.Lists.{placed}
use Rattle.bytes_at.specs.Numbers.{bytes_of}

-- the part that was written over is back in the whole
pub put_back : (at : ℕ) (these bytes : List ℕ) → at + length these ≤ length bytes → put_mid at (at + length these - at) bytes these ≡ placed at these bytes
unfolding placed
put_back at these bytes h =
    let wide : at + length these - at ≡ length these = omega arith in
    rw (le-leb (at + length these) (length bytes) h, wide, drop-drop (length these) at bytes, take-length these)
    (sym (append_assoc (take at bytes) these (drop (at + length these) bytes)))

-- ---- the bytes as std makes them

-- as many from the i-th on
low_first : (width i n : ℕ) → bytes_low_first i width n ≡ bytes_of width (n / 256 ^ i)
unfolding bytes_of
low_first zero i n = refl
low_first (suc width) i n =
    let on : n / 256 ^ suc i ≡ n / 256 ^ i / 256 = rw (pow-suc 256 i) (sym (div-div-eq-div-mul n (256 ^ i) 256)) in
    rw (low_first width (suc i) n, on, nth i n)
  where
    nth : (i n : ℕ) → byte_at i n ≡ n / 256 ^ i % 256
    nth zero n = omega arith
    nth (suc i) n = refl

pub to_le_bytes_is : (width n : ℕ) → bytes_low_first 0 width n ≡ bytes_of width n
to_le_bytes_is width n =
    let all : n / 256 ^ 0 ≡ n = omega arith in
    low_first width 0 n ∙ ap (bytes_of width) all
