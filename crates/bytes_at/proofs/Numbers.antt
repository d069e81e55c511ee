-- The laws of numbers in bytes: reading what was written gives the number back, writing what was read the bytes. Assumes nothing.
use mathlib.Core.Path.{◌≡◌, refl, ap}
use mathlib.Core.List.{List, [], ◌∷◌, ◌++◌}
use Prim.Native.Nat.{ℕ, zero, suc, ◌+◌, ◌*◌, ◌/◌, ◌%◌, ◌^◌, ◌≤◌, ◌<◌}
use native.Mathlib.Nat.{pow-suc}
use native.Mathlib.Decide.{dec_lt}
use native.Mathlib.Omega.{arith}
use lib.ListN.{length, get_or, take, drop, replicate, drop_of_length-le, get_or-eq_default}
use lib.Seq.{take_all, take-nil, take_at, drop_at}
use Rattle.std.specs.Int.{w32, w64, from_le_bytes}
use Rattle.common.proofs.Lists.{drop-next}
use Rattle.bytes_at.specs.Numbers.{number, bytes_of, number_at}

-- ---- by the bytes

-- the first byte and the others
first_byte : (width at : ℕ) (bytes : List ℕ) → number_at (suc width) at bytes ≡ get_or bytes at 0 + 256 * number_at width (at + 1) bytes
unfolding number
first_byte width at bytes = by (dec_lt at (length bytes))
  where
    by : Dec (at < length bytes) → number_at (suc width) at bytes ≡ get_or bytes at 0 + 256 * number_at width (at + 1) bytes
    by (yes h) = rw (drop-next bytes at 0 h)
    by (no h) =
        let past : length bytes ≤ at = omega arith in
        let on : length bytes ≤ at + 1 = omega arith in
        rw (drop_of_length-le bytes past, drop_of_length-le bytes on, take-nil {A = ℕ} width, get_or-eq_default bytes 0 past)

-- zeros behind bytes leave their number
zeros : (n : ℕ) → number (replicate n 0) ≡ 0
unfolding number
zeros zero = refl
zeros (suc n) = rw (zeros n)

pub zeros_behind : (bytes : List ℕ) (n : ℕ) → number (bytes ++ replicate n 0) ≡ number bytes
unfolding number
zeros_behind [] n = zeros n
zeros_behind (b ∷ bytes) n = rw (zeros_behind bytes n)

-- ---- as std reads and writes them

no_bytes : (at : ℕ) (bytes : List ℕ) → number_at 0 at bytes ≡ 0
unfolding number
no_bytes at bytes = refl

pub from_le_4 : (bytes : List ℕ) → length bytes ≡ 4 → from_le_bytes w32 bytes ≡ number bytes
from_le_4 bytes l =
    let all : number bytes ≡ number_at 4 0 bytes = rw (take_all 4 bytes (omega (arith, l))) in
    omega (arith, all, no_bytes 4 bytes, first_byte 3 0 bytes, first_byte 2 1 bytes, first_byte 1 2 bytes, first_byte 0 3 bytes)

pub from_le_8 : (bytes : List ℕ) → length bytes ≡ 8 → from_le_bytes w64 bytes ≡ number bytes
from_le_8 bytes l =
    let all : number bytes ≡ number_at 8 0 bytes = rw (take_all 8 bytes (omega (arith, l))) in
    omega (arith, all, no_bytes 8 bytes, first_byte 7 0 bytes, first_byte 6 1 bytes, first_byte 5 2 bytes, first_byte 4 3 bytes, first_byte 3 4 bytes, first_byte 2 5 bytes, first_byte 1 6 bytes, first_byte 0 7 bytes)

-- ---- reading what was written

pub length-bytes : (width n : ℕ) → length (bytes_of width n) ≡ width
unfolding bytes_of
length-bytes zero n = refl
length-bytes (suc width) n = ap suc (length-bytes width (n / 256))

number-back : (width n : ℕ) → n < 256 ^ width → number (bytes_of width n) ≡ n
unfolding number bytes_of
number-back zero n h = omega arith
number-back (suc width) n h =
    let most : n / 256 < 256 ^ width = omega (arith, pow-suc 256 width) in
    rw (number-back width (n / 256) most) (omega arith)

pub read_back : (width n : ℕ) (p q : List ℕ) (at : ℕ) → length p ≡ at → n < 256 ^ width → number_at width at (p ++ (bytes_of width n ++ q)) ≡ n
read_back width n p q at e h =
    rw (drop_at p (bytes_of width n ++ q) at e, take_at (bytes_of width n) q width (length-bytes width n)) (number-back width n h)

-- ---- writing what was read

pub write-back : (width at : ℕ) (bytes : List ℕ) → ((i : ℕ) → get_or bytes i 0 < 256) → at + width ≤ length bytes
    → bytes_of width (number_at width at bytes) ≡ take width (drop at bytes)
unfolding bytes_of
write-back zero at bytes each h = refl
write-back (suc width) at bytes each h =
    let b = get_or bytes at 0 in
    let rest = number_at width (at + 1) bytes in
    let low : (b + 256 * rest) % 256 ≡ b = omega (arith, each at) in
    let high : (b + 256 * rest) / 256 ≡ rest = omega (arith, each at) in
    rw (first_byte width at bytes, low, high, drop-next bytes at 0 (omega arith))
    (ap (λ (l : List ℕ). b ∷ l) (write-back width (at + 1) bytes each (omega arith)))
