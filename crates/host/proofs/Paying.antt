-- The payment of the pieces in bytes, of which the code hands on 65 at most. Assumes nothing.
use mathlib.Core.Path.{◌≡◌}
use Prim.Native.Nat.{ℕ, ◌/◌, ◌%◌, ◌≤◌, min}
use mathlib.Core.List.{List}
use native.Mathlib.Decide.{dec_le}
use native.Mathlib.Omega.{arith}
use borrow.Author.Tests.{eq-eqb}
use lib.ListN.{length}
use Rattle.payment.specs.Payment.{paying}
use Rattle.payment.proofs.Answers.{alike-over}
use Rattle.host.specs.Pairs.{first_pairs}
use Rattle.host.specs.Pieces.{piece, pieces_in, paying_in}
use Rattle.host.proofs.PairBytes.{first-long}

pub paid_in : (price adjustment k f : ℕ) (bytes : List ℕ) → length bytes % 8 ≡ 0
    → paying price adjustment k f (first_pairs piece (min (length bytes / 8) 65) bytes) ≡ paying_in price adjustment k f bytes
unfolding paying_in
paid_in price adjustment k f bytes whole = rw (eq-eqb (length bytes % 8) 0 whole) (by (dec_le (length bytes / 8) 64))
  where
    by : Dec (length bytes / 8 ≤ 64) → paying price adjustment k f (first_pairs piece (min (length bytes / 8) 65) bytes) ≡ paying price adjustment k f (pieces_in bytes)
    by (yes h) = let all : min (length bytes / 8) 65 ≡ length bytes / 8 = omega arith in rw all
    by (no h) =
        alike-over price adjustment k f _ _ (rw (first-long piece bytes (min (length bytes / 8) 65)) (omega arith)) (rw (first-long piece bytes (length bytes / 8)) (omega arith))
