-- Paper 02, No. 8, from C. The pieces of a payment as bytes: quantity and duration of each, four bytes with the lowest first.
-- Assumes nothing.
use Rattle.std.specs.Prelude.{cond, List, ℕ, ◌/◌, ◌%◌, eqb, ℤ, length}
use Rattle.common.specs.Answer.{Answer, refused}
use Rattle.payment.specs.declared.Piece.{Piece}
use Rattle.payment.specs.Payment.{paying}
use Rattle.host.specs.Pairs.{first_pairs}

abbrev pub piece : ℕ → ℕ → Piece
piece quantity duration = record { quantity = quantity; duration = duration }

abbrev pub pieces_in : List ℕ → List Piece
pieces_in bytes = first_pairs piece (length bytes / 8) bytes

-- 13, before 20, where the bytes are not whole pieces
unfoldable pub paying_in : ℕ → ℕ → ℕ → ℕ → List ℕ → Answer ℤ
paying_in price adjustment k f bytes = cond (eqb (length bytes % 8) 0) (paying price adjustment k f (pieces_in bytes)) (refused 13)
