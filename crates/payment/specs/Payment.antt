-- Paper 02, No. 8: real-time payment, source document 003, paragraph 17. `adjustment` is the Minimum Adjustment Price; both prices are
-- in pence per MW and hour, K and F in thousandths. Assumes nothing.
use Rattle.std.specs.Prelude.{◌≡◌, Bool, not, cond, ◌&&◌, List, [], ◌∷◌, map, ℕ, suc, ◌*◌, ◌≤◌, max, leb, ltb, ℤ, pos, ◌-ℤ◌, length, ◌≤ℤ◌, Option, Some, None, Result, Ok, Err}
use Rattle.common.specs.Answer.{Answer, given, Cause, cause, checked, answered}
use Rattle.common.specs.Lists.{sum, every}
use Rattle.payment.specs.Exact.{Exact, ratio, minus, times, total, rounded}
use Rattle.payment.specs.declared.Piece.{Piece}
use Rattle.payment.specs.declared.PaymentRefusal.{PaymentRefusal}
use Rattle.payment.specs.declared.PaymentRefusal.TheVariants.{Price, AdjustmentPrice, K, F, Pieces}

-- ---- the pieces

-- kW, at most 1,000,000
abbrev pub quantity_rule : Piece → Bool
quantity_rule p = leb p.quantity 1000000

abbrev pub seconds : List Piece → ℕ
seconds ps = sum (map (λ (p : Piece). p.duration) ps)

-- up to 64 pieces, 1,800 seconds at most together
unfoldable pub pieces_rule : List Piece → Bool
pieces_rule ps = leb (length ps) 64 && every quantity_rule ps && leb (seconds ps) 1800

-- ---- the amount, in pence

-- a price times quantity and time, in MW and hours
abbrev pub worth : ℕ → Piece → Exact
worth price p = times (ratio price 1) (times (ratio p.quantity 1000) (ratio p.duration 3600))

-- the part by which K times F falls short of 1
abbrev pub short : ℕ → ℕ → Exact
short k f = minus (ratio 1 1) (times (ratio k 1000) (ratio f 1000))

-- a piece earns price times quantity and time; from that goes the greater of the two prices times the same, times that part
abbrev pub piece_amount : ℕ → ℕ → ℕ → ℕ → Piece → Exact
piece_amount price adjustment k f p = minus (worth price p) (times (worth (max price adjustment) p) (short k f))

-- the exact sum, which may be below 0, rounded once to whole pence, a half upward
unfoldable pub amount : ℕ → ℕ → ℕ → ℕ → List Piece → ℤ
amount price adjustment k f ps = rounded (total (map (piece_amount price adjustment k f) ps))

-- ---- the answer

-- 20: any figure or count over its limit, in the order price, adjustment price, K, F, pieces
unfoldable pub payment_causes : ℕ → ℕ → ℕ → ℕ → List Piece → List Cause
payment_causes price adjustment k f ps =
    cause 20 (ltb 10000 price)
    ∷ cause 20 (ltb 10000 adjustment)
    ∷ cause 20 (ltb 1000 k)
    ∷ cause 20 (ltb 1000 f)
    ∷ cause 20 (not (pieces_rule ps))
    ∷ []

unfoldable pub paying : ℕ → ℕ → ℕ → ℕ → List Piece → Answer ℤ
paying price adjustment k f ps = checked (payment_causes price adjustment k f ps) (amount price adjustment k f ps)

-- the number of each of the code's refusals
abbrev pub refusal_number : PaymentRefusal → ℕ
refusal_number refusal = 20

abbrev pub answer_of : Result ℤ PaymentRefusal → Answer ℤ
answer_of = answered refusal_number

-- which of the causes it is, counted from 1; 0 for an amount
abbrev pub cause_of : Result ℤ PaymentRefusal → ℕ
cause_of (Ok pence) = 0
cause_of (Err Price) = 1
cause_of (Err AdjustmentPrice) = 2
cause_of (Err K) = 3
cause_of (Err F) = 4
cause_of (Err Pieces) = 5

-- the place of the first cause that holds, counted from n; 0 where none does
unfoldable pub first_from : ℕ → List Cause → ℕ
first_from n [] = 0
first_from n (c ∷ causes) = cond c.holds n (first_from (suc n) causes)

-- ---- the laws

-- price times quantity and time, rounded alike
unfoldable pub gross : ℕ → List Piece → ℤ
gross price ps = rounded (total (map (worth price) ps))

-- `payment-laws` in proofs/Laws.antt proves it for every price, adjustment price, K, F and pieces
pub record PaymentLaws (price adjustment k f : ℕ) (ps : List Piece) : Type 0 where
  -- it is never more than price times quantity and time, rounded alike
  pub never_more : (pence : ℤ) → paying price adjustment k f ps ≡ given pence → pence ≤ℤ gross price ps
  -- an empty list pays 0
  pub empty : price ≤ 10000 → adjustment ≤ 10000 → k ≤ 1000 → f ≤ 1000 → ps ≡ [] → paying price adjustment k f ps ≡ given (pos 0)

-- ---- what the private functions make

-- kW times seconds
abbrev pub work : Piece → ℕ
work p = p.quantity * p.duration

unfoldable pub measured_of : List Piece → Option ℕ
measured_of ps = cond (pieces_rule ps) (Some (sum (map work ps))) None

-- in parts of a penny: a MW has 1,000 kW, an hour 3,600 seconds, and K and F are counted in thousandths
abbrev pub parts_less : ℕ → ℕ → Exact
parts_less gained lost = record { numerator = pos gained -ℤ pos lost; denominator = 3600000000000 }
