-- What a function that C calls returns: 0 or more is the answer, −n is refusal n. Assumes nothing.
use Rattle.std.specs.Prelude.{ℕ, ℤ, pos, neg_ℤ}
use Rattle.common.specs.Answer.{Answer, refused, given}
use Rattle.host.specs.declared.Malformed.{Malformed}

-- `value` is the number that stands for what a call gives
abbrev pub coded : {A : Type 0} → (A → ℕ) → Answer A → ℤ
coded value (refused n) = neg_ℤ (pos n)
coded value (given a) = pos (value a)

-- for a call that gives no number
abbrev pub done : {A : Type 0} → A → ℕ
done a = 0

-- bytes that are no machine or no whole pieces, and numbers that are no event
abbrev pub malformed_number : Malformed → ℕ
malformed_number refusal = 13
