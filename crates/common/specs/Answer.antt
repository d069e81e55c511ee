-- Paper 01, "When a call declines": what a call answers, from its causes in the order in which it checks them. Assumes nothing.
use Rattle.std.specs.Prelude.{Bool, true, false, not, cond, ◌&&◌, List, [], ◌∷◌, ℕ, Result, Ok, Err}

-- the number of a refusal; or no number, and what the call gives
pub data Answer (A : Type 0) : Type 0 where
  refused : ℕ → Answer A
  given : A → Answer A

abbrev pub is_given : {A : Type 0} → Answer A → Bool
is_given (refused number) = false
is_given (given a) = true

-- a refusal's number, 0 where a value is given
abbrev pub number_of : {A : Type 0} → Answer A → ℕ
number_of (refused number) = number
number_of (given a) = 0

-- a refusal's number, and whether its cause holds
pub record Cause : Type 0 where
  pub number : ℕ
  pub holds : Bool

abbrev pub cause : ℕ → Bool → Cause
cause number holds = record { number = number; holds = holds }

-- a number comes back just when its cause holds and no cause earlier in that call's order does
abbrev pub checked : {A : Type 0} → List Cause → A → Answer A
checked [] a = given a
checked (c ∷ causes) a = cond c.holds (refused c.number) (checked causes a)

-- none of the causes holds
abbrev pub clear : List Cause → Bool
clear [] = true
clear (c ∷ causes) = not c.holds && clear causes

-- for a call that hands a value back in any case: what it gives, or `blank` beside a refusal
abbrev pub or_blank : {A : Type 0} → A → Answer A → A
or_blank blank (refused number) = blank
or_blank blank (given a) = a

-- the answer that a function of the code gives: what is given, or an error with its number
abbrev pub answered : {A E : Type 0} → (E → ℕ) → Result A E → Answer A
answered number (Ok a) = given a
answered number (Err e) = refused (number e)

-- the same of a function that gives nothing and changes what it is lent: what that is afterwards
abbrev pub answered_with : {A E : Type 0} → (E → ℕ) → Result Unit E → A → Answer A
answered_with number (Ok done) a = given a
answered_with number (Err e) a = refused (number e)
