-- Paper 01, "Contract terms". Assumes nothing.
use Rattle.std.specs.Prelude.{Bool, not, ◌||◌, [], ◌∷◌, Result, ℕ, ◌+◌, ◌*◌, ltb, ℤ, pos}
use Rattle.std.specs.Int.Signed.{lt_z}
use Rattle.common.specs.Answer.{Answer, cause, checked, answered}
use Rattle.signed.specs.Sign.{within}
use Rattle.terms.specs.declared.Services.{Services}
use Rattle.terms.specs.declared.DirectionTerms.{DirectionTerms}
use Rattle.terms.specs.declared.Terms.{Terms}
use Rattle.terms.specs.declared.TermsRefusal.{TermsRefusal}
use Rattle.terms.specs.declared.TermsRefusal.TheVariants.{Quantity, Power}

-- ---- a direction

abbrev pub Quantities : Type 0
Quantities = Services ℕ

-- a direction's quantity Q is the sum of those of its services
abbrev pub Q : Quantities → ℕ
Q q = q.dc + q.dm + q.dr

abbrev pub no_quantities : Quantities
no_quantities = record { dc = 0; dm = 0; dr = 0 }

-- the sum over the services of their MW times what DC, DM and DR have per MW
abbrev pub per_mw : ℕ → ℕ → ℕ → Quantities → ℕ
per_mw dc dm dr q = dc * q.dc + dm * q.dm + dr * q.dr

-- response energy volume, kWh
abbrev pub REV : Quantities → ℕ
REV = per_mw 250 500 1000

-- recovery volume, kWh
abbrev pub ER : Quantities → ℕ
ER = per_mw 50 100 200

-- reserved power, kW
abbrev pub reserved : Quantities → ℕ
reserved = per_mw 100 200 400

abbrev pub direction_terms : Quantities → DirectionTerms
direction_terms q = record { quantity = Q q; rev = REV q; er = ER q; reserved = reserved q }

-- ---- the terms check

-- a direction above 1,000 MW
abbrev pub above1000 : Quantities → Bool
above1000 q = ltb 1000 (Q q)

-- a direction's Q in kW plus the other direction's reserved power
abbrev pub power : Quantities → Quantities → ℕ
power own other = 1000 * Q own + reserved other

-- a power limit outside 0..2,000,000, or overbid: the power is to be at most the limit
abbrev pub limit_broken : ℤ → ℕ → Bool
limit_broken limit power = not (within (pos 0) limit (pos 2000000)) || lt_z limit (pos power)

-- the low direction counts against the export limit, the high direction against the import limit
unfoldable pub limits_broken : Terms → Bool
limits_broken t =
    limit_broken t.export_limit (power t.low t.high)
    || limit_broken t.import_limit (power t.high t.low)

-- 1, then 2
unfoldable pub terms_check : Terms → Answer Unit
terms_check t =
    checked
    (cause 1 (above1000 t.low || above1000 t.high)
    ∷ cause 2 (limits_broken t)
    ∷ [])
    tt

-- the number of each of the code's refusals
abbrev pub refusal_number : TermsRefusal → ℕ
refusal_number Quantity = 1
refusal_number Power = 2

abbrev pub answer_of : Result Unit TermsRefusal → Answer Unit
answer_of = answered refusal_number
