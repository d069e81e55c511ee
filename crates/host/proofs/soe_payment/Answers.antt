-- `host::soe_payment` meets its contract. Assumes nothing.
use mathlib.Core.Path.{◌≡◌, ◌∙◌}
use borrow.Author.Rules.{rules, sfits_of}
use mir.Syntax.{w64}
use mir.Facts.{to_z-of_z}
use Rattle.payment.specs.Payment.{answer_of}
use Rattle.host.specs.Pieces.{paying_in}
use Rattle.host.proofs.Paying.{paid_in}
use Rattle.host.proofs.soe_payment.Goals as goal
use Rattle.host.proofs.soe_payment.Goals.{in-Ok, in_default}

pub returns-clause-answer : goal.returns-clause-answer
returns-clause-answer c =
    let a = c.args in
    let paid : answer_of c.payment-answer.result ≡ paying_in a.price a.adjustment a.k a.f a.pieces.now =
    c.payment-answer.ensures.answer ∙ (rw (c.min-count.ensures, c.pairs_in-pairs.ensures) (paid_in a.price a.adjustment a.k a.f a.pieces.now c.if-pieces-ne0.false)) in
    rw (to_z-of_z {z = c.done.result} (sfits_of c.done.type_inv), c.done.ensures, ← paid)
    (elim c.match-answer.branch [ in-Ok w ↦ rw (w.answer-is, w.in-Ok.is) | in_default w ↦ rw w.answer-is ])

pub returns-clause-amount : goal.returns-clause-amount
returns-clause-amount c =
    let a = c.args in
    let paid : answer_of c.payment-answer.result ≡ paying_in a.price a.adjustment a.k a.f a.pieces.now =
    c.payment-answer.ensures.answer ∙ (rw (c.min-count.ensures, c.pairs_in-pairs.ensures) (paid_in a.price a.adjustment a.k a.f a.pieces.now c.if-pieces-ne0.false)) in
    rw (← paid)
    (elim c.match-answer.branch [
      | in-Ok w ↦ rw (w.amount-is, w.in-Ok.is) (to_z-of_z {w = w64} {z = w.in-Ok.pence} (search rules))
      | in_default w ↦ rw (w.amount-is, w.in_default.is)
    ])
