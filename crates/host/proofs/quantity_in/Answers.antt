-- `host::quantity_in` meets its contract. Assumes nothing.
use mathlib.Core.Path.{sym, ap, ◌∙◌}
use native.Mathlib.Omega.{arith}
use Rattle.capability.specs.Quantity.{answer_of_quantity}
use Rattle.capability.proofs.QuantityLaws.{quantity_most}
use Rattle.host.proofs.quantity_in.Goals as goal

pub overflow_cast-result : goal.overflow_cast-result
overflow_cast-result c =
    let a = c.args in
    omega (arith, quantity_most a.direction a.limits _ a.limit a.available a.energies c.in_ok-kw.kw (sym c.quantity.ensures ∙ ap answer_of_quantity c.in_ok-kw.was))
