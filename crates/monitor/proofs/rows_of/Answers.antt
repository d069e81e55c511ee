-- `monitor::rows_of` meets its contract. Assumes nothing.
use Rattle.std.proofs.Common.{ℕ, suc, rules, tests, ◌∙◌}
use Rattle.monitor.proofs.Rows.{made_is, judged_is, rows_are}
use Rattle.monitor.specs.Monitor.{judged_row}
use Rattle.monitor.specs.declared.Row.{Row}
use Rattle.monitor.proofs.rows_of.Goals as goal

pub returns : goal.returns
returns c =
    let a = c.args in
    let period : ℕ → Row = λ i. judged_row a.rev a.er a.bounds a.reported (suc i) in
    made_is _ 8 period _ (λ i y q below k. search (rules, tests, judged_is)) _ (period 0) c.from_fn.ensures.items ∙ rows_are _ _ _ _
