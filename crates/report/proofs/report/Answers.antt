-- `report::report` meets its contract: one case of `Outcome` for each return. Assumes nothing.
use mathlib.Core.Path.{sym, ◌∙◌}
use Rattle.std.proofs.lemmas.Result.{err_from_is_err_and}
use Rattle.report.proofs.Outcome.{malformed, why, refuses, short, writes}
use Rattle.report.proofs.report.Goals as goal

pub returns-in_err-p : goal.returns-in_err-p
returns-in_err-p c =
    let p = err_from_is_err_and c.from_residual.result c.from_residual.ensures.1 in
    let w = c.in_err-p.ensures in
    let is = malformed c.args.input.now c.args.output.now (sym w.ok_part ∙ c.parse.ensures) in
    record { answer = rw (p.1, p.2, why w.ok_part w.value, is); output = rw is }

pub returns-in_err-rows : goal.returns-in_err-rows
returns-in_err-rows c =
    let p = err_from_is_err_and c.from_residual-in_err-rows.result c.from_residual-in_err-rows.ensures.1 in
    let is = refuses c.args.input.now c.args.output.now (sym c.in_ok-p.ensures.ok_part ∙ c.parse.ensures) _ c.in_err-rows.ensures in
    record { answer = rw (p.1, p.2, is); output = rw is }

pub returns-then-output-lt488 : goal.returns-then-output-lt488
returns-then-output-lt488 c =
    let is = short c.args.input.now c.args.output.now (sym c.in_ok-p.ensures.ok_part ∙ c.parse.ensures) c.in_ok-rows.ensures c.if-output-lt488.true in
    record { answer = rw is; output = rw is }

pub returns : goal.returns
returns c =
    let is = writes c.args.input.now c.args.output.now (sym c.in_ok-p.ensures.ok_part ∙ c.parse.ensures) c.in_ok-rows.ensures c.if-output-lt488.false c.put_rows.ensures in
    record { answer = rw is; output = rw is }
