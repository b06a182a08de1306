use Rattle.std.proofs.Common.{Some, None, Err, sym, ap, ◌∙◌, arith}
use Rattle.tables.specs.Borrowed.{held}
use Rattle.tables.proofs.Staged.{told_at, stop_at, pass_at}
use Rattle.tables.proofs.checks.check_rows.Goals as goal

pub returns-in-Some : goal.returns-in-Some
returns-in-Some g c =
    let h = held c.args.lists in
    let told = told_at g.R.Row.writes (g.R.Row.content h.bytes) (g.R.Row.stage h) c.args.first c.args.rows.now c.loop-i.i c.loop-i-test.true c.index-rows-i.result c.index-rows-i.is c.loop-i.invariant (Some c.in-Some.reason) _ (omega arith) (c.in-Some.ensures c.args.first) in
    stop_at g.R.Row.writes (g.R.Row.content h.bytes) (g.R.Row.stage h) c.args.first c.args.rows.now c.loop-i.i c.loop-i-test.true c.index-rows-i.result c.index-rows-i.is c.loop-i.invariant c.in-Some.reason told ∙ ap (λ f. Err f) (sym c.fault.ensures)

pub loop-i-preserved : goal.loop-i-preserved
loop-i-preserved g c =
    let h = held c.args.lists in
    let told = told_at g.R.Row.writes (g.R.Row.content h.bytes) (g.R.Row.stage h) c.args.first c.args.rows.now c.loop-i.i c.loop-i-test.true c.index-rows-i.result c.index-rows-i.is c.loop-i.invariant None _ (omega arith) (c.in_default.ensures c.args.first) in
    pass_at g.R.Row.writes (g.R.Row.content h.bytes) (g.R.Row.stage h) c.args.first c.args.rows.now c.loop-i.i c.loop-i-test.true c.index-rows-i.result c.index-rows-i.is c.loop-i.invariant (g.met.R.Row.grows h) told
