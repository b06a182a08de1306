use Rattle.std.proofs.Common.{ap}
use Rattle.std.proofs.lemmas.Result.{err_from_is_err_and}
use Rattle.graph.specs.Rules.{and_then}
use Rattle.graph.specs.Opening.{finished}
use Rattle.graph.specs.declared.fault.Layer.TheVariants as layer
use Rattle.tables.specs.Borrowed.{held}
use Rattle.tables.specs.Rows.{record_count, records}
use Rattle.tables.proofs.Complete.{told_exactly}
use Rattle.tables.proofs.Opened.{told_first}
use Rattle.tables.proofs.checks.open.Goals as goal

pub returns-in_err-check_records : goal.returns-in_err-check_records
returns-in_err-check_records c =
    let p = err_from_is_err_and c.from_residual.result c.from_residual.ensures.1 in
    let h = held c.args.lists in
    let err = ap (λ r. and_then r (finished layer.Tables (record_count h) (records h))) c.in_err-check_records.ensures in
    record {
      opens = rw (p.1, p.2) err;
      sound = told_exactly h c.from_residual.result (rw (p.1, p.2) err);
      first = told_first h c.from_residual.result (rw (p.1, p.2) err);
    }

pub returns : goal.returns
returns c =
    let told = c.finish.ensures c.in_ok-check_records.ensures in
    record {
      opens = told;
      sound = told_exactly (held c.args.lists) c.finish.result told;
      first = told_first (held c.args.lists) c.finish.result told;
    }
