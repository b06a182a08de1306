use Rattle.std.proofs.Common.{leb, length, ap}
use Rattle.tables.specs.Borrowed.{held}
use Rattle.tables.proofs.Refused.{export_refused}
use Rattle.tables.proofs.rows.ExportRow.refusal.Goals as goal

pub returns : goal.returns
returns c = λ first. export_refused (held c.args.lists) (leb (length c.args.lists.names.now) c.from.result) c.keyed_refusal.result first c.args.before.now c.args.self.now c.keyed_refusal.ensures
    (ap (leb (length c.args.lists.names.now)) c.from.ensures)
