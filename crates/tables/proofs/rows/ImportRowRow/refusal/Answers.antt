use Rattle.std.proofs.Common.{length, ap, ◌∙◌}
use Rattle.graph.specs.Rules.{wants_unknown}
use Rattle.tables.specs.Borrowed.{held}
use Rattle.tables.proofs.Refused.{import_refused}
use Rattle.tables.proofs.rows.ImportRowRow.refusal.Goals as goal

pub returns : goal.returns
returns c = λ first. import_refused (held c.args.lists) c.is_unknown-nameless.result c.keyed_refusal.result first c.args.before.now c.args.self.now c.keyed_refusal.ensures
    (c.is_unknown-nameless.ensures ∙ ap (wants_unknown (length c.args.lists.names.now)) c.from.ensures)
