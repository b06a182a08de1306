use Rattle.tables.specs.Borrowed.{held}
use Rattle.tables.proofs.Refused.{star_refused}
use Rattle.tables.proofs.rows.StarRow.refusal.Goals as goal

pub returns : goal.returns
returns c = λ first. star_refused (held c.args.lists) c.args.before.now c.args.self.now first c.refusal_behind.result c.refusal_behind.ensures
