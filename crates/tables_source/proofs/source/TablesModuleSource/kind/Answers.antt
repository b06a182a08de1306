use Rattle.tables.specs.Borrowed.{held}
use Rattle.tables_source.proofs.Answering.{kind_answer}
use Rattle.tables_source.proofs.source.TablesModuleSource.kind.Goals as goal

pub returns : goal.returns
returns c = kind_answer (held c.args.self.now.lists) c.args.self.now.opens c.args.m c.kind_at.result c.kind_at.ensures
