use Rattle.tables.specs.Borrowed.{held}
use Rattle.tables_source.proofs.Answering.{export_answer}
use Rattle.tables_source.proofs.source.TablesModuleSource.export.Goals as goal

pub returns : goal.returns
returns c = export_answer (held c.args.self.now.lists) c.args.self.now.opens c.args.m c.args.k c.nth_of.result c.nth_of.ensures
