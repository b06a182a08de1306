use Rattle.tables.specs.Borrowed.{held}
use Rattle.tables_source.proofs.Answering.{import_count}
use Rattle.tables_source.proofs.source.TablesModuleSource.import_count.Goals as goal

pub returns : goal.returns
returns c = import_count (held c.args.self.now.lists) c.args.self.now.opens
