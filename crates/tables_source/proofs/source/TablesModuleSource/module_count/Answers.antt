use Rattle.tables.specs.Borrowed.{held}
use Rattle.tables.proofs.Opened.{graph_sound}
use Rattle.tables_source.proofs.Answering.{module_count}
use Rattle.tables_source.proofs.source.TablesModuleSource.module_count.Goals as goal

pub returns : goal.returns
returns c = record { value = module_count (held c.args.self.now.lists) c.args.self.now.opens; sound = graph_sound (held c.args.self.now.lists) }
