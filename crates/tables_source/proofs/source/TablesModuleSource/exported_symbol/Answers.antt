use Rattle.std.proofs.Common.{◌≡◌, rules, ◌∙◌}
use Rattle.std.specs.Option.{option_map}
use borrow.Author.Tests.{tests}
use Rattle.graph.specs.Lookups.{export_symbol}
use Rattle.tables.specs.Borrowed.{held}
use Rattle.tables_source.proofs.Answering.{symbol_answer}
use Rattle.tables_source.proofs.source.TablesModuleSource.exported_symbol.Goals as goal

pub returns : goal.returns
returns c =
    let told : c.map.result ≡ option_map export_symbol c.find_of.result = search (rules, tests) in
    told ∙ symbol_answer (held c.args.self.now.lists) c.args.self.now.opens c.args.m c.args.n c.find_of.result c.find_of.ensures
