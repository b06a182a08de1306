use Rattle.std.proofs.Common.{◌≡◌, rules, ◌∙◌}
use Rattle.std.specs.Option.{option_map}
use borrow.Author.Tests.{tests}
use Rattle.tables.specs.Rows.{import_of}
use Rattle.tables.specs.Borrowed.{held}
use Rattle.tables_source.proofs.Answering.{behind_answer}
use Rattle.tables_source.proofs.source.TablesModuleSource.import_behind.Goals as goal

pub returns : goal.returns
returns c =
    let told : c.map.result ≡ option_map import_of c.find_of.result = search (rules, tests) in
    told ∙ behind_answer (held c.args.self.now.lists) c.args.self.now.opens c.args.m c.args.s c.find_of.result c.find_of.ensures
