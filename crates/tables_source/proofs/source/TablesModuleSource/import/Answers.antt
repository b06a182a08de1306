use Rattle.std.proofs.Common.{◌≡◌, rules, ◌∙◌}
use Rattle.std.specs.Option.{option_map}
use borrow.Author.Tests.{tests}
use Rattle.std.proofs.lemmas.Option.{gets}
use Rattle.tables.specs.Rows.{import_of}
use Rattle.tables.specs.Borrowed.{held}
use Rattle.tables_source.proofs.Answering.{import_answer}
use Rattle.tables_source.proofs.source.TablesModuleSource.import.Goals as goal

pub returns : goal.returns
returns c =
    let told : c.map.result ≡ option_map import_of c.copied.result = search (rules, tests) in
    told ∙ import_answer (held c.args.self.now.lists) c.args.self.now.opens c.args.i c.copied.result (search (rules, gets))
