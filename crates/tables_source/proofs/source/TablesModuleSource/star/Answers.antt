use Rattle.std.proofs.Common.{◌≡◌, rules, ◌∙◌}
use Rattle.std.specs.Option.{option_map}
use borrow.Author.Tests.{tests}
use Rattle.graph.specs.Lookups.{star_target}
use Rattle.tables.specs.Borrowed.{held}
use Rattle.tables_source.proofs.Answering.{star_answer}
use Rattle.tables_source.proofs.source.TablesModuleSource.star.Goals as goal

pub returns : goal.returns
returns c =
    let told : c.map.result ≡ option_map star_target c.nth_of.result = search (rules, tests) in
    told ∙ star_answer (held c.args.self.now.lists) c.args.self.now.opens c.args.m c.args.k c.nth_of.result c.nth_of.ensures
