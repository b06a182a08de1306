use Rattle.std.proofs.Common.{rules, inr, ap, ◌∙◌}
use borrow.Author.Tests.{tests}
use Rattle.std.proofs.lemmas.Iterator.Consumers.{count_from_yields_List}
use Rattle.sheet.specs.Owning.{Owned, records_left, entry_import}
use Rattle.sheet.proofs.Soundly.{graph_sound}
use Rattle.sheet_source.proofs.Answering.{imports_are, picked, may_count}
use Rattle.sheet_source.proofs.source.SheetModuleSource.import_count.Goals as goal

pub count-requires-clause-fits : goal.count-requires-clause-fits
count-requires-clause-fits c = inr (may_count (picked (λ (x : Owned). entry_import x.owner x.entry) _ (imports_are c.args.self.now.bytes.now c.args.self.now.opens) (ap records_left c.filter_map.ensures.source ∙ c.records.ensures) c.filter_map.ensures.closure (λ x r q k. search (rules, tests))) (graph_sound c.args.self.now.bytes.now).import_limit)

pub returns : goal.returns
returns c = count_from_yields_List c.filter_map.result c.count.result c.count.ensures.ran (picked (λ (x : Owned). entry_import x.owner x.entry) _ (imports_are c.args.self.now.bytes.now c.args.self.now.opens) (ap records_left c.filter_map.ensures.source ∙ c.records.ensures) c.filter_map.ensures.closure (λ x r q k. search (rules, tests)))
