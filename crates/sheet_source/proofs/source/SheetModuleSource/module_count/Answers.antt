use Rattle.std.proofs.Common.{rules, inr, ap, ◌∙◌, arith}
use borrow.Author.Tests.{tests}
use Rattle.std.proofs.lemmas.Iterator.Consumers.{count_from_yields_List}
use Rattle.std.proofs.lemmas.List.{length-map}
use Rattle.graph.specs.Lookups.{kind_of}
use Rattle.sheet.specs.Opening.{graph_of}
use Rattle.sheet.specs.Owning.{Owned, records_left, entry_kind}
use Rattle.sheet.proofs.Soundly.{graph_sound}
use Rattle.sheet_source.proofs.Answering.{kinds_are, picked, may_count}
use Rattle.sheet_source.proofs.source.SheetModuleSource.module_count.Goals as goal

pub count-requires-clause-fits : goal.count-requires-clause-fits
count-requires-clause-fits c = inr (may_count (picked (λ (x : Owned). entry_kind x.entry) _ (kinds_are c.args.self.now.bytes.now c.args.self.now.opens) (ap records_left c.filter_map.ensures.source ∙ c.records.ensures) c.filter_map.ensures.closure (λ x r q k. search (rules, tests))) (omega (arith, length-map (graph_of c.args.self.now.bytes.now).modules kind_of, (graph_sound c.args.self.now.bytes.now).module_limit)))

pub returns : goal.returns
returns c = record {
  value = count_from_yields_List c.filter_map.result c.count.result c.count.ensures.ran (picked (λ (x : Owned). entry_kind x.entry) _ (kinds_are c.args.self.now.bytes.now c.args.self.now.opens) (ap records_left c.filter_map.ensures.source ∙ c.records.ensures) c.filter_map.ensures.closure (λ x r q k. search (rules, tests))) ∙ length-map (graph_of c.args.self.now.bytes.now).modules kind_of;
  sound = graph_sound c.args.self.now.bytes.now;
}
