use Rattle.std.proofs.Common.{rules, sym, ap, ◌∙◌}
use borrow.Author.Tests.{tests}
use Rattle.std.proofs.lemmas.Iterator.Consumers.{nth_from_yields_List}
use Rattle.std.proofs.lemmas.Iterator.Adapters.{option_map_id}
use Rattle.std.proofs.lemmas.Option.{slice_get-map}
use Rattle.graph.specs.Lookups.{kind_of}
use Rattle.sheet.specs.Opening.{graph_of}
use Rattle.sheet.specs.Owning.{Owned, records_left, entry_kind}
use Rattle.sheet_source.proofs.Answering.{kinds_are, picked}
use Rattle.sheet_source.proofs.source.SheetModuleSource.kind.Goals as goal

pub returns : goal.returns
returns c = sym (option_map_id c.nth.result) ∙ nth_from_yields_List c.nth.result c.nth.new.self c.args.m c.nth.ensures.ran (picked (λ (x : Owned). entry_kind x.entry) _ (kinds_are c.args.self.now.bytes.now c.args.self.now.opens) (ap records_left c.filter_map.ensures.source ∙ c.records.ensures) c.filter_map.ensures.closure (λ x r q k. search (rules, tests))) ∙ slice_get-map kind_of (graph_of c.args.self.now.bytes.now).modules c.args.m
