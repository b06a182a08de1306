use Rattle.std.proofs.Common.{rules, eqb, sym, ap, ◌∙◌}
use borrow.Author.Tests.{tests}
use Rattle.std.specs.List.{slice_get}
use Rattle.std.proofs.lemmas.Iterator.Consumers.{YieldsList-at, YieldsList-from_filter, nth_from_yields_List}
use Rattle.std.proofs.lemmas.Iterator.Adapters.{option_map_id}
use Rattle.graph.specs.declared.records.Export.{Export}
use Rattle.graph.proofs.Keyed.{exports_owned}
use Rattle.sheet.specs.Opening.{graph_of}
use Rattle.sheet.specs.Owning.{Owned, records_left, entry_export}
use Rattle.sheet_source.proofs.Answering.{exports_are, picked}
use Rattle.sheet_source.proofs.source.SheetModuleSource.export.Goals as goal

pub returns : goal.returns
returns c = sym (option_map_id c.nth.result) ∙ nth_from_yields_List c.nth.result c.nth.new.self c.args.k c.nth.ensures.ran (YieldsList-from_filter _ (λ (e : Export). eqb e.owner c.args.m) (YieldsList-at c.filter.ensures.source (picked (λ (x : Owned). entry_export x.owner x.entry) _ (exports_are c.args.self.now.bytes.now c.args.self.now.opens) (ap records_left c.filter_map.ensures.source ∙ c.records.ensures) c.filter_map.ensures.closure (λ x r q k. search (rules, tests)))) c.filter.ensures.closure (λ x b q k. search (rules, tests))) ∙ sym (ap (λ l. slice_get l c.args.k) (exports_owned (graph_of c.args.self.now.bytes.now).exports c.args.m))
