use Rattle.std.proofs.Common.{rules, eqb, sym, ap, ◌∙◌, ◌&&◌}
use borrow.Author.Tests.{tests}
use Rattle.std.proofs.lemmas.Iterator.Search.{find_from_yields_List}
use Rattle.std.proofs.lemmas.Iterator.Adapters.{option_map_id}
use Rattle.graph.specs.declared.records.Import.{Import}
use Rattle.sheet.specs.Opening.{graph_of}
use Rattle.sheet.specs.Owning.{Owned, records_left, entry_import}
use Rattle.sheet_source.proofs.Answering.{imports_are, import_found, picked}
use Rattle.sheet_source.proofs.source.SheetModuleSource.import_behind.Goals as goal

pub returns : goal.returns
returns c = sym (option_map_id c.find.result) ∙ find_from_yields_List (λ (i : Import). eqb i.owner c.args.m && eqb i.symbol c.args.s) c.find.new.self _ c.find.result c.find.ensures.ran (picked (λ (x : Owned). entry_import x.owner x.entry) _ (imports_are c.args.self.now.bytes.now c.args.self.now.opens) (ap records_left c.filter_map.ensures.source ∙ c.records.ensures) c.filter_map.ensures.closure (λ x r q k. search (rules, tests))) (λ x b q k. search (rules, tests)) ∙ sym (import_found (graph_of c.args.self.now.bytes.now).imports c.args.m c.args.s)
