use Rattle.std.proofs.Common.{rules, eqb, sym, ap, ◌∙◌, ◌&&◌, ◌≡◌}
use borrow.Author.Tests.{tests}
use Rattle.std.specs.Option.{option_map}
use Rattle.std.specs.List.{find}
use Rattle.std.proofs.lemmas.Iterator.Search.{find_from_yields_List}
use Rattle.std.proofs.lemmas.Iterator.Adapters.{option_map_id}
use Rattle.graph.specs.declared.records.Export.{Export}
use Rattle.graph.specs.Lookups.{export_symbol}
use Rattle.sheet.specs.Opening.{graph_of}
use Rattle.sheet.specs.Owning.{Owned, records_left, entry_export}
use Rattle.sheet_source.proofs.Answering.{exports_are, symbol_found, picked}
use Rattle.sheet_source.proofs.source.SheetModuleSource.exported_symbol.Goals as goal

pub returns : goal.returns
returns c =
    let found : c.find.result ≡ find (λ (e : Export). eqb e.owner c.args.m && eqb e.name c.args.n) (graph_of c.args.self.now.bytes.now).exports = sym (option_map_id c.find.result) ∙ find_from_yields_List (λ (e : Export). eqb e.owner c.args.m && eqb e.name c.args.n) c.find.new.self _ c.find.result c.find.ensures.ran (picked (λ (x : Owned). entry_export x.owner x.entry) _ (exports_are c.args.self.now.bytes.now c.args.self.now.opens) (ap records_left c.filter_map.ensures.source ∙ c.records.ensures) c.filter_map.ensures.closure (λ x r q k. search (rules, tests))) (λ x b q k. search (rules, tests)) in
    let symbol : c.map.result ≡ option_map export_symbol c.find.result = search (rules, tests) in
    symbol ∙ ap (option_map export_symbol) found ∙ sym (symbol_found (graph_of c.args.self.now.bytes.now).exports c.args.m c.args.n)
