use Rattle.std.proofs.Common.{rules, sym, ap, ◌∙◌}
use borrow.Author.Tests.{tests}
use Rattle.std.proofs.lemmas.Iterator.Consumers.{nth_from_yields_List}
use Rattle.std.proofs.lemmas.Iterator.Adapters.{option_map_id}
use Rattle.sheet.specs.Owning.{Owned, records_left, entry_import}
use Rattle.sheet_source.proofs.Answering.{imports_are, picked}
use Rattle.sheet_source.proofs.source.SheetModuleSource.import.Goals as goal

pub returns : goal.returns
returns c = sym (option_map_id c.nth.result) ∙ nth_from_yields_List c.nth.result c.nth.new.self c.args.i c.nth.ensures.ran (picked (λ (x : Owned). entry_import x.owner x.entry) _ (imports_are c.args.self.now.bytes.now c.args.self.now.opens) (ap records_left c.filter_map.ensures.source ∙ c.records.ensures) c.filter_map.ensures.closure (λ x r q k. search (rules, tests)))
