use Rattle.std.proofs.Common.{leb, ap, ◌∙◌}
use Rattle.sheet.specs.Borrowed.{entry_of}
use Rattle.sheet.proofs.Refusing.{import_refusal, export_refusal}
use Rattle.sheet.proofs.progress.Progress.refusal.Goals as goal

pub returns-in-Import-clause-first : goal.returns-in-Import-clause-first
returns-in-Import-clause-first c = λ all left g standing _. c.owned_refusal-in-Import.ensures ∙ import_refusal c.args.self.now (entry_of c.args.field) c.is_unknown-unknown.result c.clashes.result c.clashes.ensures all left g standing c.in-Import.symbol c.in-Import.target c.in-Import.wanted (ap entry_of c.in-Import.is) c.is_unknown-unknown.ensures

pub returns-in-Export-clause-first : goal.returns-in-Export-clause-first
returns-in-Export-clause-first c = λ all left g standing _. c.owned_refusal-in-Export.ensures ∙ export_refusal c.args.self.now (entry_of c.args.field) _ c.clashes-in-Export.result c.clashes-in-Export.ensures all left g standing c.in-Export.name c.in-Export.symbol (ap entry_of c.in-Export.is) (ap (leb c.args.self.now.names) c.from.ensures)
