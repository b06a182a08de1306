-- Lists whose names and modules can all be read.
use Rattle.std.specs.Prelude.{◌≡◌, true, is_ok}
use Rattle.std.specs.List.{AllByRecursion}
use Rattle.tables.specs.declared.lists.Span.{Span}
use Rattle.tables.specs.declared.lists.ModuleRow.{ModuleRow}
use Rattle.tables.specs.Rows.{Held, name_content, module_content}

-- no name and no module is malformed
pub record Readable (h : Held) : Type 0 where
  pub names : AllByRecursion (λ (s : Span). is_ok (name_content h.bytes s) ≡ true) h.names
  pub modules : AllByRecursion (λ (m : ModuleRow). is_ok (module_content h.bytes m) ≡ true) h.modules
