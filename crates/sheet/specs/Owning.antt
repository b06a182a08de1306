-- The records of a sheet, each with its owner.
use Rattle.std.specs.Prelude.{◌≡◌, ℕ, ◌+◌, ◌-◌, List, [], ◌∷◌, Some, None, Ok, Option, min, IfSome}
use Rattle.std.specs.Iterator.{YieldsFirstBy}
use Rattle.graph.specs.declared.records.Kind.{Kind}
use Rattle.graph.specs.declared.records.Star.{Star}
use Rattle.graph.specs.declared.records.Import.{Import}
use Rattle.graph.specs.declared.records.Export.{Export}
use Rattle.graph.specs.Entries.{Entry, a_name, a_module, a_star, an_import, an_export}
use Rattle.sheet.specs.declared.records.Record.{Record}
use Rattle.sheet.specs.declared.records.Records.{Records}
use Rattle.sheet.specs.Borrowed.{entry_of, Begins}
use Rattle.sheet.specs.Opening.{entries_of}
use Rattle.sheet.specs.Reading.{fields_left}

-- a record, and the number of the module that owns it
pub record Owned : Type 0 where
  pub owner : ℕ
  pub entry : Entry

-- the number of modules behind a record, counted up to 65535
abbrev pub modules_after : ℕ → Entry → ℕ
modules_after modules (a_name bytes) = modules
modules_after modules (a_module kind id) = min (modules + 1) 65535
modules_after modules (a_star target) = modules
modules_after modules (an_import symbol target wanted) = modules
modules_after modules (an_export name symbol) = modules

-- records behind so many modules, each with its owner: the latest module, or 0 before the first
abbrev pub owned : ℕ → List Entry → List Owned
owned modules [] = []
owned modules (e ∷ es) = record { owner = modules - 1; entry = e } ∷ owned (modules_after modules e) es

abbrev pub owned_of : Record → Owned
owned_of r = record { owner = r.owner; entry = entry_of r.field }

-- what is left to be gone through
abbrev pub records_left : Records → List Owned
records_left s = owned s.modules (entries_of (fields_left s.fields))

-- a record is the first field that was left, and the bytes that it borrows stand in the payload there
abbrev pub StandsFirst : Records → Record → Records → Type 0
StandsFirst s r t = (p : ℕ) × (fields_left s.fields ≡ record { place = p; owner = None; content = Ok (entry_of r.field) } ∷ fields_left t.fields) × Begins r.field (p + 3)

-- a step gives the first record that was left, which stands in the sheet
abbrev pub record_steps : Records → Option Record → Records → Type 0
record_steps s r t = YieldsFirstBy owned_of records_left s r t × IfSome r (λ x. StandsFirst s x t)

-- a module's kind
abbrev pub entry_kind : Entry → Option Kind
entry_kind (a_name bytes) = None
entry_kind (a_module kind id) = Some kind
entry_kind (a_star target) = None
entry_kind (an_import symbol target wanted) = None
entry_kind (an_export name symbol) = None

-- a star record of this owner
abbrev pub entry_star : ℕ → Entry → Option Star
entry_star owner (a_name bytes) = None
entry_star owner (a_module kind id) = None
entry_star owner (a_star target) = Some (record { owner = owner; target = target })
entry_star owner (an_import symbol target wanted) = None
entry_star owner (an_export name symbol) = None

-- an import of this owner
abbrev pub entry_import : ℕ → Entry → Option Import
entry_import owner (a_name bytes) = None
entry_import owner (a_module kind id) = None
entry_import owner (a_star target) = None
entry_import owner (an_import symbol target wanted) = Some (record { owner = owner; symbol = symbol; target = target; wanted = wanted })
entry_import owner (an_export name symbol) = None

-- an export of this owner
abbrev pub entry_export : ℕ → Entry → Option Export
entry_export owner (a_name bytes) = None
entry_export owner (a_module kind id) = None
entry_export owner (a_star target) = None
entry_export owner (an_import symbol target wanted) = None
entry_export owner (an_export name symbol) = Some (record { owner = owner; name = name; symbol = symbol })
