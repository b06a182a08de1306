-- What the lists hold, and what each of their records says.
use Rattle.std.specs.Prelude.{ℕ, ◌+◌, cond, List, [], ◌∷◌, ◌++◌, map, length, Some, None, Ok, Err, Option, Result}
use Rattle.std.specs.Option.{unwrap_or}
use Rattle.graph.specs.declared.fault.Reason.{Reason}
use Rattle.graph.specs.declared.fault.Reason.TheVariants.{Malformed}
use Rattle.graph.specs.declared.records.Kind.{Kind}
use Rattle.graph.specs.declared.records.Kind.TheVariants as kind
use Rattle.graph.specs.declared.records.Star.{Star}
use Rattle.graph.specs.declared.records.Import.{Import}
use Rattle.graph.specs.declared.records.Export.{Export}
use Rattle.graph.specs.Graphs.{Graph, Module}
use Rattle.graph.specs.Entries.{Entry, a_star, an_import, an_export}
use Rattle.graph.specs.Rules.{kind_numbered, wanted_numbered, name_entry, module_entry}
use Rattle.graph.specs.Opening.{Placed}
use Rattle.tables.specs.declared.lists.Span.{Span}
use Rattle.tables.specs.declared.lists.ModuleRow.{ModuleRow}
use Rattle.tables.specs.declared.lists.ImportRow.{ImportRow}
use Rattle.tables.specs.Spans.{inside, bytes_in}

-- the byte run and the five lists
pub record Held : Type 0 where
  pub bytes : List ℕ
  pub names : List Span
  pub modules : List ModuleRow
  pub stars : List Star
  pub imports : List ImportRow
  pub exports : List Export

-- a name or an id that leaves the byte run is malformed
abbrev pub name_content : List ℕ → Span → Result Entry Reason
name_content run s = cond (inside run s) (name_entry (bytes_in run s)) (Err Malformed)

abbrev pub module_content : List ℕ → ModuleRow → Result Entry Reason
module_content run m = cond (inside run m.id) (module_entry m.kind (bytes_in run m.id)) (Err Malformed)

abbrev pub star_entry : Star → Entry
star_entry s = a_star s.target

abbrev pub import_entry : ImportRow → Entry
import_entry i = an_import i.symbol i.target (wanted_numbered i.name)

abbrev pub export_entry : Export → Entry
export_entry e = an_export e.name e.symbol

abbrev pub star_content : List ℕ → Star → Result Entry Reason
star_content run s = Ok (star_entry s)

abbrev pub import_content : List ℕ → ImportRow → Result Entry Reason
import_content run i = Ok (import_entry i)

abbrev pub export_content : List ℕ → Export → Result Entry Reason
export_content run e = Ok (export_entry e)

-- the owner is written in star records, imports and exports
abbrev pub no_owner : {X : Type 0} → X → Option ℕ
no_owner x = None

abbrev pub star_writes : Star → Option ℕ
star_writes s = Some s.owner

abbrev pub import_writes : ImportRow → Option ℕ
import_writes i = Some i.owner

abbrev pub export_writes : Export → Option ℕ
export_writes e = Some e.owner

-- the records of one list, where so many stand in the lists before it
abbrev pub rows_from : {X : Type 0} → (X → Option ℕ) → (X → Result Entry Reason) → ℕ → List X → List Placed
rows_from owner content p [] = []
rows_from owner content p (x ∷ xs) = record { place = p; owner = owner x; content = content x } ∷ rows_from owner content (p + 1) xs

-- how many records stand before the modules, the star records, the imports and the exports, and how many there are
abbrev pub module_place : Held → ℕ
module_place h = length h.names

abbrev pub star_place : Held → ℕ
star_place h = module_place h + length h.modules

abbrev pub import_place : Held → ℕ
import_place h = star_place h + length h.stars

abbrev pub export_place : Held → ℕ
export_place h = import_place h + length h.imports

abbrev pub record_count : Held → ℕ
record_count h = export_place h + length h.exports

-- the records of each list, and all records, list by list
abbrev pub name_rows : Held → List Placed
name_rows h = rows_from no_owner (name_content h.bytes) 0 h.names

abbrev pub module_rows : Held → List Placed
module_rows h = rows_from no_owner (module_content h.bytes) (module_place h) h.modules

abbrev pub star_rows : Held → List Placed
star_rows h = rows_from star_writes (star_content h.bytes) (star_place h) h.stars

abbrev pub import_rows : Held → List Placed
import_rows h = rows_from import_writes (import_content h.bytes) (import_place h) h.imports

abbrev pub export_rows : Held → List Placed
export_rows h = rows_from export_writes (export_content h.bytes) (export_place h) h.exports

abbrev pub records : Held → List Placed
records h = name_rows h ++ (module_rows h ++ (star_rows h ++ (import_rows h ++ export_rows h)))

-- the kind of a module. A number that is no kind's is refused, so the kind that stands in for it is never seen
abbrev pub row_kind : ModuleRow → Kind
row_kind m = unwrap_or (kind_numbered m.kind) kind.Empty

-- the module and the import of a row
abbrev pub module_of : List ℕ → ModuleRow → Module
module_of run m = record { kind = row_kind m; id = bytes_in run m.id }

abbrev pub import_of : ImportRow → Import
import_of i = record { owner = i.owner; symbol = i.symbol; target = i.target; wanted = wanted_numbered i.name }

-- the graph as far as the lists were gone through, up to these records of one of them
abbrev pub with_names : Held → List Span → Graph
with_names h names = record { names = map (bytes_in h.bytes) names; modules = []; stars = []; imports = []; exports = [] }

abbrev pub with_modules : Held → List ModuleRow → Graph
with_modules h modules = record { names = map (bytes_in h.bytes) h.names; modules = map (module_of h.bytes) modules; stars = []; imports = []; exports = [] }

abbrev pub with_stars : Held → List Star → Graph
with_stars h stars = record { names = map (bytes_in h.bytes) h.names; modules = map (module_of h.bytes) h.modules; stars = stars; imports = []; exports = [] }

abbrev pub with_imports : Held → List ImportRow → Graph
with_imports h imports = record { names = map (bytes_in h.bytes) h.names; modules = map (module_of h.bytes) h.modules; stars = h.stars; imports = map import_of imports; exports = [] }

abbrev pub with_exports : Held → List Export → Graph
with_exports h exports = record { names = map (bytes_in h.bytes) h.names; modules = map (module_of h.bytes) h.modules; stars = h.stars; imports = map import_of h.imports; exports = exports }

-- the graph of all records
abbrev pub meant : Held → Graph
meant h = with_exports h h.exports
