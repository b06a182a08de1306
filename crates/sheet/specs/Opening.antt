-- Opening a sheet: the graph that it means, or its first fault.
use Rattle.std.specs.Prelude.{ℕ, zero, suc, cond, List, [], ◌∷◌, length, Some, None, Ok, Err, Option, Result, nat_lt}
use Rattle.graph.specs.declared.fault.Fault.{Fault}
use Rattle.graph.specs.declared.fault.Layer.TheVariants as layer
use Rattle.graph.specs.declared.fault.Reason.{Reason}
use Rattle.graph.specs.declared.fault.Reason.TheVariants.{BadLength}
use Rattle.graph.specs.Graphs.{Graph}
use Rattle.graph.specs.Entries.{Entry}
use Rattle.graph.specs.Rules.{placed, unless}
use Rattle.graph.specs.Opening.{Placed, or_only_default}
use Rattle.graph.specs.Opening as opening
use Rattle.sheet.specs.Fields.{next_at, field_at}

-- the field at p. No owner is written in a field: its record belongs to the latest module
abbrev pub placed_at : List ℕ → ℕ → Placed
placed_at bytes p = record { place = p; owner = None; content = field_at bytes p }

abbrev pub fields_from : ℕ → List ℕ → ℕ → List Placed
fields_from zero bytes p = []
fields_from (suc steps) bytes p = cond (nat_lt p (length bytes)) (placed_at bytes p ∷ fields_from steps bytes (next_at bytes p)) []

-- the fields from p on. A field has three bytes at least, so the sheet's length is steps enough
abbrev pub fields_at : List ℕ → ℕ → List Placed
fields_at bytes p = fields_from (length bytes) bytes p

-- a field's record, and then the later ones
abbrev pub entry_then : Result Entry Reason → List Entry → List Entry
entry_then (Ok e) later = e ∷ later
entry_then (Err reason) later = []

-- the records of fields that can be read
abbrev pub entries_of : List Placed → List Entry
entries_of [] = []
entries_of (f ∷ fs) = entry_then f.content (entries_of fs)

-- the records of a sheet, in its order
abbrev pub entries : List ℕ → List Entry
entries bytes = entries_of (fields_at bytes 0)

-- why a record, or what was read of a field, is refused behind the records of g
abbrev pub entry_refusal : Graph → Entry → Option Reason
entry_refusal g e = opening.entry_refusal g None e

abbrev pub field_refusal : Graph → Result Entry Reason → Option Reason
field_refusal g content = opening.content_refusal g None content

-- field by field: g with the records of the fields, or the first fault among these
abbrev pub gathered : Graph → List Placed → Result Graph Fault
gathered g fs = opening.gathered layer.Sheet g fs

-- the last checks, field by field
abbrev pub aims : Graph → List Placed → Option Fault
aims g fs = opening.aims layer.Sheet g fs

-- 10, before anything is read
abbrev pub too_long : List ℕ → Option Fault
too_long bytes = cond (nat_lt 60000 (length bytes)) (placed layer.Sheet (Some BadLength) 60000) None

-- the checks behind the last field
abbrev pub finished : List ℕ → Graph → Result Graph Fault
finished bytes g = opening.finished layer.Sheet (length bytes) (fields_at bytes 0) g

abbrev pub opened : List ℕ → Result Graph Fault
opened bytes = unless (too_long bytes) (opening.opened layer.Sheet (length bytes) (fields_at bytes 0))

-- the graph of any bytes
abbrev pub graph_of : List ℕ → Graph
graph_of bytes = or_only_default (opened bytes)
