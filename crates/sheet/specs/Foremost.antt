-- The first fault of a sheet, as a relation: its length, then its fields, then the names, then the targets.
use Rattle.std.specs.Prelude.{ℕ, ◌<◌, ◌≤◌, List, length}
use Rattle.graph.specs.declared.fault.Fault.{Fault}
use Rattle.graph.specs.declared.fault.Layer.TheVariants as layer
use Rattle.graph.specs.declared.fault.Reason.TheVariants.{BadLength}
use Rattle.graph.specs.Foremost as foremost
use Rattle.sheet.specs.Fields.{fault_at}
use Rattle.sheet.specs.Opening.{fields_at}

pub data FirstFault (bytes : List ℕ) : Fault → Type 0 where
  -- the sheet is too long
  overlong : 60000 < length bytes → FirstFault bytes (fault_at BadLength 60000)
  -- it is not, and this is the first fault of its fields
  of_fields : {f : Fault} → length bytes ≤ 60000 → foremost.FirstFault layer.Sheet (length bytes) (fields_at bytes 0) f → FirstFault bytes f
