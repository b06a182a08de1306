-- How a refusal is numbered and written.
use Rattle.std.specs.Prelude.{ℕ, List, ◌++◌, codes, decimal}
use Rattle.graph.specs.declared.fault.Reason.{Reason}
use Rattle.graph.specs.declared.fault.Reason.TheVariants.{BadLength, Malformed, OutOfOrder, BadName, OverLimit, NoRecord, Duplicate, WrongKind}
use Rattle.graph.specs.declared.fault.Layer.{Layer}
use Rattle.graph.specs.declared.fault.Layer.TheVariants.{Sheet, Tables, Link, Listing}
use Rattle.graph.specs.declared.fault.Fault.{Fault}

abbrev pub reason_number : Reason → ℕ
reason_number BadLength = 10
reason_number Malformed = 11
reason_number OutOfOrder = 12
reason_number BadName = 13
reason_number OverLimit = 14
reason_number NoRecord = 15
reason_number Duplicate = 16
reason_number WrongKind = 17

abbrev pub layer_name : Layer → List ℕ
layer_name Sheet = codes "sheet"
layer_name Tables = codes "tables"
layer_name Link = codes "link"
layer_name Listing = codes "listing"

-- the bytes of a fault as it is printed
abbrev pub fault_text : Fault → List ℕ
fault_text f = codes "refused " ++ (decimal (reason_number f.reason) ++ (codes " at " ++ (decimal f.place ++ (codes " in " ++ layer_name f.layer))))
