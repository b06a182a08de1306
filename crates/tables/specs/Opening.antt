-- Opening tables: the graph that they mean, or their first fault.
use Rattle.std.specs.Prelude.{Result}
use Rattle.graph.specs.declared.fault.Fault.{Fault}
use Rattle.graph.specs.declared.fault.Layer.TheVariants as layer
use Rattle.graph.specs.Graphs.{Graph}
use Rattle.graph.specs.Opening.{or_only_default}
use Rattle.graph.specs.Opening as opening
use Rattle.graph.specs.Foremost as foremost
use Rattle.tables.specs.Rows.{Held, record_count, records}

abbrev pub opened : Held → Result Graph Fault
opened h = opening.opened layer.Tables (record_count h) (records h)

-- the first fault: record by record, then the missing name, then the targets
abbrev pub FirstFault : Held → Fault → Type 0
FirstFault h f = foremost.FirstFault layer.Tables (record_count h) (records h) f

-- the graph of any lists
abbrev pub graph_of : Held → Graph
graph_of h = or_only_default (opened h)
