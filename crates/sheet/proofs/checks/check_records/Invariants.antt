use Rattle.std.proofs.Common.{List}
use Rattle.graph.specs.Graphs.{Graph}
use Rattle.graph.specs.Opening.{Placed}
use Rattle.sheet.specs.Progressing.{Head, Standing}
use Rattle.sheet.specs.Reading.{fields_left}
use Rattle.sheet.proofs.checks.check_records.Given as goal

abbrev pub invariant-loop-next : goal.invariant-loop-next
invariant-loop-next l = (all : List Placed) → Head all l.names.count (fields_left l.names.behind) → (g : Graph) × Standing all l.progress (fields_left l.left) g
