-- How a list writes what opening gives.
use Rattle.std.specs.Prelude.{List, ℕ, codes, Result, Ok, Err}
use Rattle.graph.specs.declared.fault.Fault.{Fault}
use Rattle.graph.specs.Faults.{fault_text}

abbrev pub answer_text : Result Unit Fault → List ℕ
answer_text (Ok _) = codes "opens"
answer_text (Err f) = fault_text f
