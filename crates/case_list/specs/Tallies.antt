-- What a tally tells, and how it is printed.
use Rattle.std.specs.Prelude.{List, ℕ, ◌++◌, codes, decimal, Result}
use Rattle.graph.specs.declared.fault.Fault.{Fault}
use Rattle.case_list.specs.declared.tally.Tally.{Tally}
use Rattle.case_list.specs.Replaying.{Tallied}

-- the tally counts the cases of these lines
abbrev pub Counts : (List ℕ → Result Unit Fault → Type 0) → List (List ℕ) → Tally → Type 0
Counts Gives lines t = Tallied Gives lines t.cases t.wrong

abbrev pub tally_text : Tally → List ℕ
tally_text t = decimal t.cases ++ (codes " cases, " ++ (decimal t.wrong ++ codes " wrong"))
