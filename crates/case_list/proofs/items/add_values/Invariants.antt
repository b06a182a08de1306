use Rattle.std.proofs.Common.{◌≡◌, ◌++◌}
use Rattle.std.specs.List.{repeat}
use Rattle.case_list.proofs.items.add_values.Given as goal

abbrev pub invariant-loop : goal.invariant-loop
invariant-loop g l = l.list.items ≡ l.initial.list.items ++ repeat l.counter (g.T.Values.AsSlice.items l.values)
