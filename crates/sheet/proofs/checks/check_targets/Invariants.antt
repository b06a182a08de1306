use Rattle.std.proofs.Common.{◌≡◌, map}
use Rattle.graph.specs.Graphs.{Graph}
use Rattle.graph.specs.Lookups.{kind_of}
use Rattle.sheet.specs.Opening.{fields_at, aims}
use Rattle.sheet.specs.Reading.{fields_left}
use Rattle.sheet.proofs.checks.check_targets.Given as goal

abbrev pub invariant-loop-next : goal.invariant-loop-next
invariant-loop-next l =
    (goal.iterator-loop-next).can_next l.next-iterator
    × (goal.iterator-loop-next).is_finite l.next-iterator
    × ((g : Graph) → l.kinds ≡ map kind_of g.modules → aims g (fields_left l.next-iterator) ≡ aims g (fields_at l.bytes 0))
