use Rattle.std.proofs.Common.{◌≡◌, take, None}
use Rattle.sheet.specs.Opening.{fields_at}
use Rattle.sheet.specs.Reading.{fields_left}
use Rattle.sheet.proofs.Naming.{Gone, repeated}
use Rattle.sheet.proofs.names.read_names.Given as goal

abbrev pub invariant-names : goal.invariant-names
invariant-names l = Gone (fields_at l.bytes 0) (fields_left l.all) l.count (fields_left l.left) × (l.behind ≡ l.left) × (l.repeated ≡ None)

abbrev pub invariant-loop-earlier : goal.invariant-loop-earlier
invariant-loop-earlier l =
    (goal.iterator-loop-earlier).can_next l.earlier-iterator
    × (goal.iterator-loop-earlier).is_finite l.earlier-iterator
    × (repeated l.name (take l.earlier-iterator.n (fields_left l.earlier-iterator.iter)) ≡ repeated l.name (take l.count (fields_left l.all)))
    × (l.repeated ≡ None)
