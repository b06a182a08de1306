use Rattle.tables.specs.Owned.{kept}
use Rattle.sheet_tables.proofs.Reading.{SoFar}
use Rattle.sheet_tables.proofs.read.tables_of.Given as goal

abbrev pub invariant-loop-record : goal.invariant-loop-record
invariant-loop-record l =
    (goal.iterator-loop-record).can_next l.record-iterator
    × (goal.iterator-loop-record).is_finite l.record-iterator
    × SoFar l.sheet.bytes.now (kept l.lists) l.record-iterator
