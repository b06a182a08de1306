use Rattle.std.proofs.Common.{◌≡◌, ◌+◌, ◌≤◌, length}
use Rattle.sheet.specs.Opening.{entries}
use Rattle.sheet_text.specs.Counting.{no_counts, counted, total}
use Rattle.sheet_text.proofs.Left.{entries_left}
use Rattle.sheet_text.proofs.text.count_records.Given as goal

abbrev pub invariant-loop-record : goal.invariant-loop-record
invariant-loop-record l =
    (goal.iterator-loop-record).can_next l.record-iterator
    × (goal.iterator-loop-record).is_finite l.record-iterator
    × (counted l.counts (entries_left l.record-iterator) ≡ counted no_counts (entries l.bytes))
    × (total l.counts + length (entries_left l.record-iterator) ≤ length l.bytes)
