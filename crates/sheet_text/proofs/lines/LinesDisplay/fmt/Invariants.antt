use Rattle.std.proofs.Common.{◌≡◌, ℕ, List, ◌+◌, ◌≤◌, ◌++◌, length}
use Rattle.std.specs.Fmt.{HasWritten, IsPlainFormatter}
use Rattle.sheet.specs.Opening.{entries}
use Rattle.sheet_text.specs.Counting.{no_counts, total}
use Rattle.sheet_text.specs.Lines.{lines}
use Rattle.sheet_text.proofs.Left.{entries_left}
use Rattle.sheet_text.proofs.lines.LinesDisplay.fmt.Given as goal

abbrev pub invariant-loop-record : goal.invariant-loop-record
invariant-loop-record g l =
    (goal.iterator-loop-record g).can_next l.record-iterator
    × (goal.iterator-loop-record g).is_finite l.record-iterator
    × (IsPlainFormatter l.initial.f → (done : List ℕ) × HasWritten g.W.Write.write_str_gives l.initial.f done l.f
    × (done ++ lines l.before (entries_left l.record-iterator) ≡ lines no_counts (entries l.fn.self.0.now)))
    × (total l.before + length (entries_left l.record-iterator) ≤ length l.fn.self.0.now)
