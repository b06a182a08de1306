use Rattle.std.proofs.Common.{◌+◌, ◌≤◌}
use Rattle.std.specs.Io.Iter.{lines_left, lines_known_bytes}
use Rattle.case_list.proofs.Tallying.{TallyingKnown}
use Rattle.case_list.proofs.replay.replay.Given as goal

-- no more cases than lines, and the tally so far
abbrev pub invariant-loop-line : goal.invariant-loop-line
invariant-loop-line g l =
    (l.tally.cases + lines_left l.line-iterator ≤ lines_left l.initial.line-iterator) ×
    TallyingKnown g.S.Subject.gives (g.L.Read.remaining l.fn.list) (lines_known_bytes g.L.Read.remaining l.line-iterator) l.tally.cases l.tally.wrong
