use Rattle.std.proofs.Common.{take}
use Rattle.tables.specs.Staging.{Passed}
use Rattle.tables.specs.Borrowed.{held}
use Rattle.tables.proofs.checks.check_rows.Given as goal

-- the records so far pass
abbrev pub invariant-loop-i : goal.invariant-loop-i
invariant-loop-i g l = Passed g.R.Row.writes (g.R.Row.content (held l.lists).bytes) (g.R.Row.stage (held l.lists)) l.first (take l.i l.rows)
