use Rattle.std.proofs.Common.{◌≡◌, ℕ, ◌+◌, drop, Option}
use Rattle.tables.specs.Rows.{Held}
use Rattle.tables.specs.Staging.{aims_of}
use Rattle.tables.proofs.aims.check_aims.Given as goal

-- what is left of the list has the same first fault
abbrev pub invariant-loop-i : goal.invariant-loop-i
invariant-loop-i g l = (h : Held) → h.modules ≡ l.modules → (owner : g.row.R.Denot → Option ℕ) → aims_of h owner g.R.Aimed.entry (l.first + l.i) (drop l.i l.rows) ≡ aims_of h owner g.R.Aimed.entry l.first l.rows
