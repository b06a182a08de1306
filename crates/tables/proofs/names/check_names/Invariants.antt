use Rattle.std.proofs.Common.{◌≡◌, map, take, drop, None}
use Rattle.graph.specs.Rules.{listed}
use Rattle.tables.specs.Spans.{bytes_in}
use Rattle.tables.specs.Rows.{no_owner, name_content, with_names}
use Rattle.tables.specs.Staging.{Passed}
use Rattle.tables.specs.Borrowed.{held}
use Rattle.tables.proofs.names.check_names.Given as goal

-- the names so far pass
abbrev pub invariant-names : goal.invariant-names
invariant-names l = Passed no_owner (name_content (held l.lists).bytes) (with_names (held l.lists)) 0 (take l.place l.names) × (l.repeated ≡ None)

-- and none of the earlier ones that were passed is equal
abbrev pub invariant-loop-earlier : goal.invariant-loop-earlier
invariant-loop-earlier l = (listed l.name (map (bytes_in l.run) (drop l.earlier-index l.earlier-items)) ≡ listed l.name (map (bytes_in l.run) (take l.place l.names))) × (l.repeated ≡ None)
