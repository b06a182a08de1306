-- How many records of each sort there are.
use Rattle.std.specs.Prelude.{ℕ, ◌+◌, List, [], ◌∷◌}
use Rattle.graph.specs.Entries.{Entry, a_name, a_module, a_star, an_import, an_export}
use Rattle.sheet_text.specs.declared.counts.Counts.{Counts}

-- before the first record
abbrev pub no_counts : Counts
no_counts = record { names = 0; modules = 0; stars = 0; imports = 0; exports = 0 }

-- the counts behind one record more
abbrev pub counts_after : Counts → Entry → Counts
counts_after before (a_name bytes) = record { names = before.names + 1; modules = before.modules; stars = before.stars; imports = before.imports; exports = before.exports }
counts_after before (a_module kind id) = record { names = before.names; modules = before.modules + 1; stars = before.stars; imports = before.imports; exports = before.exports }
counts_after before (a_star target) = record { names = before.names; modules = before.modules; stars = before.stars + 1; imports = before.imports; exports = before.exports }
counts_after before (an_import symbol target wanted) = record { names = before.names; modules = before.modules; stars = before.stars; imports = before.imports + 1; exports = before.exports }
counts_after before (an_export name symbol) = record { names = before.names; modules = before.modules; stars = before.stars; imports = before.imports; exports = before.exports + 1 }

-- and behind several
abbrev pub counted : Counts → List Entry → Counts
counted before [] = before
counted before (e ∷ es) = counted (counts_after before e) es

-- the number of all records
abbrev pub total : Counts → ℕ
total counts = counts.names + counts.modules + counts.stars + counts.imports + counts.exports
