-- A record by itself, and a graph that grows by one.
use Rattle.std.specs.Prelude.{ℕ, List, [], ◌∷◌, ◌++◌}
use Rattle.graph.specs.declared.records.Kind.{Kind}
use Rattle.graph.specs.declared.records.Wanted.{Wanted}
use Rattle.graph.specs.Graphs.{Graph}

-- a record without its owner: a name; a module's kind and id; a star record's target;
-- an import's symbol, target and what it wants; an export's name and symbol
pub data Entry : Type 0 where
  a_name : List ℕ → Entry
  a_module : Kind → List ℕ → Entry
  a_star : ℕ → Entry
  an_import : ℕ → ℕ → Wanted → Entry
  an_export : ℕ → ℕ → Entry

-- the graph with one record more, behind the others; it belongs to `owner`, unless it is a name or a module
abbrev pub grown : Graph → ℕ → Entry → Graph
grown g owner (a_name bytes) = record { names = g.names ++ (bytes ∷ []); modules = g.modules; stars = g.stars; imports = g.imports; exports = g.exports }
grown g owner (a_module kind id) = record { names = g.names; modules = g.modules ++ (record { kind = kind; id = id } ∷ []); stars = g.stars; imports = g.imports; exports = g.exports }
grown g owner (a_star target) = record { names = g.names; modules = g.modules; stars = g.stars ++ (record { owner = owner; target = target } ∷ []); imports = g.imports; exports = g.exports }
grown g owner (an_import symbol target wanted) = record { names = g.names; modules = g.modules; stars = g.stars; imports = g.imports ++ (record { owner = owner; symbol = symbol; target = target; wanted = wanted } ∷ []); exports = g.exports }
grown g owner (an_export name symbol) = record { names = g.names; modules = g.modules; stars = g.stars; imports = g.imports; exports = g.exports ++ (record { owner = owner; name = name; symbol = symbol } ∷ []) }
