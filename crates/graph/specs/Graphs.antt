-- A module graph: five lists of records, in the order in which they are written.
use Rattle.std.specs.Prelude.{ℕ, List, [], ◌∷◌, codes}
use Rattle.graph.specs.declared.records.Kind.{Kind}
use Rattle.graph.specs.declared.records.Star.{Star}
use Rattle.graph.specs.declared.records.Import.{Import}
use Rattle.graph.specs.declared.records.Export.{Export}

-- a module: what it is, and the bytes of its id
pub record Module : Type 0 where
  pub kind : Kind
  pub id : List ℕ

-- names are byte strings; a name, a module or an import is numbered by its place from 0
pub record Graph : Type 0 where
  pub names : List (List ℕ)
  pub modules : List Module
  pub stars : List Star
  pub imports : List Import
  pub exports : List Export

-- the name that number 0 must have
abbrev pub default_name : List ℕ
default_name = codes "default"

-- the graph with no record
abbrev pub no_records : Graph
no_records = record { names = []; modules = []; stars = []; imports = []; exports = [] }

-- what a source means that is made from something refused: the name `default` and no module
abbrev pub only_default : Graph
only_default = record { names = default_name ∷ []; modules = []; stars = []; imports = []; exports = [] }
