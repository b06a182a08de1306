-- How kinds, and what imports want, are shown.
use Rattle.std.specs.Prelude.{ℕ, List, ◌++◌, codes, decimal}
use Rattle.graph.specs.declared.records.Kind.{Kind}
use Rattle.graph.specs.declared.records.Kind.TheVariants.{Es, External, Empty}
use Rattle.graph.specs.declared.records.UnknownKind.{UnknownKind}
use Rattle.graph.specs.declared.records.Wanted.{Wanted}
use Rattle.graph.specs.declared.records.Wanted.TheVariants.{Name, Whole}

-- how a kind is written
abbrev pub kind_name : Kind → List ℕ
kind_name Es = codes "ES"
kind_name External = codes "external"
kind_name Empty = codes "empty"

abbrev pub unknown_kind_text : UnknownKind → List ℕ
unknown_kind_text e = codes "no kind has number " ++ decimal e.0

-- what an import takes: a name, or the whole namespace
abbrev pub wanted_text : Wanted → List ℕ
wanted_text (Name n) = codes "name " ++ decimal n
wanted_text Whole = codes "all"
