-- The questions that a graph answers.
use Rattle.std.specs.Prelude.{ℕ, cond, ◌&&◌, List, [], ◌∷◌, Some, None, filter, Option, ◌==◌, nat_eq}
use Rattle.std.specs.Option.{option_map}
use Rattle.std.specs.List.{slice_get}
use Rattle.graph.specs.declared.records.Kind.{Kind}
use Rattle.graph.specs.declared.records.Star.{Star}
use Rattle.graph.specs.declared.records.Import.{Import}
use Rattle.graph.specs.declared.records.Export.{Export}
use Rattle.graph.specs.Graphs.{Module}

abbrev pub kind_of : Module → Kind
kind_of m = m.kind

-- the kind of module m
abbrev pub kind_in : List Module → ℕ → Option Kind
kind_in modules m = option_map kind_of (slice_get modules m)

-- where the star records of module m aim, in their order
abbrev pub targets_in : List Star → ℕ → List ℕ
targets_in [] m = []
targets_in (s ∷ ss) m = cond (s.owner == m) (s.target ∷ targets_in ss m) (targets_in ss m)

-- the exports of module m, in their order
abbrev pub exports_in : List Export → ℕ → List Export
exports_in [] m = []
exports_in (e ∷ es) m = cond (e.owner == m) (e ∷ exports_in es m) (exports_in es m)

-- the symbol that module m exports under the name n
abbrev pub symbol_in : List Export → ℕ → ℕ → Option ℕ
symbol_in [] m n = None
symbol_in (e ∷ es) m n = cond (e.owner == m && e.name == n) (Some e.symbol) (symbol_in es m n)

-- the import behind symbol s of module m
abbrev pub import_in : List Import → ℕ → ℕ → Option Import
import_in [] m s = None
import_in (i ∷ is) m s = cond (i.owner == m && i.symbol == s) (Some i) (import_in is m s)

-- the elements that belong to m, in their order
abbrev pub owned_by : {X : Type 0} → (X → ℕ) → List X → ℕ → List X
owned_by owner xs m = filter (λ x. nat_eq (owner x) m) xs

-- the first element that belongs to m and has this key
abbrev pub first_keyed : {X : Type 0} → (X → ℕ) → (X → ℕ) → List X → ℕ → ℕ → Option X
first_keyed owner key [] m k = None
first_keyed owner key (x ∷ xs) m k = cond (owner x == m && key x == k) (Some x) (first_keyed owner key xs m k)

abbrev pub star_owner : Star → ℕ
star_owner s = s.owner

abbrev pub star_target : Star → ℕ
star_target s = s.target

abbrev pub import_owner : Import → ℕ
import_owner i = i.owner

abbrev pub import_symbol : Import → ℕ
import_symbol i = i.symbol

abbrev pub export_owner : Export → ℕ
export_owner e = e.owner

abbrev pub export_name : Export → ℕ
export_name e = e.name

abbrev pub export_symbol : Export → ℕ
export_symbol e = e.symbol
