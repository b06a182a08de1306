-- What is known of every graph that opens.
use Rattle.std.specs.Prelude.{◌≡◌, ℕ, ◌<◌, ◌≤◌, List, [], ◌∷◌, length, Some, ◌≢◌}
use Rattle.std.specs.List.{slice_get, AllByRecursion}
use Rattle.graph.specs.declared.records.Kind.TheVariants as kind
use Rattle.graph.specs.declared.records.Wanted.{Wanted}
use Rattle.graph.specs.declared.records.Wanted.TheVariants.{Name, Whole}
use Rattle.graph.specs.declared.records.Star.{Star}
use Rattle.graph.specs.declared.records.Import.{Import}
use Rattle.graph.specs.declared.records.Export.{Export}
use Rattle.graph.specs.Graphs.{Graph, Module, default_name}
use Rattle.graph.specs.Lookups.{kind_in}

-- each element stands to each later one as R says
abbrev pub Pairwise : {X : Type 0} → (X → X → Type 0) → List X → Type 0
Pairwise R [] = Unit {0}
Pairwise R (x ∷ xs) = AllByRecursion (R x) xs × Pairwise R xs

-- between low and high bytes
abbrev pub Sized : ℕ → ℕ → List ℕ → Type 0
Sized low high bytes = (low ≤ length bytes) × (length bytes ≤ high)

-- owners do not fall
abbrev pub Rising : {X : Type 0} → (X → ℕ) → List X → Type 0
Rising owner xs = Pairwise (λ a b. owner a ≤ owner b) xs

-- module m is there, and an ES module
abbrev pub EsModule : Graph → ℕ → Type 0
EsModule g m = kind_in g.modules m ≡ Some kind.Es

-- module m is there, and not external
abbrev pub NotExternal : Graph → ℕ → Type 0
NotExternal g m = (m < length g.modules) × (kind_in g.modules m ≢ Some kind.External)

-- what is wanted is the whole namespace, or a name with a record
abbrev pub Known : Graph → Wanted → Type 0
Known g (Name n) = n < length g.names
Known g Whole = Unit {0}

abbrev pub OtherExport : Export → Export → Type 0
OtherExport a b = a.owner ≡ b.owner → a.name ≢ b.name

abbrev pub OtherImport : Import → Import → Type 0
OtherImport a b = a.owner ≡ b.owner → a.symbol ≢ b.symbol

pub record Sound (g : Graph) : Type 0 where
  -- sizes and limits
  pub name_sizes : AllByRecursion (Sized 1 255) g.names
  pub id_sizes : AllByRecursion (λ (m : Module). Sized 1 64 m.id) g.modules
  pub name_limit : length g.names ≤ 1024
  pub module_limit : length g.modules ≤ 256
  pub star_limit : length g.stars ≤ 1024
  pub import_limit : length g.imports ≤ 1024
  pub export_limit : length g.exports ≤ 1024
  -- name 0 is `default`, and no two names are equal
  pub first_name : slice_get g.names 0 ≡ Some default_name
  pub names_differ : Pairwise (λ a b. a ≢ b) g.names
  -- the records of a module stand together, and modules in their order
  pub stars_rise : Rising (λ (s : Star). s.owner) g.stars
  pub imports_rise : Rising (λ (i : Import). i.owner) g.imports
  pub exports_rise : Rising (λ (e : Export). e.owner) g.exports
  -- only ES modules own records
  pub star_owners : AllByRecursion (λ (s : Star). EsModule g s.owner) g.stars
  pub import_owners : AllByRecursion (λ (i : Import). EsModule g i.owner) g.imports
  pub export_owners : AllByRecursion (λ (e : Export). EsModule g e.owner) g.exports
  -- each number has its record, and no star record aims at an external module
  pub star_targets : AllByRecursion (λ (s : Star). NotExternal g s.target) g.stars
  pub import_targets : AllByRecursion (λ (i : Import). i.target < length g.modules) g.imports
  pub import_names : AllByRecursion (λ (i : Import). Known g i.wanted) g.imports
  pub export_names : AllByRecursion (λ (e : Export). e.name < length g.names) g.exports
  -- a module exports a name once, and has one import of a symbol
  pub exports_differ : Pairwise OtherExport g.exports
  pub imports_differ : Pairwise OtherImport g.imports
