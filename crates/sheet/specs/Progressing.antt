-- What the checks of a sheet know between two fields.
use Rattle.std.specs.Prelude.{◌≡◌, ℕ, ◌+◌, ◌-◌, ◌<◌, Bool, false, cond, List, [], ◌∷◌, ◌++◌, map, length, Some, None, Ok, Err, Option, Result, ◌==◌, ◌≢◌, nat_le}
use Rattle.std.specs.List.{slice_get, list_any, AllByRecursion}
use Rattle.graph.specs.declared.fault.Reason.{Reason}
use Rattle.graph.specs.declared.fault.Reason.TheVariants.{NoRecord}
use Rattle.graph.specs.declared.records.Export.{Export}
use Rattle.graph.specs.declared.records.Import.{Import}
use Rattle.graph.specs.declared.records.Kind.{Kind}
use Rattle.graph.specs.Graphs.{Graph, no_records}
use Rattle.graph.specs.Entries.{Entry, a_name, a_module, a_star, an_import, an_export}
use Rattle.graph.specs.Lookups.{kind_of}
use Rattle.graph.specs.Opening.{Placed, latest}
use Rattle.graph.specs.Rules.{given_twice, is_es, star_aim}
use Rattle.sheet.specs.declared.fields.Fields.{Fields}
use Rattle.sheet.specs.declared.progress.Progress.{Progress}
use Rattle.sheet.specs.Opening.{gathered}
use Rattle.sheet.specs.Reading.{fields_left}

-- the graph with these names alone
abbrev pub named : List (List ℕ) → Graph
named names = record { names = names; modules = []; stars = []; imports = []; exports = [] }

-- these fields are these names
abbrev pub AreNames : List Placed → List (List ℕ) → Type 0
AreNames fields names = map (λ (x : Placed). x.content) fields ≡ map (λ name. Ok (a_name name)) names

-- the first of these fields, if there is one, is no name
abbrev pub NoNameFirst : List Placed → Type 0
NoNameFirst left = (x : Placed) (later : List Placed) (name : List ℕ) → left ≡ x ∷ later → x.content ≢ Ok (a_name name)

-- the names at the head of these fields are as many as this, and opening goes on with what is left
pub record Head (all : List Placed) (count : ℕ) (left : List Placed) : Type 0 where
  pub names : List (List ℕ)
  pub counted : length names ≡ count
  pub on : gathered (named names) left ≡ gathered no_records all
  pub other : NoNameFirst left

abbrev pub is_export : ℕ → Entry → Bool
is_export n (a_name bytes) = false
is_export n (a_module kind id) = false
is_export n (a_star target) = false
is_export n (an_import symbol target wanted) = false
is_export n (an_export name symbol) = name == n

abbrev pub is_import : ℕ → Entry → Bool
is_import s (a_name bytes) = false
is_import s (a_module kind id) = false
is_import s (a_star target) = false
is_import s (an_import symbol target wanted) = symbol == s
is_import s (an_export name symbol) = false

-- a record may not stand behind this one in a module: two exports of one name, two imports of one symbol
abbrev pub clash : Entry → Entry → Bool
clash (a_name bytes) earlier = false
clash (a_module kind id) earlier = false
clash (a_star target) earlier = false
clash (an_import symbol target wanted) earlier = is_import symbol earlier
clash (an_export name symbol) earlier = is_export name earlier

-- the same of what was read
abbrev pub clash_content : Entry → Result Entry Reason → Bool
clash_content e (Ok earlier) = clash e earlier
clash_content e (Err reason) = false

abbrev pub clashes : Entry → List Placed → Bool
clashes e fields = list_any (λ (x : Placed). clash_content e x.content) fields

abbrev pub latest_is_es : Progress → Bool
latest_is_es s = is_es (slice_get s.kinds.items (length s.kinds.items - 1))

-- what s counts is so of g
pub record Counted (s : Progress) (g : Graph) : Type 0 where
  pub names : length g.names ≡ s.names
  pub stars : length g.stars ≡ s.stars
  pub imports : length g.imports ≡ s.imports
  pub exports : length g.exports ≡ s.exports
  pub kinds : s.kinds.items ≡ map kind_of g.modules

-- of all fields, those before what is left come to g, and opening goes on from there
pub record Standing (all : List Placed) (s : Progress) (left : List Placed) (g : Graph) : Type 0 where
  pub counted : Counted s g
  -- the records of the latest module
  pub own : List Placed
  pub split : fields_left s.own ≡ own ++ left
  pub owned : length own ≡ s.owned
  pub twice : (e : Entry) → clashes e own ≡ given_twice g (latest g) e
  pub import_owners : AllByRecursion (λ (i : Import). i.owner < length g.modules) g.imports
  pub export_owners : AllByRecursion (λ (e : Export). e.owner < length g.modules) g.exports
  pub on : gathered g left ≡ gathered no_records all
  -- before the first module no name is left
  pub named : length g.modules ≡ 0 → NoNameFirst left

-- s has room for one record more
abbrev pub Roomy : Progress → Entry → Type 0
Roomy s (a_name bytes) = Unit {0}
Roomy s (a_module kind id) = length s.kinds.items < 256
Roomy s (a_star target) = s.stars < 1024
Roomy s (an_import symbol target wanted) = s.imports < 1024
Roomy s (an_export name symbol) = s.exports < 1024

-- t is s behind one record more
pub record Counts (s t : Progress) (stars imports exports : ℕ) (own : Fields) (owned : ℕ) (kinds : List Kind) : Type 0 where
  pub names : t.names ≡ s.names
  pub stars_are : t.stars ≡ stars
  pub imports_are : t.imports ≡ imports
  pub exports_are : t.exports ≡ exports
  pub own_is : t.own ≡ own
  pub owned_is : t.owned ≡ owned
  pub kinds_are : t.kinds.items ≡ kinds

-- t is s behind one record more, where the fields behind that are these
abbrev pub Advanced : Progress → Entry → Fields → Progress → Type 0
Advanced s (a_name bytes) behind t = Counts s t s.stars s.imports s.exports s.own s.owned s.kinds.items
Advanced s (a_module kind id) behind t = Counts s t s.stars s.imports s.exports behind 0 (s.kinds.items ++ (kind ∷ []))
Advanced s (a_star target) behind t = Counts s t (s.stars + 1) s.imports s.exports s.own (s.owned + 1) s.kinds.items
Advanced s (an_import symbol target wanted) behind t = Counts s t s.stars (s.imports + 1) s.exports s.own (s.owned + 1) s.kinds.items
Advanced s (an_export name symbol) behind t = Counts s t s.stars s.imports (s.exports + 1) s.own (s.owned + 1) s.kinds.items

-- the last checks of a record, where the modules have these kinds
abbrev pub aim_by : List Kind → Entry → Option Reason
aim_by kinds (a_name bytes) = None
aim_by kinds (a_module k id) = None
aim_by kinds (a_star target) = star_aim (slice_get kinds target)
aim_by kinds (an_import symbol target wanted) = cond (nat_le (length kinds) target) (Some NoRecord) None
aim_by kinds (an_export name symbol) = None
