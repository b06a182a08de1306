-- The first fault, as a relation: the records in their order, then the names, then the targets.
use Rattle.std.specs.Prelude.{◌≡◌, ℕ, ◌<◌, List, ◌∷◌, ◌++◌, length, Ok, Err}
use Rattle.std.specs.List.{AllByRecursion}
use Rattle.graph.specs.declared.fault.Fault.{Fault}
use Rattle.graph.specs.declared.fault.Layer.{Layer}
use Rattle.graph.specs.declared.fault.Reason.{Reason}
use Rattle.graph.specs.declared.fault.Reason.TheVariants.{BadName}
use Rattle.graph.specs.Graphs.{Graph, no_records}
use Rattle.graph.specs.Entries.{Entry}
use Rattle.graph.specs.Rules.{Given, Smallest, aim_cases}
use Rattle.graph.specs.Opening.{Placed, entry_cases, fault_in, gathered}

-- x is one of the records, behind these
pub record Behind (xs before : List Placed) (x : Placed) : Type 0 where
  pub later : List Placed
  pub all : xs ≡ before ++ (x ∷ later)

-- the records before x pass and come to g
pub record Reached (layer : Layer) (xs : List Placed) (x : Placed) (g : Graph) : Type 0 where
  pub before : List Placed
  pub behind : Behind xs before x
  pub passed : gathered layer no_records before ≡ Ok g

-- no last check refuses the record
abbrev pub AimsWell : Graph → Placed → Type 0
AimsWell g x = (e : Entry) (r : Reason) → x.content ≡ Ok e → Given (aim_cases g e) r → ⊥

-- of records that end at `end`
pub data FirstFault (layer : Layer) (end : ℕ) (xs : List Placed) : Fault → Type 0 where
  -- the records before x pass, and x cannot be read
  unreadable : {x : Placed} {g : Graph} {r : Reason} → Reached layer xs x g → x.content ≡ Err r → FirstFault layer end xs (fault_in layer r x.place)
  -- the records before x pass, and x may not stand behind them
  misfit : {x : Placed} {g : Graph} {e : Entry} {r : Reason} → Reached layer xs x g → x.content ≡ Ok e → Smallest (entry_cases g x.owner e) r → FirstFault layer end xs (fault_in layer r x.place)
  -- all records pass, and there is no name
  nameless : {g : Graph} → gathered layer no_records xs ≡ Ok g → length g.names ≡ 0 → FirstFault layer end xs (fault_in layer BadName end)
  -- all records pass, there is a name, and x is the first that aims wrongly
  misaimed : {x : Placed} {g : Graph} {e : Entry} {r : Reason} {before : List Placed} → gathered layer no_records xs ≡ Ok g → 0 < length g.names → Behind xs before x → AllByRecursion (AimsWell g) before → x.content ≡ Ok e → Smallest (aim_cases g e) r → FirstFault layer end xs (fault_in layer r x.place)
