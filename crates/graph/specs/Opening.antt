-- Opening: records are checked one by one, each behind those before it. They come to a graph, or to the first fault.
use Rattle.std.specs.Prelude.{ℕ, ◌-◌, Bool, false, cond, not, ◌||◌, List, [], ◌∷◌, length, Some, None, Ok, Err, Option, Result, ◌==◌, nat_le, nat_lt}
use Rattle.graph.specs.declared.fault.Fault.{Fault}
use Rattle.graph.specs.declared.fault.Layer.{Layer}
use Rattle.graph.specs.declared.fault.Reason.{Reason}
use Rattle.graph.specs.declared.fault.Reason.TheVariants.{OutOfOrder, BadName, OverLimit, NoRecord, Duplicate, WrongKind}
use Rattle.graph.specs.Graphs.{Graph, no_records, only_default}
use Rattle.graph.specs.Entries.{Entry, a_name, a_module, a_star, an_import, an_export, grown}
use Rattle.graph.specs.Lookups.{star_owner, import_owner, export_owner}
use Rattle.graph.specs.Rules.{misnamed, over_limit, unknown_name, given_twice, wrong_owner, Case, first_given, aim_refusal, placed, either_fault, unless, and_then}

-- a record to be checked: its place, its owner where one is written in it, and what it says or why it cannot be read
pub record Placed : Type 0 where
  pub place : ℕ
  pub owner : Option ℕ
  pub content : Result Entry Reason

-- the latest module, which owns the records behind it in which no owner is written
abbrev pub latest : Graph → ℕ
latest g = length g.modules - 1

abbrev pub owner_behind : Graph → Option ℕ → ℕ
owner_behind g None = latest g
owner_behind g (Some owner) = owner

-- an element of the list has a later owner than m
abbrev pub falls_behind : {X : Type 0} → (X → ℕ) → List X → ℕ → Bool
falls_behind owner [] m = false
falls_behind owner (x ∷ xs) m = nat_lt m (owner x) || falls_behind owner xs m

-- 12: owners fall in the list of the record, where the owner is written in it;
-- elsewhere a name stands behind a module, or a record that needs an owner before every module
abbrev pub misplaced : Graph → Option ℕ → Entry → Bool
misplaced g None (a_name bytes) = not (length g.modules == 0)
misplaced g None (a_module kind id) = false
misplaced g None (a_star target) = length g.modules == 0
misplaced g None (an_import symbol target wanted) = length g.modules == 0
misplaced g None (an_export name symbol) = length g.modules == 0
misplaced g (Some owner) (a_name bytes) = false
misplaced g (Some owner) (a_module kind id) = false
misplaced g (Some owner) (a_star target) = falls_behind star_owner g.stars owner
misplaced g (Some owner) (an_import symbol target wanted) = falls_behind import_owner g.imports owner
misplaced g (Some owner) (an_export name symbol) = falls_behind export_owner g.exports owner

-- 15: the number of the owner has no record
abbrev pub unknown_owner : Graph → Option ℕ → Bool
unknown_owner g None = false
unknown_owner g (Some owner) = nat_le (length g.modules) owner

-- why a record may be refused behind those of g, the smaller number first
abbrev pub entry_cases : Graph → Option ℕ → Entry → List Case
entry_cases g owner e =
    record { given = misplaced g owner e; reason = OutOfOrder }
    ∷ record { given = misnamed g e; reason = BadName }
    ∷ record { given = over_limit g e; reason = OverLimit }
    ∷ record { given = unknown_owner g owner || unknown_name g e; reason = NoRecord }
    ∷ record { given = given_twice g (owner_behind g owner) e; reason = Duplicate }
    ∷ record { given = wrong_owner g (owner_behind g owner) e; reason = WrongKind }
    ∷ []

-- why it is refused
abbrev pub entry_refusal : Graph → Option ℕ → Entry → Option Reason
entry_refusal g owner e = first_given (entry_cases g owner e)

-- the same of what was read, where 10 and 11 come first
abbrev pub content_refusal : Graph → Option ℕ → Result Entry Reason → Option Reason
content_refusal g owner (Err reason) = Some reason
content_refusal g owner (Ok e) = entry_refusal g owner e

-- g with what was read
abbrev pub with_content : Graph → Option ℕ → Result Entry Reason → Graph
with_content g owner (Err reason) = g
with_content g owner (Ok e) = grown g (owner_behind g owner) e

abbrev pub refusal : Graph → Placed → Option Reason
refusal g x = content_refusal g x.owner x.content

abbrev pub with_record : Graph → Placed → Graph
with_record g x = with_content g x.owner x.content

-- a fault of this layer
abbrev pub fault_in : Layer → Reason → ℕ → Fault
fault_in layer reason place = record { reason = reason; place = place; layer = layer }

-- record by record: g with the records, or the first fault among these
abbrev pub gathered : Layer → Graph → List Placed → Result Graph Fault
gathered layer g [] = Ok g
gathered layer g (x ∷ xs) = unless (placed layer (refusal g x) x.place) (gathered layer (with_record g x) xs)

-- the last checks of what was read, with the whole graph at hand, and then those of the later records
abbrev pub content_aim : Layer → Graph → ℕ → Result Entry Reason → Option Fault → Option Fault
content_aim layer g place (Err reason) later = None
content_aim layer g place (Ok e) later = either_fault (placed layer (aim_refusal g e) place) later

abbrev pub aims : Layer → Graph → List Placed → Option Fault
aims layer g [] = None
aims layer g (x ∷ xs) = content_aim layer g x.place x.content (aims layer g xs)

-- 13, behind the last record, which ends at `end`
abbrev pub no_name : Layer → ℕ → Graph → Option Fault
no_name layer end g = cond (length g.names == 0) (placed layer (Some BadName) end) None

-- the checks behind the last record
abbrev pub finished : Layer → ℕ → List Placed → Graph → Result Graph Fault
finished layer end xs g = unless (no_name layer end g) (unless (aims layer g xs) (Ok g))

abbrev pub opened : Layer → ℕ → List Placed → Result Graph Fault
opened layer end xs = and_then (gathered layer no_records xs) (finished layer end xs)

-- what a source means that is made from something refused
abbrev pub or_only_default : Result Graph Fault → Graph
or_only_default (Ok g) = g
or_only_default (Err f) = only_default
