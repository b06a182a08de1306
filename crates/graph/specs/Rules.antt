-- The rules behind the refusals that sheets and tables share: each number's case is a test over the graph so far,
-- the record's owner and the record.
use Rattle.std.specs.Prelude.{◌≡◌, ℕ, ◌≤◌, Bool, true, false, cond, not, ◌&&◌, ◌||◌, List, [], ◌∷◌, length, is_some, Some, None, Ok, Err, Option, Result, MatchResult, ◌==◌, nat_le}
use mathlib.Core.List.{Memᴰ}
use Rattle.std.specs.Str.{bytes_eq}
use Rattle.graph.specs.declared.records.Kind.{Kind}
use Rattle.graph.specs.declared.records.Kind.TheVariants as kind
use Rattle.graph.specs.declared.records.UnknownKind.{UnknownKind}
use Rattle.graph.specs.declared.records.Wanted.{Wanted}
use Rattle.graph.specs.declared.records.Wanted.TheVariants.{Name, Whole}
use Rattle.graph.specs.declared.fault.Fault.{Fault}
use Rattle.graph.specs.declared.fault.Layer.{Layer}
use Rattle.graph.specs.declared.fault.Reason.{Reason}
use Rattle.graph.specs.declared.fault.Reason.TheVariants.{Malformed, OutOfOrder, OverLimit, NoRecord, Duplicate, WrongKind}
use Rattle.graph.specs.Faults.{reason_number}
use Rattle.graph.specs.Graphs.{Graph, default_name}
use Rattle.graph.specs.Lookups.{kind_in, symbol_in, import_in}
use Rattle.graph.specs.Entries.{Entry, a_name, a_module, a_star, an_import, an_export}

-- the limits
abbrev pub most_names : ℕ
most_names = 1024

abbrev pub most_modules : ℕ
most_modules = 256

-- of star records, of imports and of exports
abbrev pub most_records : ℕ
most_records = 1024

-- between low and high bytes
abbrev pub sized : ℕ → ℕ → List ℕ → Bool
sized low high bytes = nat_le low (length bytes) && nat_le (length bytes) high

abbrev pub name_sized : List ℕ → Bool
name_sized bytes = sized 1 255 bytes

abbrev pub id_sized : List ℕ → Bool
id_sized bytes = sized 1 64 bytes

-- the kind with this number
abbrev pub kind_numbered : ℕ → Option Kind
kind_numbered n = cond (n == 0) (Some kind.Es) (cond (n == 1) (Some kind.External) (cond (n == 2) (Some kind.Empty) None))

-- the answer is the kind with this number, or an error with the number where no kind has it
abbrev pub KindNumbered : ℕ → Result Kind UnknownKind → Type 0
KindNumbered n r = MatchResult r (λ k. kind_numbered n ≡ Some k) (λ e. (kind_numbered n ≡ None) × (e.0 ≡ n))

-- what an import with this name number wants
abbrev pub wanted_numbered : ℕ → Wanted
wanted_numbered n = cond (n == 65535) Whole (Name n)

-- a byte string stands in a list
abbrev pub listed : List ℕ → List (List ℕ) → Bool
listed bytes [] = false
listed bytes (x ∷ xs) = bytes_eq bytes x || listed bytes xs

-- 13: the first name is not `default`, or a name equals an earlier one
abbrev pub wrong_name : List (List ℕ) → List ℕ → Bool
wrong_name [] bytes = not (bytes_eq bytes default_name)
wrong_name (x ∷ xs) bytes = listed bytes (x ∷ xs)

abbrev pub misnamed : Graph → Entry → Bool
misnamed g (a_name bytes) = wrong_name g.names bytes
misnamed g (a_module k id) = false
misnamed g (a_star target) = false
misnamed g (an_import symbol target wanted) = false
misnamed g (an_export name symbol) = false

-- 14: there are as many records of its sort already as there may be
abbrev pub over_limit : Graph → Entry → Bool
over_limit g (a_name bytes) = nat_le most_names (length g.names)
over_limit g (a_module k id) = nat_le most_modules (length g.modules)
over_limit g (a_star target) = nat_le most_records (length g.stars)
over_limit g (an_import symbol target wanted) = nat_le most_records (length g.imports)
over_limit g (an_export name symbol) = nat_le most_records (length g.exports)

-- what is wanted is a name that has no record
abbrev pub wants_unknown : ℕ → Wanted → Bool
wants_unknown names (Name n) = nat_le names n
wants_unknown names Whole = false

-- 15: a name number has no record
abbrev pub unknown_name : Graph → Entry → Bool
unknown_name g (a_name bytes) = false
unknown_name g (a_module k id) = false
unknown_name g (a_star target) = false
unknown_name g (an_import symbol target wanted) = wants_unknown (length g.names) wanted
unknown_name g (an_export name symbol) = nat_le (length g.names) name

-- 16: the owner exports this name already, or has an import of this symbol already
abbrev pub given_twice : Graph → ℕ → Entry → Bool
given_twice g owner (a_name bytes) = false
given_twice g owner (a_module k id) = false
given_twice g owner (a_star target) = false
given_twice g owner (an_import symbol target wanted) = is_some (import_in g.imports owner symbol)
given_twice g owner (an_export name symbol) = is_some (symbol_in g.exports owner name)

abbrev pub is_es : Option Kind → Bool
is_es (Some kind.Es) = true
is_es (Some kind.External) = false
is_es (Some kind.Empty) = false
is_es None = false

abbrev pub is_external : Option Kind → Bool
is_external (Some kind.Es) = false
is_external (Some kind.External) = true
is_external (Some kind.Empty) = false
is_external None = false

-- 17: the owner of a record is no ES module
abbrev pub wrong_owner : Graph → ℕ → Entry → Bool
wrong_owner g owner (a_name bytes) = false
wrong_owner g owner (a_module k id) = false
wrong_owner g owner (a_star target) = not (is_es (kind_in g.modules owner))
wrong_owner g owner (an_import symbol target wanted) = not (is_es (kind_in g.modules owner))
wrong_owner g owner (an_export name symbol) = not (is_es (kind_in g.modules owner))

-- the last checks, over the whole graph: 15 where a target has no record, 17 where a star record aims at an external module
abbrev pub unknown_target : Graph → Entry → Bool
unknown_target g (a_name bytes) = false
unknown_target g (a_module k id) = false
unknown_target g (a_star target) = nat_le (length g.modules) target
unknown_target g (an_import symbol target wanted) = nat_le (length g.modules) target
unknown_target g (an_export name symbol) = false

abbrev pub external_target : Graph → Entry → Bool
external_target g (a_name bytes) = false
external_target g (a_module k id) = false
external_target g (a_star target) = is_external (kind_in g.modules target)
external_target g (an_import symbol target wanted) = false
external_target g (an_export name symbol) = false

-- a reason, and whether it is the case
pub record Case : Type 0 where
  pub given : Bool
  pub reason : Reason

-- the reason of the first case that is given
abbrev pub first_given : List Case → Option Reason
first_given [] = None
first_given (c ∷ cs) = cond c.given (Some c.reason) (first_given cs)

-- the case of r is one of cs, and given
abbrev pub Given : List Case → Reason → Type 0
Given cs r = Memᴰ (record { given = true; reason = r }) cs

-- r has the smallest number of those whose case is given
pub record Smallest (cs : List Case) (r : Reason) : Type 0 where
  pub there : Given cs r
  pub least : (s : Reason) → Given cs s → reason_number r ≤ reason_number s

-- the last checks of one record, the smaller number first
abbrev pub aim_cases : Graph → Entry → List Case
aim_cases g e =
    record { given = unknown_target g e; reason = NoRecord }
    ∷ record { given = external_target g e; reason = WrongKind }
    ∷ []

abbrev pub aim_refusal : Graph → Entry → Option Reason
aim_refusal g e = first_given (aim_cases g e)

-- a refusal, if there is one, as a fault at its place
abbrev pub placed : Layer → Option Reason → ℕ → Option Fault
placed layer None place = None
placed layer (Some reason) place = Some (record { reason = reason; place = place; layer = layer })

-- the first of two faults, if there is one
abbrev pub either_fault : Option Fault → Option Fault → Option Fault
either_fault (Some f) later = Some f
either_fault None later = later

-- a fault ends what would come to r
abbrev pub unless : {A : Type 0} → Option Fault → Result A Fault → Result A Fault
unless (Some f) r = Err f
unless None r = r

-- what follows where nothing was refused so far
abbrev pub and_then : {A B : Type 0} → Result A Fault → (A → Result B Fault) → Result B Fault
and_then (Ok x) next = next x
and_then (Err f) next = Err f

abbrev pub kind_number : Kind → ℕ
kind_number kind.Es = 0
kind_number kind.External = 1
kind_number kind.Empty = 2

abbrev pub wanted_number : Wanted → ℕ
wanted_number (Name n) = n
wanted_number Whole = 65535

-- a name with these bytes
abbrev pub name_entry : List ℕ → Result Entry Reason
name_entry bytes = cond (name_sized bytes) (Ok (a_name bytes)) (Err Malformed)

-- a module with this kind, and with a kind of this number
abbrev pub of_kind : Option Kind → List ℕ → Result Entry Reason
of_kind None id = Err Malformed
of_kind (Some k) id = Ok (a_module k id)

abbrev pub module_entry : ℕ → List ℕ → Result Entry Reason
module_entry number id = cond (id_sized id) (of_kind (kind_numbered number) id) (Err Malformed)

-- why a record that needs an owner is refused, where there are so many of its sort
abbrev pub owned_refusal : Bool → ℕ → Bool → Bool → Bool → Option Reason
owned_refusal misplaced count unknown twice es =
    cond misplaced (Some OutOfOrder)
    (cond (nat_le most_records count) (Some OverLimit)
    (cond unknown (Some NoRecord)
    (cond twice (Some Duplicate)
    (cond (not es) (Some WrongKind)
    None))))

-- why a star record is refused that aims at a module of this kind
abbrev pub star_aim : Option Kind → Option Reason
star_aim None = Some NoRecord
star_aim (Some kind.Es) = None
star_aim (Some kind.External) = Some WrongKind
star_aim (Some kind.Empty) = None
