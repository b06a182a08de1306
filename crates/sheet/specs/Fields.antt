-- The fields of a sheet: one byte of tag, two bytes of length, then the payload.
use Rattle.std.specs.Prelude.{ℕ, ◌+◌, ◌*◌, cond, List, length, take, drop, Ok, Err, Result, ◌==◌, nat_lt, slice_index}
use Rattle.graph.specs.declared.fault.Fault.{Fault}
use Rattle.graph.specs.declared.fault.Layer.TheVariants as layer
use Rattle.graph.specs.declared.fault.Reason.{Reason}
use Rattle.graph.specs.declared.fault.Reason.TheVariants.{BadLength, Malformed}
use Rattle.graph.specs.Entries.{Entry, a_star, an_import, an_export}
use Rattle.graph.specs.Rules.{name_entry, module_entry, wanted_numbered}
use Rattle.graph.specs.Opening.{fault_in}

-- a fault of a sheet
abbrev pub fault_at : Reason → ℕ → Fault
fault_at reason place = fault_in layer.Sheet reason place

-- the number in two bytes, the higher byte first
abbrev pub two : List ℕ → ℕ → ℕ
two bytes p = slice_index bytes p * 256 + slice_index bytes (p + 1)

-- tag 2: a module, its kind byte and its id
abbrev pub as_module : List ℕ → Result Entry Reason
as_module payload = module_entry (slice_index payload 0) (drop 1 payload)

-- tag 3: a star record, its target
abbrev pub as_star : List ℕ → Result Entry Reason
as_star payload = cond (length payload == 2) (Ok (a_star (two payload 0))) (Err Malformed)

-- tag 4: an import, its symbol, its target and its name number
abbrev pub as_import : List ℕ → Result Entry Reason
as_import payload = cond (length payload == 6) (Ok (an_import (two payload 0) (two payload 2) (wanted_numbered (two payload 4)))) (Err Malformed)

-- tag 5: an export, its name number and its symbol
abbrev pub as_export : List ℕ → Result Entry Reason
as_export payload = cond (length payload == 4) (Ok (an_export (two payload 0) (two payload 2))) (Err Malformed)

-- by its tag, where tag 1 is a name
abbrev pub content : ℕ → List ℕ → Result Entry Reason
content tag payload =
    cond (tag == 1) (name_entry payload)
    (cond (tag == 2) (as_module payload)
    (cond (tag == 3) (as_star payload)
    (cond (tag == 4) (as_import payload)
    (cond (tag == 5) (as_export payload)
    (Err Malformed)))))

-- where the field behind the one at p begins
abbrev pub next_at : List ℕ → ℕ → ℕ
next_at bytes p = p + 3 + two bytes (p + 1)

abbrev pub payload_at : List ℕ → ℕ → List ℕ
payload_at bytes p = take (two bytes (p + 1)) (drop (p + 3) bytes)

-- the field that begins at p: cut short where the sheet ends before its header or its payload does
abbrev pub field_at : List ℕ → ℕ → Result Entry Reason
field_at bytes p =
    cond (nat_lt (length bytes) (p + 3)) (Err BadLength)
    (cond (nat_lt (length bytes) (next_at bytes p)) (Err BadLength)
    (content (slice_index bytes p) (payload_at bytes p)))
