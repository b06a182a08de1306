-- From one field of a sheet to the next.
use Rattle.std.proofs.Common.{◌≡◌, ℕ, zero, suc, ◌+◌, ◌<◌, ◌≤◌, cond, ltb, List, [], ◌∷◌, length, Some, None, Ok, Err, Result, sym, refl, ap, ◌∙◌, arith}
use Rattle.std.proofs.lemmas.Bool.{cond-true, cond-false, lt-ltb, le-ltb}
use Rattle.graph.specs.declared.fault.Layer.TheVariants as layer
use Rattle.graph.specs.declared.fault.Reason.{Reason}
use Rattle.graph.specs.Graphs.{Graph}
use Rattle.graph.specs.Entries.{Entry, grown}
use Rattle.graph.specs.Rules.{placed, unless}
use Rattle.graph.specs.Opening.{Placed, latest, with_content}
use Rattle.sheet.specs.Fields.{next_at, fault_at}
use Rattle.sheet.specs.Opening.{placed_at, fields_from, fields_at, entry_refusal, field_refusal, gathered}

fields_none : (steps : ℕ) (bytes : List ℕ) (p : ℕ) → length bytes ≤ p → fields_from steps bytes p ≡ []
fields_none zero bytes p h = refl
fields_none (suc steps) bytes p h = cond-false _ _ _ (le-ltb p (length bytes) h)

-- more steps than are needed do not show
steps_enough : (m n : ℕ) (bytes : List ℕ) (p : ℕ) → length bytes ≤ p + m → length bytes ≤ p + n → fields_from m bytes p ≡ fields_from n bytes p
steps_enough zero n bytes p h k = sym (fields_none n bytes p (omega arith))
steps_enough (suc m) zero bytes p h k = fields_none (suc m) bytes p (omega arith)
steps_enough (suc m) (suc n) bytes p h k = ap (λ fs. cond (ltb p (length bytes)) (placed_at bytes p ∷ fs) []) (steps_enough m n bytes (next_at bytes p) (omega arith) (omega arith))

pub fields_done : (bytes : List ℕ) (p : ℕ) → length bytes ≤ p → fields_at bytes p ≡ []
fields_done bytes p h = fields_none (length bytes) bytes p h

pub fields_more : (bytes : List ℕ) (p : ℕ) → p < length bytes → fields_at bytes p ≡ placed_at bytes p ∷ fields_at bytes (next_at bytes p)
fields_more bytes p h = steps_enough (length bytes) (suc (length bytes)) bytes p (omega arith) (omega arith) ∙ cond-true _ _ _ (lt-ltb p (length bytes) h)

-- a field that says this
abbrev pub field : ℕ → Result Entry Reason → Placed
field place content = record { place = place; owner = None; content = content }

-- opening goes past a record that is not refused
pub gathered_on : (g : Graph) (place : ℕ) (e : Entry) (later : List Placed) → entry_refusal g e ≡ None → gathered g (field place (Ok e) ∷ later) ≡ gathered (grown g (latest g) e) later
gathered_on g place e later none = ap (λ r. unless (placed layer.Sheet r place) (gathered (grown g (latest g) e) later)) none

-- and ends at a field that is
pub gathered_stop : (g : Graph) (place : ℕ) (content : Result Entry Reason) (later : List Placed) (reason : Reason) → field_refusal g content ≡ Some reason → gathered g (field place content ∷ later) ≡ Err (fault_at reason place)
gathered_stop g place content later reason refused = ap (λ r. unless (placed layer.Sheet r place) (gathered (with_content g None content) later)) refused
