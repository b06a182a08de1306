-- Opening needs no field behind the first that cannot be read.
use Rattle.std.proofs.Common.{◌≡◌, ℕ, cond, List, [], ◌∷◌, is_ok, Ok, Err, Result, refl, ap}
use Rattle.graph.specs.declared.fault.Reason.{Reason}
use Rattle.graph.specs.declared.fault.Layer.TheVariants as layer
use Rattle.graph.specs.Graphs.{Graph}
use Rattle.graph.specs.Entries.{Entry, grown}
use Rattle.graph.specs.Rules.{aim_refusal, placed, either_fault, unless}
use Rattle.graph.specs.Opening.{Placed, content_refusal, with_content, content_aim, owner_behind}
use Rattle.sheet.specs.Opening.{entry_then, entries_of, gathered, aims}
use Rattle.sheet.specs.Reading.{readable}

gathered_by : (g : Graph) (x : Placed) (content : Result Entry Reason) (later read : List Placed) → ((h : Graph) → gathered h read ≡ gathered h later) → unless (placed layer.Sheet (content_refusal g x.owner content) x.place) (gathered (with_content g x.owner content) (cond (is_ok content) read [])) ≡ unless (placed layer.Sheet (content_refusal g x.owner content) x.place) (gathered (with_content g x.owner content) later)
gathered_by g x (Ok e) later read same = ap (unless (placed layer.Sheet (content_refusal g x.owner (Ok e)) x.place)) (same (grown g (owner_behind g x.owner) e))
gathered_by g x (Err reason) later read same = refl

pub gathered_readable : (g : Graph) (xs : List Placed) → gathered g (readable xs) ≡ gathered g xs
gathered_readable g [] = refl
gathered_readable g (x ∷ xs) = gathered_by g x x.content xs (readable xs) (λ h. gathered_readable h xs)

aims_by : (g : Graph) (place : ℕ) (content : Result Entry Reason) (later read : List Placed) → aims g read ≡ aims g later → content_aim layer.Sheet g place content (aims g (cond (is_ok content) read [])) ≡ content_aim layer.Sheet g place content (aims g later)
aims_by g place (Ok e) later read same = ap (either_fault (placed layer.Sheet (aim_refusal g e) place)) same
aims_by g place (Err reason) later read same = refl

pub aims_readable : (g : Graph) (xs : List Placed) → aims g (readable xs) ≡ aims g xs
aims_readable g [] = refl
aims_readable g (x ∷ xs) = aims_by g x.place x.content xs (readable xs) (aims_readable g xs)

entries_by : (content : Result Entry Reason) (later read : List Placed) → entries_of read ≡ entries_of later → entry_then content (entries_of (cond (is_ok content) read [])) ≡ entry_then content (entries_of later)
entries_by (Ok e) later read same = ap (λ es. e ∷ es) same
entries_by (Err reason) later read same = refl

pub entries_readable : (xs : List Placed) → entries_of (readable xs) ≡ entries_of xs
entries_readable [] = refl
entries_readable (x ∷ xs) = entries_by x.content xs (readable xs) (entries_readable xs)
