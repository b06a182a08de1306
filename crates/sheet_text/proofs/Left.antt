-- The records of a sheet that are left to be gone through.
use Rattle.std.proofs.Common.{◌≡◌, ℕ, zero, suc, ◌≤◌, ltb, List, [], ◌∷◌, map, length, Ok, Err, Result, refl, ap, ◌∙◌, arith}
use Rattle.std.proofs.lemmas.Bool.{cond_both}
use Rattle.graph.specs.declared.fault.Reason.{Reason}
use Rattle.graph.specs.Entries.{Entry}
use Rattle.sheet.specs.declared.records.Records.{Records}
use Rattle.sheet.specs.Fields.{next_at, field_at}
use Rattle.sheet.specs.Opening.{entry_then, entries_of, fields_from, fields_at, entries}
use Rattle.sheet.specs.Owning.{Owned, modules_after, owned, records_left}
use Rattle.sheet.specs.Reading.{readable, fields_left}

-- what they say, without their owners
abbrev pub entries_left : Records → List Entry
entries_left s = map (λ (r : Owned). r.entry) (records_left s)

without_owners : (modules : ℕ) (es : List Entry) → map (λ (r : Owned). r.entry) (owned modules es) ≡ es
without_owners modules [] = refl
without_owners modules (e ∷ es) = ap (λ later. e ∷ later) (without_owners (modules_after modules e) es)

-- before the first step these are all
pub all_left : (s t : Records) (bytes : List ℕ) → t ≡ s → (records_left s ≡ owned 0 (entries bytes)) × (fields_left s.fields ≡ readable (fields_at bytes 0)) → entries_left t ≡ entries bytes
all_left s t bytes same of = ap entries_left same ∙ ap (map (λ (r : Owned). r.entry)) of.0 ∙ without_owners 0 (entries bytes)

few_then : (content : Result Entry Reason) (later : List Entry) (n : ℕ) → length later ≤ n → length (entry_then content later) ≤ suc n
few_then (Ok e) later n few = omega arith
few_then (Err reason) later n few = omega arith

few_from : (steps : ℕ) (bytes : List ℕ) (p : ℕ) → length (entries_of (fields_from steps bytes p)) ≤ steps
few_from zero bytes p = omega arith
few_from (suc steps) bytes p = cond_both (ltb p (length bytes)) _ _ (λ fs. length (entries_of fs) ≤ suc steps) (λ _. few_then (field_at bytes p) _ steps (few_from steps bytes (next_at bytes p))) (λ _. omega arith)

-- no more records than bytes
pub few : (bytes : List ℕ) → length (entries bytes) ≤ length bytes
few bytes = few_from (length bytes) bytes 0
