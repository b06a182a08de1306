-- Why a record of each list is refused, by what the lists hold.
use Rattle.std.proofs.Common.{◌≡◌, ℕ, ◌+◌, ◌≤◌, Bool, false, ◌||◌, leb, List, [], ◌∷◌, ◌++◌, map, length, is_some, None, Ok, Option, Result, sym, ap, ◌∙◌, subst, append_assoc}
use Rattle.std.proofs.lemmas.List.{length-map, append-nil}
use Rattle.graph.proofs.Keyed.{symbol_keyed}
use Rattle.graph.specs.declared.fault.Layer.TheVariants as layer
use Rattle.graph.specs.declared.fault.Reason.{Reason}
use Rattle.graph.specs.declared.records.Star.{Star}
use Rattle.graph.specs.declared.records.Export.{Export}
use Rattle.graph.specs.Graphs.{Graph}
use Rattle.graph.specs.Entries.{Entry}
use Rattle.graph.specs.Lookups.{first_keyed, star_owner, import_owner, import_symbol, export_owner, export_name, export_symbol, kind_in}
use Rattle.graph.specs.Rules.{owned_refusal, is_es, wants_unknown, wanted_numbered}
use Rattle.graph.specs.Opening.{falls_behind, content_refusal, gathered}
use Rattle.graph.specs.Soundness.{Rising}
use Rattle.graph.proofs.Pushing.{cond_none, pairwise_push}
use Rattle.graph.proofs.Soundly.{none_later}
use Rattle.tables.specs.declared.lists.ImportRow.{ImportRow}
use Rattle.tables.specs.Spans.{bytes_in}
use Rattle.tables.specs.Rows.{Held, rows_from, star_writes, import_writes, export_writes, star_content, import_content, export_content, module_of, import_of, with_stars, with_imports, with_exports}
use Rattle.tables.specs.Staging.{Grows, Passed}
use Rattle.tables.proofs.Staged.{first_passes}
use Rattle.tables.proofs.Owning.{falls_map, first_map, some_mapped}
use Rattle.tables.specs.Growing.{imports_grow}

abbrev pub row_owner : ImportRow → ℕ
row_owner i = i.owner

abbrev pub row_symbol : ImportRow → ℕ
row_symbol i = i.symbol

module _ {X : Type 0} (belongs : X → ℕ) (owner : X → Option ℕ) (content : X → Result Entry Reason) (stage : List X → Graph) (grows : Grows owner content stage) (behind : (xs : List X) (x : X) → content_refusal (stage xs) (owner x) (content x) ≡ None → falls_behind belongs xs (belongs x) ≡ false) where
  rises_on : (xs ys : List X) (p : ℕ) (k : Graph) → gathered layer.Tables (stage xs) (rows_from owner content p ys) ≡ Ok k → Rising belongs xs → Rising belongs (xs ++ ys)
  rises_on xs [] p k passed up = subst (Rising belongs) (sym (append-nil xs)) up
  rises_on xs (y ∷ ys) p k passed up =
      let next = first_passes owner content stage grows xs y ys p k passed in
      let one = pairwise_push (λ a b. belongs a ≤ belongs b) xs y up (none_later belongs (belongs y) xs (behind xs y next.0)) in
      subst (Rising belongs) (append_assoc xs (y ∷ []) ys) (rises_on (xs ++ (y ∷ [])) ys (p + 1) k next.1 one)

  rises_from_passed : (first : ℕ) (xs : List X) → Passed owner content stage first xs → Rising belongs xs
  rises_from_passed first xs passed = rises_on [] xs first (stage xs) passed tt

module _ (h : Held) where
  pub stars_rise : (first : ℕ) (xs : List Star) → Passed star_writes (star_content h.bytes) (with_stars h) first xs → Rising star_owner xs
  stars_rise = rises_from_passed star_owner star_writes (star_content h.bytes) (with_stars h) (λ xs x e is. let same = is in cc) (λ xs x none. (cond_none _ _ _ none).0)

  pub imports_rise : (first : ℕ) (xs : List ImportRow) → Passed import_writes (import_content h.bytes) (with_imports h) first xs → Rising row_owner xs
  imports_rise = rises_from_passed row_owner import_writes (import_content h.bytes) (with_imports h) (imports_grow h) (λ xs x none. sym (falls_map import_of import_owner xs x.owner) ∙ (cond_none _ _ _ none).0)

  pub exports_rise : (first : ℕ) (xs : List Export) → Passed export_writes (export_content h.bytes) (with_exports h) first xs → Rising export_owner xs
  exports_rise = rises_from_passed export_owner export_writes (export_content h.bytes) (with_exports h) (λ xs x e is. let same = is in cc) (λ xs x none. (cond_none _ _ _ none).0)

  -- the owner's kind
  abbrev owner_es : ℕ → Bool
  owner_es m = is_es (kind_in (map (module_of h.bytes) h.modules) m)

  pub star_same : (before : List Star) (s : Star) → owned_refusal (falls_behind star_owner before s.owner) (length before) (leb (length h.modules) s.owner || false) false (owner_es s.owner) ≡ content_refusal (with_stars h before) (star_writes s) (star_content h.bytes s)
  star_same before s = rw (length-map h.modules (module_of h.bytes))

  pub import_same : (before : List ImportRow) (i : ImportRow) → owned_refusal (falls_behind row_owner before i.owner) (length before) (leb (length h.modules) i.owner || wants_unknown (length h.names) (wanted_numbered i.name)) (is_some (first_keyed row_owner row_symbol before i.owner i.symbol)) (owner_es i.owner) ≡ content_refusal (with_imports h before) (import_writes i) (import_content h.bytes i)
  import_same before i = rw (falls_map import_of import_owner before i.owner, length-map before import_of, length-map h.modules (module_of h.bytes), length-map h.names (bytes_in h.bytes), first_map import_of import_owner import_symbol before i.owner i.symbol, some_mapped import_of (first_keyed row_owner row_symbol before i.owner i.symbol))

  pub export_same : (before : List Export) (e : Export) → owned_refusal (falls_behind export_owner before e.owner) (length before) (leb (length h.modules) e.owner || leb (length h.names) e.name) (is_some (first_keyed export_owner export_name before e.owner e.name)) (owner_es e.owner) ≡ content_refusal (with_exports h before) (export_writes e) (export_content h.bytes e)
  export_same before e = rw (length-map h.modules (module_of h.bytes), length-map h.names (bytes_in h.bytes), symbol_keyed before e.owner e.name, some_mapped export_symbol (first_keyed export_owner export_name before e.owner e.name))

  -- the same, by what the checks were told
  pub star_refused : (before : List Star) (s : Star) (first : ℕ) (r : Option Reason) → (Rising star_owner before → r ≡ owned_refusal (falls_behind star_owner before s.owner) (length before) (leb (length h.modules) s.owner || false) false (owner_es s.owner)) → Passed star_writes (star_content h.bytes) (with_stars h) first before → r ≡ content_refusal (with_stars h before) (star_writes s) (star_content h.bytes s)
  star_refused before s first r told passed = told (stars_rise first before passed) ∙ star_same before s

  module _ (nameless : Bool) (r : Option Reason) (first : ℕ) where
    pub import_refused : (before : List ImportRow) (i : ImportRow) → (Rising row_owner before → r ≡ owned_refusal (falls_behind row_owner before i.owner) (length before) (leb (length h.modules) i.owner || nameless) (is_some (first_keyed row_owner row_symbol before i.owner i.symbol)) (owner_es i.owner)) → nameless ≡ wants_unknown (length h.names) (wanted_numbered i.name) → Passed import_writes (import_content h.bytes) (with_imports h) first before → r ≡ content_refusal (with_imports h before) (import_writes i) (import_content h.bytes i)
    import_refused before i told nameless-is passed =
        told (imports_rise first before passed)
        ∙ ap (λ b. owned_refusal (falls_behind row_owner before i.owner) (length before) (leb (length h.modules) i.owner || b) (is_some (first_keyed row_owner row_symbol before i.owner i.symbol)) (owner_es i.owner)) nameless-is
        ∙ import_same before i

    pub export_refused : (before : List Export) (e : Export) → (Rising export_owner before → r ≡ owned_refusal (falls_behind export_owner before e.owner) (length before) (leb (length h.modules) e.owner || nameless) (is_some (first_keyed export_owner export_name before e.owner e.name)) (owner_es e.owner)) → nameless ≡ leb (length h.names) e.name → Passed export_writes (export_content h.bytes) (with_exports h) first before → r ≡ content_refusal (with_exports h before) (export_writes e) (export_content h.bytes e)
    export_refused before e told nameless-is passed =
        told (exports_rise first before passed)
        ∙ ap (λ b. owned_refusal (falls_behind export_owner before e.owner) (length before) (leb (length h.modules) e.owner || b) (is_some (first_keyed export_owner export_name before e.owner e.name)) (owner_es e.owner)) nameless-is
        ∙ export_same before e
