-- The graph of tables that open.
use Rattle.std.proofs.Common.{◌≡◌, ℕ, ◌+◌, true, List, [], ◌∷◌, ◌++◌, is_ok, Some, None, Ok, Err, Option, Result, refl, ap, ◌∙◌, subst}
use Rattle.std.specs.List.{AllByRecursion}
use Rattle.std.proofs.lemmas.Bool.{false≢true}
use Rattle.graph.specs.declared.fault.Fault.{Fault}
use Rattle.graph.specs.declared.fault.Layer.TheVariants as layer
use Rattle.graph.specs.declared.fault.Reason.{Reason}
use Rattle.graph.specs.Graphs.{Graph, no_records}
use Rattle.graph.specs.Entries.{Entry}
use Rattle.graph.specs.Rules.{unless, and_then}
use Rattle.graph.specs.Opening.{Placed, content_refusal, gathered, aims, no_name, finished, or_only_default}
use Rattle.graph.specs.Soundness.{Sound}
use Rattle.graph.proofs.Firstly.{gathered_split}
use Rattle.tables.specs.Rows.{Held, rows_from, no_owner, star_writes, import_writes, export_writes, name_content, module_content, star_content, import_content, export_content, module_place, star_place, import_place, export_place, record_count, name_rows, module_rows, records, with_names, with_modules, with_stars, with_imports, with_exports, meant}
use Rattle.tables.specs.Readable.{Readable}
use Rattle.tables.specs.Staging.{Grows}
use Rattle.tables.specs.Opening.{opened, graph_of}
use Rattle.tables.proofs.Staged.{first_passes, stage_meant}
use Rattle.tables.specs.Growing.{names_grow, modules_grow, imports_grow}
use Rattle.tables.proofs.Opened.{graph_sound}

-- a list at the front of records that pass: it passes, and the others pass behind it
list_passes : {X : Type 0} (owner : X → Option ℕ) (content : X → Result Entry Reason) (stage : List X → Graph) → Grows owner content stage → (xs : List X) (p : ℕ) (rest : List Placed) (k : Graph) → gathered layer.Tables (stage []) (rows_from owner content p xs ++ rest) ≡ Ok k → gathered layer.Tables (stage xs) rest ≡ Ok k
list_passes owner content stage grows xs p rest k passed =
    let parts = gathered_split layer.Tables (stage []) k (rows_from owner content p xs) rest passed in
    subst (λ g. gathered layer.Tables g rest ≡ Ok k) (stage_meant owner content stage grows xs p parts.0 parts.1) parts.2

unless_parts : {A : Type 0} (o : Option Fault) (r : Result A Fault) (x : A) → unless o r ≡ Ok x → r ≡ Ok x
unless_parts None r x e = e
unless_parts (Some f) r x e = absurd (false≢true (cc e))

pub then_parts : {A B : Type 0} (r : Result A Fault) (next : A → Result B Fault) (y : B) → and_then r next ≡ Ok y → (x : A) × (r ≡ Ok x) × (next x ≡ Ok y)
then_parts (Ok x) next y e = (x, refl, e)
then_parts (Err f) next y e = absurd (false≢true (cc e))

-- records that pass can be read
passed_readable : {X : Type 0} (owner : X → Option ℕ) (content : X → Result Entry Reason) (stage : List X → Graph) → Grows owner content stage → (xs ys : List X) (p : ℕ) (k : Graph) → gathered layer.Tables (stage xs) (rows_from owner content p ys) ≡ Ok k → AllByRecursion (λ y. is_ok (content y) ≡ true) ys
passed_readable owner content stage grows xs [] p k passed = tt
passed_readable owner content stage grows xs (y ∷ ys) p k passed =
    let next = first_passes owner content stage grows xs y ys p k passed in
    (by_content (content y) next.0, passed_readable owner content stage grows (xs ++ (y ∷ [])) ys (p + 1) k next.1)
  where
    by_content : (c : Result Entry Reason) → content_refusal (stage xs) (owner y) c ≡ None → is_ok c ≡ true
    by_content (Ok e) none = refl
    by_content (Err r) none = cc

module _ (h : Held) where
  pub gathered_readable : (k : Graph) → gathered layer.Tables no_records (records h) ≡ Ok k → Readable h
  gathered_readable k passed =
      let first = gathered_split layer.Tables no_records k (name_rows h) _ passed in
      let modules = list_passes no_owner (name_content h.bytes) (with_names h) (names_grow h) h.names 0 _ k passed in
      let second = gathered_split layer.Tables (with_modules h []) k (module_rows h) _ modules in
      record {
        names = passed_readable no_owner (name_content h.bytes) (with_names h) (names_grow h) [] h.names 0 first.0 first.1;
        modules = passed_readable no_owner (module_content h.bytes) (with_modules h) (modules_grow h) [] h.modules (module_place h) second.0 second.1;
      }

  gathered_meant : (k : Graph) → gathered layer.Tables no_records (records h) ≡ Ok k → k ≡ meant h
  gathered_meant k passed =
      let modules = list_passes no_owner (name_content h.bytes) (with_names h) (names_grow h) h.names 0 _ k passed in
      let stars = list_passes no_owner (module_content h.bytes) (with_modules h) (modules_grow h) h.modules (module_place h) _ k modules in
      let imports = list_passes star_writes (star_content h.bytes) (with_stars h) (λ xs x e is. let same = is in cc) h.stars (star_place h) _ k stars in
      let exports = list_passes import_writes (import_content h.bytes) (with_imports h) (imports_grow h) h.imports (import_place h) _ k imports in
      stage_meant export_writes (export_content h.bytes) (with_exports h) (λ xs x e is. let same = is in cc) h.exports (export_place h) k exports

  opened_meant : (g : Graph) → opened h ≡ Ok g → g ≡ meant h
  opened_meant g e =
      let all = then_parts (gathered layer.Tables no_records (records h)) (finished layer.Tables (record_count h) (records h)) g e in
      let named = unless_parts (no_name layer.Tables (record_count h) all.0) _ g all.2 in
      let aimed = unless_parts (aims layer.Tables all.0 (records h)) (Ok all.0) g named in
      let same : g ≡ all.0 = cc (aimed) in
      same ∙ gathered_meant all.0 all.1

  -- the graph of lists that open is that of all their records
  pub graph_meant : is_ok (opened h) ≡ true → graph_of h ≡ meant h
  graph_meant opens = by_result (opened h) refl opens
    where
      by_result : (r : Result Graph Fault) → opened h ≡ r → is_ok r ≡ true → graph_of h ≡ meant h
      by_result (Ok g) is ok = let eq = opened_meant g is in ap (λ r. or_only_default r) is ∙ eq
      by_result (Err f) is ok = absurd (false≢true ok)

  pub meant_sound : is_ok (opened h) ≡ true → Sound (meant h)
  meant_sound opens = subst Sound (graph_meant opens) (graph_sound h)
