-- Opening tables, from the checks of each list.
use Rattle.std.proofs.Common.{◌≡◌, ℕ, ◌+◌, ◌<◌, List, [], ◌∷◌, ◌++◌, length, Some, None, Ok, Err, Option, Result, sym, refl, ap, ◌∙◌, append_assoc, arith, MatchResult}
use Rattle.std.specs.List.{AllByRecursion}
use Rattle.std.proofs.ByRecursion.{All-append, all_from_every}
use Rattle.std.proofs.lemmas.List.{length-map}
use Rattle.std.proofs.lemmas.Result.{MatchResult-weaker}
use Rattle.std.proofs.lemmas.Bool.{cond-true, cond-false, eq-eqb, ne_eqb}
use Rattle.graph.specs.declared.fault.Fault.{Fault}
use Rattle.graph.specs.declared.fault.Layer.TheVariants as layer
use Rattle.graph.specs.declared.fault.Reason.{Reason}
use Rattle.graph.specs.declared.fault.Reason.TheVariants.{BadName}
use Rattle.graph.specs.Graphs.{Graph, no_records}
use Rattle.graph.specs.Entries.{Entry, a_name, a_module}
use Rattle.graph.specs.Rules.{Given, aim_cases, aim_refusal, placed, either_fault, unless, and_then}
use Rattle.graph.specs.Opening.{Placed, fault_in, gathered, aims, finished, or_only_default}
use Rattle.graph.specs.Foremost.{AimsWell}
use Rattle.graph.specs.Soundness.{Sound}
use Rattle.graph.proofs.Foremost.{none_given}
use Rattle.graph.proofs.Firstly.{gathered_past, gathered_ends, aims_past, first_from_err, err_from_first, first_from_opened}
use Rattle.graph.proofs.Soundly.{FormedContent, FormedRecord, formed_either, formed_name, formed_module, opened_sound}
use Rattle.tables.specs.Rows.{Held, star_entry, import_entry, export_entry, rows_from, no_owner, star_writes, import_writes, export_writes, name_content, module_content, star_content, import_content, export_content, module_place, star_place, import_place, export_place, record_count, name_rows, module_rows, star_rows, import_rows, export_rows, records, module_of, with_names, with_modules, with_stars, with_imports, with_exports, meant}
use Rattle.tables.specs.Spans.{inside, bytes_in}
use Rattle.tables.specs.Staging.{checked, Passed, Tells, aims_of, AimsTold}
use Rattle.tables.specs.Opening.{opened, FirstFault}
use Rattle.tables.specs.Growing.{name_told, module_told}

-- the first fault in two lists of records, where the first list can be read
either_assoc : (a b c : Option Fault) → either_fault (either_fault a b) c ≡ either_fault a (either_fault b c)
either_assoc (Some f) b c = refl
either_assoc None b c = refl

either_last : (a : Option Fault) → either_fault a None ≡ a
either_last (Some f) = refl
either_last None = refl

aims_append : {X : Type 0} (g : Graph) (owner : X → Option ℕ) (entry : X → Entry) (p : ℕ) (xs : List X) (ys : List Placed) → aims layer.Tables g (rows_from owner (λ x. Ok (entry x)) p xs ++ ys) ≡ either_fault (aims layer.Tables g (rows_from owner (λ x. Ok (entry x)) p xs)) (aims layer.Tables g ys)
aims_append g owner entry p [] ys = refl
aims_append g owner entry p (x ∷ xs) ys =
    ap (either_fault (placed layer.Tables (aim_refusal g (entry x)) p)) (aims_append g owner entry (p + 1) xs ys)
    ∙ sym (either_assoc (placed layer.Tables (aim_refusal g (entry x)) p) (aims layer.Tables g (rows_from owner (λ x. Ok (entry x)) (p + 1) xs)) (aims layer.Tables g ys))

-- where each record aims well, nothing is refused
pub aims_well : {X : Type 0} (g : Graph) (owner : X → Option ℕ) (entry : X → Entry) (p : ℕ) (xs : List X) → AllByRecursion (λ x. aim_refusal g (entry x) ≡ None) xs → aims layer.Tables g (rows_from owner (λ x. Ok (entry x)) p xs) ≡ None
aims_well g owner entry p [] well = refl
aims_well g owner entry p (x ∷ xs) well = ap (λ o. either_fault (placed layer.Tables o p) (aims layer.Tables g (rows_from owner (λ x. Ok (entry x)) (p + 1) xs))) well.0 ∙ aims_well g owner entry (p + 1) xs well.1

-- what holds of each record of a list by what it says
all_rows : {X : Type 0} (P : Result Entry Reason → Type 0) (owner : X → Option ℕ) (content : X → Result Entry Reason) → ((x : X) → P (content x)) → (p : ℕ) (xs : List X) → AllByRecursion (λ (r : Placed). P r.content) (rows_from owner content p xs)
all_rows P owner content each p [] = tt
all_rows P owner content each p (x ∷ xs) = (each x, all_rows P owner content each (p + 1) xs)

module _ (h : Held) where
  -- a list that does not pass, behind those that do
  pub names_end : (f : Fault) → checked no_owner (name_content h.bytes) (with_names h) 0 h.names ≡ Err f → gathered layer.Tables no_records (records h) ≡ Err f
  names_end f e = gathered_ends layer.Tables no_records (name_rows h) _ f e

  module _ (names : Passed no_owner (name_content h.bytes) (with_names h) 0 h.names) where
    to_modules : gathered layer.Tables no_records (records h) ≡ gathered layer.Tables (with_modules h []) (module_rows h ++ (star_rows h ++ (import_rows h ++ export_rows h)))
    to_modules = gathered_past layer.Tables no_records (with_names h h.names) (name_rows h) _ names

    pub modules_end : (f : Fault) → checked no_owner (module_content h.bytes) (with_modules h) (module_place h) h.modules ≡ Err f → gathered layer.Tables no_records (records h) ≡ Err f
    modules_end f e = to_modules ∙ gathered_ends layer.Tables (with_modules h []) (module_rows h) _ f e

    module _ (modules : Passed no_owner (module_content h.bytes) (with_modules h) (module_place h) h.modules) where
      to_stars : gathered layer.Tables no_records (records h) ≡ gathered layer.Tables (with_stars h []) (star_rows h ++ (import_rows h ++ export_rows h))
      to_stars = to_modules ∙ gathered_past layer.Tables (with_modules h []) (with_modules h h.modules) (module_rows h) _ modules

      pub stars_end : (f : Fault) → checked star_writes (star_content h.bytes) (with_stars h) (star_place h) h.stars ≡ Err f → gathered layer.Tables no_records (records h) ≡ Err f
      stars_end f e = to_stars ∙ gathered_ends layer.Tables (with_stars h []) (star_rows h) _ f e

      module _ (stars : Passed star_writes (star_content h.bytes) (with_stars h) (star_place h) h.stars) where
        to_imports : gathered layer.Tables no_records (records h) ≡ gathered layer.Tables (with_imports h []) (import_rows h ++ export_rows h)
        to_imports = to_stars ∙ gathered_past layer.Tables (with_stars h []) (with_stars h h.stars) (star_rows h) _ stars

        pub imports_end : (f : Fault) → checked import_writes (import_content h.bytes) (with_imports h) (import_place h) h.imports ≡ Err f → gathered layer.Tables no_records (records h) ≡ Err f
        imports_end f e = to_imports ∙ gathered_ends layer.Tables (with_imports h []) (import_rows h) _ f e

        module _ (imports : Passed import_writes (import_content h.bytes) (with_imports h) (import_place h) h.imports) where
          pub to_exports : gathered layer.Tables no_records (records h) ≡ gathered layer.Tables (with_exports h []) (export_rows h)
          to_exports = to_imports ∙ gathered_past layer.Tables (with_imports h []) (with_imports h h.imports) (import_rows h) _ imports

          pub exports_tell : (r : Result (Unit {0}) Fault) → Tells export_writes (export_content h.bytes) (with_exports h) (export_place h) h.exports r → MatchResult r (λ _. gathered layer.Tables no_records (records h) ≡ Ok (meant h)) (λ f. gathered layer.Tables no_records (records h) ≡ Err f)
          exports_tell r told = MatchResult-weaker r told (λ _ passed. to_exports ∙ passed) (λ f e. to_exports ∙ e)

  -- names, modules and exports aim at nothing
  abbrev AimsFine : Result Entry Reason → Type 0
  AimsFine content = (e : Entry) (r : Reason) → content ≡ Ok e → Given (aim_cases (meant h) e) r → ⊥

  aims_fine : (content : Result Entry Reason) (x : Entry) → aim_refusal (meant h) x ≡ None → ((e : Entry) → content ≡ Ok e → e ≡ x) → AimsFine content
  aims_fine content x none told e r is given = none_given (aim_cases (meant h) e) (ap (aim_refusal (meant h)) (told e is) ∙ none) r given

  head_aims : AllByRecursion (AimsWell (meant h)) (name_rows h ++ module_rows h)
  head_aims = All-append (AimsWell (meant h)) (name_rows h) (module_rows h)
      (all_rows AimsFine no_owner (name_content h.bytes) (λ s. aims_fine (name_content h.bytes s) (a_name (bytes_in h.bytes s)) refl (name_told h.bytes s)) 0 h.names)
      (all_rows AimsFine no_owner (module_content h.bytes) (λ m. aims_fine (module_content h.bytes m) (a_module (module_of h.bytes m).kind (bytes_in h.bytes m.id)) refl (module_told h.bytes m)) (module_place h) h.modules)

  module _ (passed : gathered layer.Tables no_records (records h) ≡ Ok (meant h)) where
    all_aims : aims layer.Tables (meant h) (records h) ≡ either_fault (aims_of h star_writes star_entry (star_place h) h.stars) (aims_of h import_writes import_entry (import_place h) h.imports)
    all_aims =
        let split = append_assoc (name_rows h) (module_rows h) (star_rows h ++ (import_rows h ++ export_rows h)) in
        ap (aims layer.Tables (meant h)) (sym split)
        ∙ aims_past layer.Tables (meant h) no_records (meant h) (name_rows h ++ module_rows h) (star_rows h ++ (import_rows h ++ export_rows h)) (ap (gathered layer.Tables no_records) split ∙ passed) head_aims
        ∙ aims_append (meant h) star_writes star_entry (star_place h) h.stars (import_rows h ++ export_rows h)
        ∙ ap (either_fault (aims_of h star_writes star_entry (star_place h) h.stars)) (
        aims_append (meant h) import_writes import_entry (import_place h) h.imports (export_rows h)
        ∙ ap (either_fault (aims_of h import_writes import_entry (import_place h) h.imports)) (aims_well (meant h) export_writes export_entry (export_place h) h.exports (all_from_every _ h.exports (λ k d low high. refl)))
        ∙ either_last (aims_of h import_writes import_entry (import_place h) h.imports))

    -- what is left of opening
    passed_on : opened h ≡ finished layer.Tables (record_count h) (records h) (meant h)
    passed_on = ap (λ r. and_then r (finished layer.Tables (record_count h) (records h))) passed

    named_count : length (meant h).names ≡ length h.names
    named_count = length-map h.names (bytes_in h.bytes)

    pub nameless : length h.names ≡ 0 → opened h ≡ Err (fault_in layer.Tables BadName (record_count h))
    nameless none = passed_on ∙ ap (λ o. unless o (unless (aims layer.Tables (meant h) (records h)) (Ok (meant h)))) (cond-true _ _ _ (eq-eqb (length (meant h).names) 0 (named_count ∙ none)))

    module _ (some : 0 < length h.names) where
      to_aims : (stars : Option Fault) → aims_of h star_writes star_entry (star_place h) h.stars ≡ stars → opened h ≡ unless (either_fault stars (aims_of h import_writes import_entry (import_place h) h.imports)) (Ok (meant h))
      to_aims stars are =
          passed_on
          ∙ ap (λ o. unless o (unless (aims layer.Tables (meant h) (records h)) (Ok (meant h)))) (cond-false _ _ _ (ne_eqb (length (meant h).names) 0 (λ none. omega (arith, named_count))))
          ∙ ap (λ o. unless o (Ok (meant h))) (all_aims ∙ ap (λ o. either_fault o (aims_of h import_writes import_entry (import_place h) h.imports)) are)

      pub stars_miss : (f : Fault) → aims_of h star_writes star_entry (star_place h) h.stars ≡ Some f → opened h ≡ Err f
      stars_miss f miss = to_aims (Some f) miss

      pub imports_tell : aims_of h star_writes star_entry (star_place h) h.stars ≡ None → (r : Result (Unit {0}) Fault) → AimsTold h import_writes import_entry (import_place h) h.imports r → MatchResult r (λ _. opened h ≡ Ok (meant h)) (λ f. opened h ≡ Err f)
      imports_tell none r told = MatchResult-weaker r told (λ _ e. to_aims None none ∙ ap (λ o. unless o (Ok (meant h))) e) (λ f e. to_aims None none ∙ ap (λ o. unless o (Ok (meant h))) e)

  -- every record that can be read is well formed
  all_formed : AllByRecursion FormedRecord (records h)
  all_formed =
      All-append FormedRecord (name_rows h) _ (all_rows FormedContent no_owner (name_content h.bytes) (λ s. formed_either (inside h.bytes s) _ _ (formed_name (bytes_in h.bytes s)) tt) 0 h.names)
      (All-append FormedRecord (module_rows h) _ (all_rows FormedContent no_owner (module_content h.bytes) (λ m. formed_either (inside h.bytes m.id) _ _ (formed_module m.kind (bytes_in h.bytes m.id)) tt) (module_place h) h.modules)
      (All-append FormedRecord (star_rows h) _ (all_rows FormedContent star_writes (star_content h.bytes) (λ _. tt) (star_place h) h.stars)
      (All-append FormedRecord (import_rows h) _ (all_rows FormedContent import_writes (import_content h.bytes) (λ _. tt) (import_place h) h.imports)
      (all_rows FormedContent export_writes (export_content h.bytes) (λ _. tt) (export_place h) h.exports))))

  pub graph_sound : Sound (or_only_default (opened h))
  graph_sound = opened_sound layer.Tables (record_count h) (records h) all_formed

  -- what opening answers, told by the first fault
  pub told_first : (r : Result (Unit {0}) Fault) → MatchResult r (λ _. opened h ≡ Ok (meant h)) (λ f. opened h ≡ Err f) → MatchResult r (λ _. (f : Fault) → FirstFault h f → ⊥) (λ f. FirstFault h f × ((e : Fault) → FirstFault h e → e ≡ f))
  told_first r told = first_from_opened (FirstFault h) (opened h) (first_from_err layer.Tables (record_count h) (records h)) (err_from_first layer.Tables (record_count h) (records h)) r (MatchResult-weaker r told (λ _ e. (meant h, e)) (λ _ e. e))
