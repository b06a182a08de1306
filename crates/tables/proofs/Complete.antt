-- Lists that can be read, and whose graph is sound, open.
use Rattle.std.proofs.Common.{◌≡◌, ℕ, ◌<◌, ◌≤◌, Bool, true, false, ◌&&◌, eqb, leb, List, [], ◌∷◌, ◌++◌, map, length, is_some, is_ok, Some, None, Ok, Err, Option, Result, sym, refl, ap, ◌∙◌, subst, ⊎_elim, arith, MatchResult}
use Rattle.std.specs.List.{slice_get, AllByRecursion}
use Rattle.std.specs.Str.{bytes_eq}
use Rattle.std.proofs.ByRecursion.{All-weaker}
use Rattle.std.proofs.lemmas.Slice.Eq.{bytes_eq-Decides}
use Rattle.std.proofs.lemmas.List.{map-append, append-nil, append_assoc, length-append, length-map}
use Rattle.std.proofs.lemmas.Bool.{false≢true, cond-false, lt-leb, or_from, and_left, and_right, ne_eqb, not_from_true, cases_Bool, cases_eq}
use Rattle.std.proofs.lemmas.Result.{MatchResult-weaker}
use Rattle.graph.specs.declared.fault.Fault.{Fault}
use Rattle.graph.specs.declared.fault.Layer.TheVariants as layer
use Rattle.graph.specs.declared.fault.Reason.{Reason}
use Rattle.graph.specs.declared.records.Kind.{Kind}
use Rattle.graph.specs.declared.records.Kind.TheVariants as kind
use Rattle.graph.specs.declared.records.Wanted.{Wanted}
use Rattle.graph.specs.declared.records.Wanted.TheVariants.{Name, Whole}
use Rattle.graph.specs.declared.records.Star.{Star}
use Rattle.graph.specs.declared.records.Import.{Import}
use Rattle.graph.specs.declared.records.Export.{Export}
use Rattle.graph.specs.Graphs.{Graph, no_records, default_name}
use Rattle.graph.specs.Entries.{Entry, a_name, a_module}
use Rattle.graph.specs.Lookups.{first_keyed, star_owner, import_owner, import_symbol, export_owner, export_name, kind_in}
use Rattle.graph.specs.Rules.{listed, wrong_name, wants_unknown, is_es, is_external, owned_refusal, aim_refusal, wanted_numbered}
use Rattle.graph.specs.Opening.{content_refusal, gathered}
use Rattle.graph.specs.Soundness.{Pairwise, Rising, EsModule, Known, Sound}
use Rattle.graph.proofs.Pushing.{kind_inside}
use Rattle.graph.proofs.Keyed.{all_from_map}
use Rattle.tables.specs.declared.lists.Span.{Span}
use Rattle.tables.specs.declared.lists.ModuleRow.{ModuleRow}
use Rattle.tables.specs.declared.lists.ImportRow.{ImportRow}
use Rattle.tables.specs.Spans.{bytes_in}
use Rattle.tables.specs.Rows.{Held, star_entry, import_entry, no_owner, star_writes, import_writes, export_writes, name_content, module_content, star_content, import_content, export_content, module_place, star_place, import_place, export_place, records, module_of, import_of, with_names, with_modules, with_stars, with_imports, with_exports, meant}
use Rattle.tables.specs.Readable.{Readable}
use Rattle.tables.specs.Staging.{Grows, Passed}
use Rattle.tables.specs.Opening.{opened}
use Rattle.tables.proofs.Staged.{passes}
use Rattle.tables.proofs.Owning.{falls_never, falls_map, first_map, some_mapped}
use Rattle.tables.specs.Growing.{name_told, module_told, names_grow, modules_grow, imports_grow}
use Rattle.graph.proofs.Firstly.{ok_not_err}
use Rattle.tables.proofs.Meaning.{then_parts, gathered_readable, meant_sound}
use Rattle.tables.proofs.Opened.{to_exports, imports_tell, aims_well}
use Rattle.tables.proofs.Refused.{star_same, import_same, export_same}

-- what holds of a whole list, at one of its elements
module _ {X : Type 0} where
  all_at : (P : X → Type 0) (xs : List X) (x : X) (ys : List X) → AllByRecursion P (xs ++ (x ∷ ys)) → P x
  all_at P [] x ys all = all.0
  all_at P (z ∷ xs) x ys all = all_at P xs x ys all.1

  all_before : (P : X → Type 0) (xs ys : List X) → AllByRecursion P (xs ++ ys) → AllByRecursion P xs
  all_before P [] ys all = tt
  all_before P (x ∷ xs) ys all = (all.0, all_before P xs ys all.1)

  pairs_at : (R : X → X → Type 0) (xs : List X) (x : X) (ys : List X) → Pairwise R (xs ++ (x ∷ ys)) → AllByRecursion (λ y. R y x) xs
  pairs_at R [] x ys pairs = tt
  pairs_at R (z ∷ xs) x ys pairs = (all_at (R z) xs x ys pairs.0, pairs_at R xs x ys pairs.1)

  shorter : (xs : List X) (x : X) (ys : List X) → length xs < length (xs ++ (x ∷ ys))
  shorter xs x ys = omega (arith, length-append xs (x ∷ ys))

-- a list passes where no record of it is refused behind those before it
module _ {X : Type 0} (owner : X → Option ℕ) (content : X → Result Entry Reason) (stage : List X → Graph) (grows : Grows owner content stage) (first : ℕ) (all : List X) (fine : (xs : List X) (x : X) (ys : List X) → all ≡ xs ++ (x ∷ ys) → content_refusal (stage xs) (owner x) (content x) ≡ None) where
  passes_from : (xs ys : List X) → all ≡ xs ++ ys → Passed owner content stage first xs → Passed owner content stage first all
  passes_from xs [] is passed = subst (Passed owner content stage first) (sym (is ∙ append-nil xs)) passed
  passes_from xs (y ∷ ys) is passed = passes_from (xs ++ (y ∷ [])) ys (is ∙ sym (append_assoc xs (y ∷ []) ys)) (passes owner content stage first xs passed y grows (fine xs y ys is))

  list_passes : Passed owner content stage first all
  list_passes = passes_from [] all refl refl

ok_told : (c : Result Entry Reason) → is_ok c ≡ true → (e : Entry) × (c ≡ Ok e)
ok_told (Ok e) h = (e, refl)
ok_told (Err r) h = absurd (false≢true h)

not_listed : (name : List ℕ) (names : List (List ℕ)) → AllByRecursion (λ x. x ≡ name → ⊥) names → listed name names ≡ false
not_listed name [] other = refl
not_listed name (x ∷ xs) other = or_from (bytes_eq name x) (listed name xs) (⊎_elim (λ t. absurd (other.0 (sym ((bytes_eq-Decides name x).0 t)))) (λ f. f) (cases_Bool (bytes_eq name x))) (not_listed name xs other.1)

not_wrong : (names : List (List ℕ)) (name : List ℕ) (later : List (List ℕ)) → slice_get (names ++ (name ∷ later)) 0 ≡ Some default_name → AllByRecursion (λ x. x ≡ name → ⊥) names → wrong_name names name ≡ false
not_wrong [] name later first other = let same : name ≡ default_name = cc in not_from_true _ ((bytes_eq-Decides name default_name).1 same)
not_wrong (x ∷ xs) name later first other = not_listed name (x ∷ xs) other

-- no element with this owner has this key
keyed_none : {X : Type 0} (owner key : X → ℕ) (xs : List X) (m k : ℕ) → AllByRecursion (λ x. owner x ≡ m → key x ≡ k → ⊥) xs → first_keyed owner key xs m k ≡ None
keyed_none owner key [] m k other = refl
keyed_none owner key (x ∷ xs) m k other = cond-false _ _ _ (apart (owner x) m (key x) k other.0) ∙ keyed_none owner key xs m k other.1
  where
    apart : (a b c d : ℕ) → (a ≡ b → c ≡ d → ⊥) → (eqb a b && eqb c d) ≡ false
    apart a b c d never = ⊎_elim (λ e. ⊎_elim (λ f. absurd (never e f)) (λ f. and_right (eqb a b) (eqb c d) (ne_eqb c d f)) (cases_eq c d)) (λ e. and_left (eqb a b) (eqb c d) (ne_eqb a b e)) (cases_eq a b)

owned_none : (falls : Bool) (count : ℕ) (unknown twice es : Bool) → falls ≡ false → count < 1024 → unknown ≡ false → twice ≡ false → es ≡ true → owned_refusal falls count unknown twice es ≡ None
owned_none falls count unknown twice es f c u t e = cond-false _ _ _ f ∙ cond-false _ _ _ (lt-leb 1024 count c) ∙ cond-false _ _ _ u ∙ cond-false _ _ _ t ∙ cond-false _ _ _ (not_from_true es e)

module _ (h : Held) (readable : Readable h) (sound : Sound (meant h)) where
  -- the same list, as the graph has it, where it is split
  split_map : {X Y : Type 0} (f : X → Y) (all xs : List X) (x : X) (ys : List X) → all ≡ xs ++ (x ∷ ys) → map f all ≡ map f xs ++ (f x ∷ map f ys)
  split_map f all xs x ys is = ap (map f) is ∙ map-append f xs (x ∷ ys)

  names_pass : Passed no_owner (name_content h.bytes) (with_names h) 0 h.names
  names_pass = list_passes no_owner (name_content h.bytes) (with_names h) (names_grow h) 0 h.names fine
    where
      fine : (xs : List Span) (x : Span) (ys : List Span) → h.names ≡ xs ++ (x ∷ ys) → content_refusal (with_names h xs) None (name_content h.bytes x) ≡ None
      fine xs x ys is =
          let f = bytes_in h.bytes in
          let ok = ok_told (name_content h.bytes x) (all_at _ xs x ys (subst (AllByRecursion _) is readable.names)) in
          let split = split_map f h.names xs x ys is in
          let content : name_content h.bytes x ≡ Ok (a_name (f x)) = ok.1 ∙ ap Ok (name_told h.bytes x ok.0 ok.1) in
          let other = pairs_at (λ a b. a ≡ b → ⊥) (map f xs) (f x) (map f ys) (subst (Pairwise (λ a b. a ≡ b → ⊥)) split sound.names_differ) in
          let right = not_wrong (map f xs) (f x) (map f ys) (subst (λ l. slice_get l 0 ≡ Some default_name) split sound.first_name) other in
          let few : length (map f xs) < 1024 = omega (arith, shorter (map f xs) (f x) (map f ys), ap length split, sound.name_limit) in
          ap (content_refusal (with_names h xs) None) content ∙ cond-false _ _ _ right ∙ cond-false _ _ _ (lt-leb 1024 (length (map f xs)) few)

  modules_pass : Passed no_owner (module_content h.bytes) (with_modules h) (module_place h) h.modules
  modules_pass = list_passes no_owner (module_content h.bytes) (with_modules h) (modules_grow h) (module_place h) h.modules fine
    where
      fine : (xs : List ModuleRow) (x : ModuleRow) (ys : List ModuleRow) → h.modules ≡ xs ++ (x ∷ ys) → content_refusal (with_modules h xs) None (module_content h.bytes x) ≡ None
      fine xs x ys is =
          let f = module_of h.bytes in
          let ok = ok_told (module_content h.bytes x) (all_at _ xs x ys (subst (AllByRecursion _) is readable.modules)) in
          let split = split_map f h.modules xs x ys is in
          let content : module_content h.bytes x ≡ Ok (a_module (f x).kind (bytes_in h.bytes x.id)) = ok.1 ∙ ap Ok (module_told h.bytes x ok.0 ok.1) in
          let few : length (map f xs) < 256 = omega (arith, shorter (map f xs) (f x) (map f ys), ap length split, sound.module_limit) in
          ap (content_refusal (with_modules h xs) None) content ∙ cond-false _ _ _ (lt-leb 256 (length (map f xs)) few)

  -- an owner that is an ES module is known
  known_owner : (m : ℕ) → EsModule (meant h) m → leb (length h.modules) m ≡ false
  known_owner m es = lt-leb (length h.modules) m (omega (arith, kind_inside (meant h).modules m kind.Es es, length-map h.modules (module_of h.bytes)))

  stars_pass : Passed star_writes (star_content h.bytes) (with_stars h) (star_place h) h.stars
  stars_pass = list_passes star_writes (star_content h.bytes) (with_stars h) (λ xs x e is. let same = is in cc) (star_place h) h.stars fine
    where
      fine : (xs : List Star) (x : Star) (ys : List Star) → h.stars ≡ xs ++ (x ∷ ys) → content_refusal (with_stars h xs) (star_writes x) (star_content h.bytes x) ≡ None
      fine xs x ys is =
          let up = pairs_at (λ a b. star_owner a ≤ star_owner b) xs x ys (subst (Rising star_owner) is sound.stars_rise) in
          let es : EsModule (meant h) x.owner = all_at _ xs x ys (subst (AllByRecursion _) is sound.star_owners) in
          let few : length xs < 1024 = omega (arith, shorter xs x ys, ap length is, sound.star_limit) in
          sym (star_same h xs x)
          ∙ owned_none _ (length xs) _ _ _ (falls_never star_owner x.owner xs up) few (or_from _ _ (known_owner x.owner es) refl) refl (ap is_es es)

  known_name : (w : Wanted) → Known (meant h) w → wants_unknown (length h.names) w ≡ false
  known_name (Name n) known = lt-leb (length h.names) n (omega (arith, length-map h.names (bytes_in h.bytes)))
  known_name Whole known = refl

  imports_pass : Passed import_writes (import_content h.bytes) (with_imports h) (import_place h) h.imports
  imports_pass = list_passes import_writes (import_content h.bytes) (with_imports h) (imports_grow h) (import_place h) h.imports fine
    where
      fine : (xs : List ImportRow) (x : ImportRow) (ys : List ImportRow) → h.imports ≡ xs ++ (x ∷ ys) → content_refusal (with_imports h xs) (import_writes x) (import_content h.bytes x) ≡ None
      fine xs x ys is =
          let split = split_map import_of h.imports xs x ys is in
          let up = pairs_at (λ a b. import_owner a ≤ import_owner b) (map import_of xs) (import_of x) (map import_of ys) (subst (Rising import_owner) split sound.imports_rise) in
          let es : EsModule (meant h) x.owner = all_at _ (map import_of xs) (import_of x) (map import_of ys) (subst (AllByRecursion _) split sound.import_owners) in
          let known : Known (meant h) (wanted_numbered x.name) = all_at _ (map import_of xs) (import_of x) (map import_of ys) (subst (AllByRecursion _) split sound.import_names) in
          let other = pairs_at _ (map import_of xs) (import_of x) (map import_of ys) (subst (Pairwise _) split sound.imports_differ) in
          let few : length xs < 1024 = omega (arith, shorter (map import_of xs) (import_of x) (map import_of ys), length-map xs import_of, ap length split, sound.import_limit) in
          sym (import_same h xs x)
          ∙ owned_none _ (length xs) _ _ _
          (sym (falls_map import_of import_owner xs x.owner) ∙ falls_never import_owner x.owner (map import_of xs) up)
          few
          (or_from _ _ (known_owner x.owner es) (known_name (wanted_numbered x.name) known))
          (sym (some_mapped import_of _) ∙ ap is_some (sym (first_map import_of import_owner import_symbol xs x.owner x.symbol) ∙ keyed_none import_owner import_symbol (map import_of xs) x.owner x.symbol other))
          (ap is_es es)

  exports_pass : Passed export_writes (export_content h.bytes) (with_exports h) (export_place h) h.exports
  exports_pass = list_passes export_writes (export_content h.bytes) (with_exports h) (λ xs x e is. let same = is in cc) (export_place h) h.exports fine
    where
      fine : (xs : List Export) (x : Export) (ys : List Export) → h.exports ≡ xs ++ (x ∷ ys) → content_refusal (with_exports h xs) (export_writes x) (export_content h.bytes x) ≡ None
      fine xs x ys is =
          let up = pairs_at (λ a b. export_owner a ≤ export_owner b) xs x ys (subst (Rising export_owner) is sound.exports_rise) in
          let es : EsModule (meant h) x.owner = all_at _ xs x ys (subst (AllByRecursion _) is sound.export_owners) in
          let known : x.name < length (meant h).names = all_at _ xs x ys (subst (AllByRecursion _) is sound.export_names) in
          let other = pairs_at _ xs x ys (subst (Pairwise _) is sound.exports_differ) in
          let few : length xs < 1024 = omega (arith, shorter xs x ys, ap length is, sound.export_limit) in
          sym (export_same h xs x)
          ∙ owned_none _ (length xs) _ _ _
          (falls_never export_owner x.owner xs up)
          few
          (or_from _ _ (known_owner x.owner es) (lt-leb (length h.names) x.name (omega (arith, length-map h.names (bytes_in h.bytes)))))
          (ap is_some (keyed_none export_owner export_name xs x.owner x.name other))
          (ap is_es es)

  all_pass : gathered layer.Tables no_records (records h) ≡ Ok (meant h)
  all_pass = to_exports h names_pass modules_pass stars_pass imports_pass ∙ exports_pass

  star_aims_well : AllByRecursion (λ (s : Star). aim_refusal (meant h) (star_entry s) ≡ None) h.stars
  star_aims_well = All-weaker _ _ (λ s aims. cond-false _ _ _ (lt-leb (length (meant h).modules) s.target aims.0) ∙ cond-false _ _ _ (inner (kind_in (meant h).modules s.target) aims.1)) h.stars sound.star_targets
    where
      inner : (o : Option Kind) → (o ≡ Some kind.External → ⊥) → is_external o ≡ false
      inner None never = refl
      inner (Some kind.Es) never = refl
      inner (Some kind.External) never = absurd (never refl)
      inner (Some kind.Empty) never = refl

  import_aims_well : AllByRecursion (λ (i : ImportRow). aim_refusal (meant h) (import_entry i) ≡ None) h.imports
  import_aims_well = All-weaker _ _ (λ i inside. cond-false _ _ _ (lt-leb (length (meant h).modules) i.target inside)) h.imports (all_from_map (λ (i : Import). i.target < length (meant h).modules) import_of h.imports sound.import_targets)

  some_name : 0 < length h.names
  some_name = by_names h.names sound.first_name
    where
      by_names : (names : List Span) → slice_get (map (bytes_in h.bytes) names) 0 ≡ Some default_name → 0 < length names
      by_names [] first = absurd (false≢true (cc first))
      by_names (x ∷ xs) first = omega arith

  pub sound_opens : opened h ≡ Ok (meant h)
  sound_opens = imports_tell h all_pass some_name (aims_well (meant h) star_writes star_entry (star_place h) h.stars star_aims_well) (Ok tt) (aims_well (meant h) import_writes import_entry (import_place h) h.imports import_aims_well)

-- what opening answers, told by what the lists hold
pub told_exactly : (h : Held) (r : Result (Unit {0}) Fault) → MatchResult r (λ _. opened h ≡ Ok (meant h)) (λ f. opened h ≡ Err f) → MatchResult r (λ _. Readable h × Sound (meant h)) (λ _. Readable h → Sound (meant h) → ⊥)
told_exactly h r told = MatchResult-weaker r told
    (λ _ e. let all = then_parts (gathered layer.Tables no_records (records h)) _ (meant h) e in (gathered_readable h all.0 all.1, meant_sound h (ap is_ok e)))
    (λ f e readable sound. ok_not_err (opened h) (meant h) f (sound_opens h readable sound) e)
