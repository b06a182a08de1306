-- The answers of tables are those of their graph.
use Rattle.std.proofs.Common.{◌≡◌, ℕ, ◌≤◌, true, List, [], ◌∷◌, map, length, is_ok, Option, sym, ap, ◌∙◌, subst}
use Rattle.std.specs.List.{slice_get}
use Rattle.std.specs.Option.{option_map}
use Rattle.std.proofs.lemmas.List.{length-map}
use Rattle.std.proofs.lemmas.Option.{slice_get-map}
use Rattle.graph.specs.declared.records.Kind.{Kind}
use Rattle.graph.specs.declared.records.Star.{Star}
use Rattle.graph.specs.declared.records.Export.{Export}
use Rattle.graph.specs.Graphs.{Graph}
use Rattle.graph.specs.Lookups.{owned_by, first_keyed, star_owner, star_target, import_owner, import_symbol, export_owner, export_name, export_symbol, kind_in, targets_in, exports_in, symbol_in, import_in}
use Rattle.graph.specs.Soundness.{Rising, Sound}
use Rattle.graph.proofs.Keyed.{all_from_map, symbol_keyed, import_keyed, targets_owned, exports_owned}
use Rattle.tables.specs.declared.lists.ImportRow.{ImportRow}
use Rattle.tables.specs.Rows.{Held, module_of, import_of, meant}
use Rattle.tables.specs.Opening.{opened, graph_of}
use Rattle.tables.proofs.Owning.{first_map}
use Rattle.tables.proofs.Refused.{row_owner, row_symbol}
use Rattle.tables.proofs.Meaning.{graph_meant, meant_sound}

rising_from_map : {X Y : Type 0} (owner : Y → ℕ) (f : X → Y) (xs : List X) → Rising owner (map f xs) → Rising (λ x. owner (f x)) xs
rising_from_map owner f [] up = tt
rising_from_map owner f (x ∷ xs) up = (all_from_map (λ y. owner (f x) ≤ owner y) f xs up.0, rising_from_map owner f xs up.1)

module _ (h : Held) (opens : is_ok (opened h) ≡ true) where
  -- what is told of all records is told of the graph
  of_graph : {Y : Type 0} (part : Graph → Y) → part (meant h) ≡ part (graph_of h)
  of_graph part = ap part (sym (graph_meant h opens))

  pub module_count : length h.modules ≡ length (graph_of h).modules
  module_count = sym (length-map h.modules (module_of h.bytes)) ∙ of_graph (λ g. length g.modules)

  pub import_count : length h.imports ≡ length (graph_of h).imports
  import_count = sym (length-map h.imports import_of) ∙ of_graph (λ g. length g.imports)

  pub sound : Sound (graph_of h)
  sound = subst Sound (sym (graph_meant h opens)) (meant_sound h opens)

  pub kind_answer : (m : ℕ) (r : Option Kind) → ((run : List ℕ) → r ≡ kind_in (map (module_of run) h.modules) m) → r ≡ kind_in (graph_of h).modules m
  kind_answer m r told = told h.bytes ∙ of_graph (λ g. kind_in g.modules m)

  pub star_answer : (m k : ℕ) (o : Option Star) → (Rising star_owner h.stars → o ≡ slice_get (owned_by star_owner h.stars m) k) → option_map star_target o ≡ slice_get (targets_in (graph_of h).stars m) k
  star_answer m k o told =
      ap (option_map star_target) (told (meant_sound h opens).stars_rise)
      ∙ sym (slice_get-map star_target (owned_by star_owner h.stars m) k)
      ∙ ap (λ l. slice_get l k) (sym (targets_owned h.stars m))
      ∙ of_graph (λ g. slice_get (targets_in g.stars m) k)

  pub export_answer : (m k : ℕ) (o : Option Export) → (Rising export_owner h.exports → o ≡ slice_get (owned_by export_owner h.exports m) k) → o ≡ slice_get (exports_in (graph_of h).exports m) k
  export_answer m k o told = told (meant_sound h opens).exports_rise ∙ ap (λ l. slice_get l k) (sym (exports_owned h.exports m)) ∙ of_graph (λ g. slice_get (exports_in g.exports m) k)

  pub import_answer : (i : ℕ) (o : Option ImportRow) → o ≡ slice_get h.imports i → option_map import_of o ≡ slice_get (graph_of h).imports i
  import_answer i o told = ap (option_map import_of) told ∙ sym (slice_get-map import_of h.imports i) ∙ of_graph (λ g. slice_get g.imports i)

  pub symbol_answer : (m n : ℕ) (o : Option Export) → (Rising export_owner h.exports → o ≡ first_keyed export_owner export_name h.exports m n) → option_map export_symbol o ≡ symbol_in (graph_of h).exports m n
  symbol_answer m n o told = ap (option_map export_symbol) (told (meant_sound h opens).exports_rise) ∙ sym (symbol_keyed h.exports m n) ∙ of_graph (λ g. symbol_in g.exports m n)

  pub behind_answer : (m s : ℕ) (o : Option ImportRow) → (Rising row_owner h.imports → o ≡ first_keyed row_owner row_symbol h.imports m s) → option_map import_of o ≡ import_in (graph_of h).imports m s
  behind_answer m s o told =
      ap (option_map import_of) (told (rising_from_map import_owner import_of h.imports (meant_sound h opens).imports_rise))
      ∙ sym (first_map import_of import_owner import_symbol h.imports m s)
      ∙ sym (import_keyed (map import_of h.imports) m s)
      ∙ of_graph (λ g. import_in g.imports m s)
