-- One record more of each list.
use Rattle.std.specs.Prelude.{◌≡◌, ℕ, List, [], map, Some, None, Ok, Err, Option, Result}
use Rattle.std.proofs.Common.{sym, ◌∙◌, ap}
use Rattle.std.specs.Option.{unwrap_or}
use Rattle.std.proofs.lemmas.List.{map_push}
use Rattle.std.proofs.lemmas.Bool.{true≢false, cond_both}
use Rattle.graph.specs.declared.fault.Reason.{Reason}
use Rattle.graph.specs.declared.fault.Reason.TheVariants.{Malformed}
use Rattle.graph.specs.declared.records.Kind.{Kind}
use Rattle.graph.specs.declared.records.Kind.TheVariants as kind
use Rattle.graph.specs.Graphs.{Module}
use Rattle.graph.specs.Entries.{Entry, a_name, a_module, an_import}
use Rattle.graph.specs.Rules.{name_sized, id_sized, kind_numbered, of_kind, name_entry, module_entry, wanted_numbered}
use Rattle.graph.specs.Opening.{with_content}
use Rattle.tables.specs.declared.lists.Span.{Span}
use Rattle.tables.specs.declared.lists.ModuleRow.{ModuleRow}
use Rattle.tables.specs.Spans.{inside, bytes_in}
use Rattle.tables.specs.Rows.{Held, no_owner, name_content, module_content, import_writes, import_content, module_of, import_of, with_names, with_modules, with_imports}
use Rattle.tables.specs.Staging.{Grows}

never_ok : {P : Type 0} (e : Entry) (r : Reason) → Err r ≡ Ok e → P
never_ok e r bad = absurd (true≢false (cc bad))

-- what a name and a module say, where they can be read
pub name_told : (run : List ℕ) (s : Span) (e : Entry) → name_content run s ≡ Ok e → e ≡ a_name (bytes_in run s)
name_told run s e = cond_both (inside run s) (name_entry (bytes_in run s)) (Err Malformed) (λ c. c ≡ Ok e → e ≡ a_name (bytes_in run s))
    (λ _. cond_both (name_sized (bytes_in run s)) (Ok (a_name (bytes_in run s))) (Err Malformed) (λ c. c ≡ Ok e → e ≡ a_name (bytes_in run s)) (λ _ is. cc) (λ _. never_ok e Malformed))
    (λ _. never_ok e Malformed)

pub module_told : (run : List ℕ) (m : ModuleRow) (e : Entry) → module_content run m ≡ Ok e → e ≡ a_module (module_of run m).kind (bytes_in run m.id)
module_told run m e = cond_both (inside run m.id) (module_entry m.kind (bytes_in run m.id)) (Err Malformed) Told
    (λ _. cond_both (id_sized (bytes_in run m.id)) (of_kind (kind_numbered m.kind) (bytes_in run m.id)) (Err Malformed) Told (λ _. by_kind (kind_numbered m.kind)) (λ _. never_ok e Malformed))
    (λ _. never_ok e Malformed)
  where
    Told : Result Entry Reason → Type 0
    Told c = c ≡ Ok e → e ≡ a_module (module_of run m).kind (bytes_in run m.id)

    by_kind : (k : Option Kind) → of_kind k (bytes_in run m.id) ≡ Ok e → e ≡ a_module (unwrap_or k kind.Empty) (bytes_in run m.id)
    by_kind None = never_ok e Malformed
    by_kind (Some k) = λ is. cc

module _ (h : Held) where
  pub names_grow : Grows no_owner (name_content h.bytes) (with_names h)
  names_grow xs x e is =
      ap (λ y. with_content (with_names h xs) None (Ok y)) (name_told h.bytes x e is)
      ∙ ap (λ (l : List (List ℕ)). record { names = l; modules = []; stars = []; imports = []; exports = [] }) (sym (map_push (bytes_in h.bytes) xs x))

  pub modules_grow : Grows no_owner (module_content h.bytes) (with_modules h)
  modules_grow xs x e is =
      ap (λ y. with_content (with_modules h xs) None (Ok y)) (module_told h.bytes x e is)
      ∙ ap (λ (l : List Module). record { names = map (bytes_in h.bytes) h.names; modules = l; stars = []; imports = []; exports = [] }) (sym (map_push (module_of h.bytes) xs x))

  pub imports_grow : Grows import_writes (import_content h.bytes) (with_imports h)
  imports_grow xs x e is =
      let told : e ≡ an_import x.symbol x.target (wanted_numbered x.name) = cc in
      ap (λ y. with_content (with_imports h xs) (import_writes x) (Ok y)) told
      ∙ ap (λ l. record { names = map (bytes_in h.bytes) h.names; modules = map (module_of h.bytes) h.modules; stars = h.stars; imports = l; exports = [] }) (sym (map_push import_of xs x))
