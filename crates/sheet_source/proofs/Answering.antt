-- The answers of a sheet are those of its graph.
use Rattle.std.proofs.Common.{◌≡◌, ℕ, zero, suc, ◌≤◌, Bool, true, false, cond, eqb, ltb, List, [], ◌∷◌, ◌++◌, map, length, is_ok, Some, None, Ok, Err, Option, Result, sym, refl, ap, ◌∙◌, ◌&&◌, subst, ◌+◌, ◌<◌, ◌^◌, append_assoc, arith}
use Rattle.std.specs.Fn.{Called}
use Rattle.std.specs.Iterator.{Yields}
use Rattle.std.specs.Iterator.Runs.{YieldsRun, Trigger, EachRunFrom}
use Rattle.std.specs.declared.iter.FilterMap.{FilterMap}
use Rattle.std.specs.Iterator.Adapters.{filter_map_source, filter_map_callee, filter_map_steps}
use Rattle.std.specs.List.{AllByRecursion, filter_map, find, cons_option}
use Rattle.std.specs.Option.{option_map}
use Rattle.std.proofs.lemmas.Iterator.{YieldsList}
use Rattle.std.proofs.lemmas.Iterator.Consumers.{YieldsList-from_shown, YieldsList-from_filter_map}
use Rattle.std.proofs.lemmas.Iterator.Adapters.{at_most_from_yields_List}
use denote.Param.Members.{Mut}
use Rattle.sheet.specs.declared.records.Record.{Record}
use Rattle.sheet.specs.declared.records.Records.{Records}
use Rattle.std.proofs.lemmas.List.{append-nil, length_push, map_push}
use Rattle.std.proofs.lemmas.Bool.{cond_both}
use Rattle.graph.specs.declared.fault.Fault.{Fault}
use Rattle.graph.specs.declared.fault.Layer.TheVariants as layer
use Rattle.graph.specs.declared.fault.Reason.{Reason}
use Rattle.graph.specs.declared.records.Import.{Import}
use Rattle.graph.specs.declared.records.Export.{Export}
use Rattle.graph.specs.Graphs.{Graph, no_records}
use Rattle.graph.specs.Entries.{Entry, a_name, a_module, a_star, an_import, an_export, grown}
use Rattle.graph.specs.Lookups.{kind_of, symbol_in, import_in, export_symbol}
use Rattle.graph.specs.Rules.{unless, and_then}
use Rattle.graph.specs.Opening.{Placed, latest, content_refusal, with_content, no_name, or_only_default}
use Rattle.graph.proofs.Pushing.{unless_ok}
use Rattle.sheet.specs.Fields.{next_at}
use Rattle.sheet.specs.Opening.{fields_from, gathered, fields_at, aims, too_long, finished, opened, graph_of, entry_then, entries_of, entries}
use Rattle.sheet.specs.Owning.{Owned, owned, owned_of, records_left, record_steps, modules_after, entry_kind, entry_star, entry_import, entry_export}
use Rattle.sheet.proofs.Soundly.{graph_sound}

-- g with these records behind its own
abbrev pub built : Graph → List Entry → Graph
built g [] = g
built g (e ∷ es) = built (grown g (latest g) e) es

unless_passes : {A : Type 0} (o : Option Fault) (r : Result A Fault) (x : A) → unless o r ≡ Ok x → r ≡ Ok x
unless_passes None r x e = e
unless_passes (Some f) r x e = cc

and_then_passes : {A B : Type 0} (r : Result A Fault) (next : A → Result B Fault) (y : B) → and_then r next ≡ Ok y → (x : A) × (r ≡ Ok x) × (next x ≡ Ok y)
and_then_passes (Ok x) next y e = (x, refl, e)
and_then_passes (Err f) next y e = absurd cc

-- no owner is written in a field
ownerless : (steps : ℕ) (bytes : List ℕ) (p : ℕ) → AllByRecursion (λ (f : Placed). f.owner ≡ None) (fields_from steps bytes p)
ownerless zero bytes p = tt
ownerless (suc steps) bytes p = cond_both (ltb p (length bytes)) _ _ (AllByRecursion (λ (f : Placed). f.owner ≡ None)) (λ _. (refl, ownerless steps bytes (next_at bytes p))) (λ _. tt)

gathered_built : (g : Graph) (fs : List Placed) (h : Graph) → AllByRecursion (λ (f : Placed). f.owner ≡ None) fs → gathered g fs ≡ Ok h → h ≡ built g (entries_of fs)
gathered_built g [] h none e = cc
gathered_built g (f ∷ fs) h none e = by_content f.owner none.0 f.content (unless_ok layer.Sheet (content_refusal g f.owner f.content) f.place (gathered (with_content g f.owner f.content) fs) h e) (λ g'. gathered_built g' fs h none.1)
  where
    by_content : (o : Option ℕ) → o ≡ None → (c : Result Entry Reason) → (content_refusal g o c ≡ None) × (gathered (with_content g o c) fs ≡ Ok h) → ((g' : Graph) → gathered g' fs ≡ Ok h → h ≡ built g' (entries_of fs)) → h ≡ built g (entry_then c (entries_of fs))
    by_content o is (Err r) p rest = cc p.0
    by_content None is (Ok e') p rest = rest (grown g (latest g) e') p.1
    by_content (Some m) is (Ok e') p rest = cc

-- the graph of a sheet that opens
opened_built : (bytes : List ℕ) (h : Graph) → opened bytes ≡ Ok h → h ≡ built no_records (entries bytes)
opened_built bytes h e =
    let short = unless_passes (too_long bytes) _ h e in
    let all = and_then_passes (gathered no_records (fields_at bytes 0)) (finished bytes) h short in
    let named = unless_passes (no_name layer.Sheet (length bytes) all.0) _ h all.2 in
    let aimed = unless_passes (aims all.0 (fields_at bytes 0)) _ h named in
    let same : h ≡ all.0 = cc aimed in
    same ∙ gathered_built no_records (fields_at bytes 0) all.0 (ownerless (length bytes) bytes 0) all.1

-- ys with what o holds, if it holds something, behind its own
abbrev pushed : {Y : Type 0} → List Y → Option Y → List Y
pushed ys None = ys
pushed ys (Some y) = ys ++ (y ∷ [])

pushed_append : {Y : Type 0} (ys : List Y) (o : Option Y) (rest : List Y) → pushed ys o ++ rest ≡ ys ++ cons_option o rest
pushed_append ys None rest = refl
pushed_append ys (Some y) rest = append_assoc ys (y ∷ []) rest

-- what each record adds to the lists of a graph
record Grows (g : Graph) (e : Entry) : Type 0 where
  kinds : map kind_of (grown g (latest g) e).modules ≡ pushed (map kind_of g.modules) (entry_kind e)
  stars : (grown g (latest g) e).stars ≡ pushed g.stars (entry_star (latest g) e)
  imports : (grown g (latest g) e).imports ≡ pushed g.imports (entry_import (latest g) e)
  exports : (grown g (latest g) e).exports ≡ pushed g.exports (entry_export (latest g) e)

grows : (g : Graph) (e : Entry) → Grows g e
grows g (a_name bytes) = record { kinds = refl; stars = refl; imports = refl; exports = refl }
grows g (a_module k id) = record { kinds = map_push kind_of g.modules (record { kind = k; id = id }); stars = refl; imports = refl; exports = refl }
grows g (a_star target) = record { kinds = refl; stars = refl; imports = refl; exports = refl }
grows g (an_import symbol target wanted) = record { kinds = refl; stars = refl; imports = refl; exports = refl }
grows g (an_export name symbol) = record { kinds = refl; stars = refl; imports = refl; exports = refl }

-- how many modules there are
pub modules_grown : (g : Graph) (e : Entry) → length (grown g (latest g) e).modules ≤ 65535 → length (grown g (latest g) e).modules ≡ modules_after (length g.modules) e
modules_grown g (a_name bytes) few = refl
modules_grown g (a_module k id) few = omega (arith, length_push g.modules (record { kind = k; id = id }))
modules_grown g (a_star target) few = refl
modules_grown g (an_import symbol target wanted) few = refl
modules_grown g (an_export name symbol) few = refl

no_fewer : (g : Graph) (e : Entry) → length g.modules ≤ length (grown g (latest g) e).modules
no_fewer g (a_name bytes) = omega arith
no_fewer g (a_module k id) = omega (arith, length_push g.modules (record { kind = k; id = id }))
no_fewer g (a_star target) = omega arith
no_fewer g (an_import symbol target wanted) = omega arith
no_fewer g (an_export name symbol) = omega arith

pub built_no_fewer : (g : Graph) (es : List Entry) → length g.modules ≤ length (built g es).modules
built_no_fewer g [] = omega arith
built_no_fewer g (e ∷ es) = omega (arith, no_fewer g e, built_no_fewer (grown g (latest g) e) es)

-- a list of the graph holds what each record adds to it
module _ {Y : Type 0} (part : Graph → List Y) (pick : ℕ → Entry → Option Y) (step : (g : Graph) (e : Entry) → part (grown g (latest g) e) ≡ pushed (part g) (pick (latest g) e)) where
  built_part : (g : Graph) (es : List Entry) → length (built g es).modules ≤ 65535 → part (built g es) ≡ part g ++ filter_map (λ (x : Owned). pick x.owner x.entry) (owned (length g.modules) es)
  built_part g [] few = sym (append-nil (part g))
  built_part g (e ∷ es) few =
      let few_here : length (grown g (latest g) e).modules ≤ 65535 = omega (arith, built_no_fewer (grown g (latest g) e) es) in
      built_part (grown g (latest g) e) es few
      ∙ ap (λ n. part (grown g (latest g) e) ++ filter_map (λ (x : Owned). pick x.owner x.entry) (owned n es)) (modules_grown g e few_here)
      ∙ ap (λ l. l ++ filter_map (λ (x : Owned). pick x.owner x.entry) (owned (modules_after (length g.modules) e) es)) (step g e)
      ∙ pushed_append (part g) (pick (latest g) e) (filter_map (λ (x : Owned). pick x.owner x.entry) (owned (modules_after (length g.modules) e) es))

module _ (bytes : List ℕ) (opens : is_ok (opened bytes) ≡ true) where
  pub sheet_built : graph_of bytes ≡ built no_records (entries bytes)
  sheet_built = opened_built bytes (graph_of bytes) (is_opened (opened bytes) opens)
    where
      is_opened : (r : Result Graph Fault) → is_ok r ≡ true → r ≡ Ok (or_only_default r)
      is_opened (Ok g) e = refl
      is_opened (Err f) e = absurd cc

  pub few_modules : length (built no_records (entries bytes)).modules ≤ 65535
  few_modules = let few = (graph_sound bytes).module_limit in omega (arith, ap (λ (g : Graph). length g.modules) sheet_built)

  pub kinds_are : map kind_of (graph_of bytes).modules ≡ filter_map (λ (x : Owned). entry_kind x.entry) (owned 0 (entries bytes))
  kinds_are = ap (λ (g : Graph). map kind_of g.modules) sheet_built ∙ built_part (λ g. map kind_of g.modules) (λ _ e. entry_kind e) (λ g e. (grows g e).kinds) no_records (entries bytes) few_modules

  pub stars_are : (graph_of bytes).stars ≡ filter_map (λ (x : Owned). entry_star x.owner x.entry) (owned 0 (entries bytes))
  stars_are = ap (λ (g : Graph). g.stars) sheet_built ∙ built_part (λ g. g.stars) entry_star (λ g e. (grows g e).stars) no_records (entries bytes) few_modules

  pub imports_are : (graph_of bytes).imports ≡ filter_map (λ (x : Owned). entry_import x.owner x.entry) (owned 0 (entries bytes))
  imports_are = ap (λ (g : Graph). g.imports) sheet_built ∙ built_part (λ g. g.imports) entry_import (λ g e. (grows g e).imports) no_records (entries bytes) few_modules

  pub exports_are : (graph_of bytes).exports ≡ filter_map (λ (x : Owned). entry_export x.owner x.entry) (owned 0 (entries bytes))
  exports_are = ap (λ (g : Graph). g.exports) sheet_built ∙ built_part (λ g. g.exports) entry_export (λ g e. (grows g e).exports) no_records (entries bytes) few_modules

-- a chain that goes through a sheet's records, and picks of them what stands in a list of its graph
pub picked : {Y F : Type 0} (pick : Owned → Option Y) {ys : List Y} {records : List Owned} {s : FilterMap Records F} (g : Mut F (Record × Unit {0}) (Option Y)) {f : F} → ys ≡ filter_map pick records → records_left (filter_map_source s) ≡ records → filter_map_callee s ≡ f → ((x : Record) (r : Option Y) (q : F) → Called g f (x, tt) r q → (q ≡ f) × (r ≡ pick (owned_of x))) → YieldsList (filter_map_steps record_steps g) (λ y. y) s ys
picked pick {s = s} g are left callee picks =
    let all = YieldsList-from_shown record_steps owned_of records_left (λ t u gives. ap length gives.0.0) (λ t x u gives. gives.0) (filter_map_source s) in
    rw are (YieldsList-from_filter_map g pick (subst (YieldsList record_steps owned_of (filter_map_source s)) left all) callee picks)

-- a chain of so few may be counted
pub may_count : {S A B : Type 0} {steps : S → Option A → S → Type 0} {v : A → B} {s : S} {ys : List B} → YieldsList steps v s ys → length ys ≤ 1024 → EachRunFrom steps s (λ p. Trigger (2 ^ 64) → 0 + p.len < 2 ^ 64)
unfolding YieldsRun
may_count {steps = steps} gives few = λ p seen from _. let fits = (at_most_from_yields_List gives few).runs p.items p.gave.0.0 (subst (λ u. Yields steps u p.items p.gave.0.0) from p.gave.0.1) in omega (arith, p.long)

-- the look-ups by two numbers, as searches
pub import_found : (is : List Import) (m s : ℕ) → import_in is m s ≡ find (λ (i : Import). eqb i.owner m && eqb i.symbol s) is
import_found [] m s = refl
import_found (i ∷ is) m s = ap (cond (eqb i.owner m && eqb i.symbol s) (Some i)) (import_found is m s)

pub symbol_found : (es : List Export) (m n : ℕ) → symbol_in es m n ≡ option_map export_symbol (find (λ (e : Export). eqb e.owner m && eqb e.name n) es)
symbol_found [] m n = refl
symbol_found (e ∷ es) m n = ap (cond (eqb e.owner m && eqb e.name n) (Some e.symbol)) (symbol_found es m n) ∙ mapped (eqb e.owner m && eqb e.name n)
  where
    mapped : (b : Bool) → cond b (Some e.symbol) (option_map export_symbol (find (λ (e' : Export). eqb e'.owner m && eqb e'.name n) es)) ≡ option_map export_symbol (cond b (Some e) (find (λ (e' : Export). eqb e'.owner m && eqb e'.name n) es))
    mapped true = refl
    mapped false = refl
