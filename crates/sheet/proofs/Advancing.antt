-- One record more: what was known before it is known behind it.
use Rattle.std.proofs.Common.{◌≡◌, ℕ, ◌+◌, ◌-◌, ◌<◌, Bool, false, cond, not, ◌||◌, eqb, leb, List, [], ◌∷◌, ◌++◌, map, length, is_some, Some, None, Ok, Err, Option, Result, sym, refl, ap, ◌∙◌, subst, arith, append_assoc}
use Rattle.std.specs.List.{AllByRecursion}
use Rattle.std.proofs.ByRecursion.{All-push, All-weaker}
use Rattle.std.proofs.lemmas.List.{map_push, length_push}
use Rattle.std.proofs.lemmas.List.Folds.{list_any-append}
use Rattle.std.proofs.lemmas.Bool.Decides.{nat_tests}
use Rattle.graph.specs.declared.fault.Reason.TheVariants.{OutOfOrder}
use Rattle.graph.specs.declared.fault.Reason.{Reason}
use Rattle.graph.specs.declared.records.Wanted.{Wanted}
use Rattle.graph.specs.declared.records.Export.{Export}
use Rattle.graph.specs.declared.records.Import.{Import}
use Rattle.graph.specs.Graphs.{Graph, Module, no_records}
use Rattle.graph.specs.Entries.{Entry, a_name, a_module, a_star, an_import, an_export, grown}
use Rattle.graph.specs.Lookups.{kind_of, symbol_in, import_in}
use Rattle.graph.specs.Opening.{Placed, latest}
use Rattle.graph.specs.Rules.{given_twice, owned_refusal, wants_unknown}
use Rattle.std.proofs.Math.Bool.{or-false}
use Rattle.graph.proofs.Finding.{symbol_push, import_push, symbol_none, import_none}
use Rattle.sheet.specs.declared.fields.Fields.{Fields}
use Rattle.sheet.specs.declared.progress.Progress.{Progress}
use Rattle.sheet.specs.Fields.{fault_at}
use Rattle.sheet.specs.Opening.{entry_refusal, field_refusal, gathered}
use Rattle.sheet.specs.Reading.{fields_left}
use Rattle.sheet.specs.Progressing.{Head, named, Standing, Counts, Advanced, clash, clash_content, clashes}
use Rattle.sheet.proofs.Stepping.{field, gathered_on, gathered_stop}

clashes_push : (e : Entry) (fields : List Placed) (place : ℕ) (x : Entry) → clashes e (fields ++ (field place (Ok x) ∷ [])) ≡ (clashes e fields || clash e x)
clashes_push e fields place x = list_any-append (λ (y : Placed). clash_content e y.content) fields (field place (Ok x) ∷ []) ∙ ap (λ b. clashes e fields || b) (or-false (clash e x))

-- no module has a record of a graph in which all owners stand before it
nothing_twice : (g : Graph) (m : ℕ) → AllByRecursion (λ (i : Import). i.owner < m) g.imports → AllByRecursion (λ (e : Export). e.owner < m) g.exports → (e : Entry) → false ≡ given_twice g m e
nothing_twice g m is es (a_name bytes) = refl
nothing_twice g m is es (a_module k id) = refl
nothing_twice g m is es (a_star target) = refl
nothing_twice g m is es (an_import symbol target wanted) = sym (ap is_some (import_none g.imports m symbol is))
nothing_twice g m is es (an_export name symbol) = sym (ap is_some (symbol_none g.exports m name es))

star_twice : (g : Graph) (m target : ℕ) (e : Entry) → given_twice (grown g m (a_star target)) m e ≡ (given_twice g m e || clash e (a_star target))
star_twice g m target (a_name bytes) = refl
star_twice g m target (a_module k id) = refl
star_twice g m target (a_star t) = refl
star_twice g m target (an_import symbol t wanted) = sym (or-false (is_some (import_in g.imports m symbol)))
star_twice g m target (an_export name symbol) = sym (or-false (is_some (symbol_in g.exports m name)))

import_twice : (g : Graph) (m s t : ℕ) (w : Wanted) (e : Entry) → given_twice (grown g m (an_import s t w)) m e ≡ (given_twice g m e || clash e (an_import s t w))
import_twice g m s t w (a_name bytes) = refl
import_twice g m s t w (a_module k id) = refl
import_twice g m s t w (a_star target) = refl
import_twice g m s t w (an_import symbol target wanted) = import_push g.imports m symbol (record { owner = m; symbol = s; target = t; wanted = w }) refl
import_twice g m s t w (an_export name symbol) = sym (or-false (is_some (symbol_in g.exports m name)))

export_twice : (g : Graph) (m n s : ℕ) (e : Entry) → given_twice (grown g m (an_export n s)) m e ≡ (given_twice g m e || clash e (an_export n s))
export_twice g m n s (a_name bytes) = refl
export_twice g m n s (a_module k id) = refl
export_twice g m n s (a_star target) = refl
export_twice g m n s (an_import symbol target wanted) = sym (or-false (is_some (import_in g.imports m symbol)))
export_twice g m n s (an_export name symbol) = symbol_push g.exports m name n s

module _ (all : List Placed) (s t : Progress) (place : ℕ) (e : Entry) (behind : Fields) (g : Graph) (standing : Standing all s (field place (Ok e) ∷ fields_left behind) g) (none : entry_refusal g e ≡ None) where
  goes_on : gathered (grown g (latest g) e) (fields_left behind) ≡ gathered no_records all
  goes_on = sym (gathered_on g place e (fields_left behind) none) ∙ standing.on

  -- a record that belongs to the latest module
  owned_passes : 0 < length g.modules
      → (stars imports exports : ℕ) → Counts s t stars imports exports s.own (s.owned + 1) s.kinds.items
      → (grown g (latest g) e).names ≡ g.names → (grown g (latest g) e).modules ≡ g.modules
      → length (grown g (latest g) e).stars ≡ stars → length (grown g (latest g) e).imports ≡ imports → length (grown g (latest g) e).exports ≡ exports
      → AllByRecursion (λ (i : Import). i.owner < length g.modules) (grown g (latest g) e).imports
      → AllByRecursion (λ (x : Export). x.owner < length g.modules) (grown g (latest g) e).exports
      → ((x : Entry) → given_twice (grown g (latest g) e) (latest g) x ≡ (given_twice g (latest g) x || clash x e))
      → Standing all t (fields_left behind) (grown g (latest g) e)
  owned_passes some stars imports exports counts names modules star_count import_count export_count import_owners export_owners twice = record {
    counted = record {
      names = ap length names ∙ standing.counted.names ∙ sym counts.names;
      stars = star_count ∙ sym counts.stars_are;
      imports = import_count ∙ sym counts.imports_are;
      exports = export_count ∙ sym counts.exports_are;
      kinds = counts.kinds_are ∙ standing.counted.kinds ∙ ap (map kind_of) (sym modules);
    };
    own = standing.own ++ (field place (Ok e) ∷ []);
    split = ap fields_left counts.own_is ∙ standing.split ∙ sym (append_assoc standing.own (field place (Ok e) ∷ []) (fields_left behind));
    owned = length_push standing.own _ ∙ ap (λ n. n + 1) standing.owned ∙ sym counts.owned_is;
    twice = λ x. clashes_push x standing.own place e ∙ ap (λ b. b || clash x e) (standing.twice x) ∙ sym (twice x) ∙ ap (λ (ms : List Module). given_twice (grown g (latest g) e) (length ms - 1) x) (sym modules);
    import_owners = subst (λ (ms : List Module). AllByRecursion (λ (i : Import). i.owner < length ms) (grown g (latest g) e).imports) (sym modules) import_owners;
    export_owners = subst (λ (ms : List Module). AllByRecursion (λ (x : Export). x.owner < length ms) (grown g (latest g) e).exports) (sym modules) export_owners;
    on = goes_on;
    named = λ zero. let z : length g.modules ≡ 0 = ap length (sym modules) ∙ zero in absurd (omega arith);
  }

-- a record with an owner is passed only where there is a module
some_module : (g : Graph) (count : ℕ) (unknown twice es : Bool) → owned_refusal (eqb (length g.modules) 0) count unknown twice es ≡ None → 0 < length g.modules
some_module g count unknown twice es h = grind (arith, nat_tests)

owner_inside : (g : Graph) → 0 < length g.modules → latest g < length g.modules
owner_inside g h = omega arith

pub passes : (all : List Placed) (s t : Progress) (place : ℕ) (e : Entry) (behind : Fields) (g : Graph) → Standing all s (field place (Ok e) ∷ fields_left behind) g → entry_refusal g e ≡ None → Advanced s e behind t → Standing all t (fields_left behind) (grown g (latest g) e)
passes all s t place (a_name bytes) behind g standing none counts = absurd (standing.named (name_first (length g.modules) _ none) _ _ bytes refl refl)
  where
    name_first : (n : ℕ) (o : Option Reason) → cond (not (eqb n 0)) (Some OutOfOrder) o ≡ None → n ≡ 0
    name_first n o h = grind (arith, nat_tests)
passes all s t place (a_module k id) behind g standing none counts = record {
  counted = record {
    names = standing.counted.names ∙ sym counts.names;
    stars = standing.counted.stars ∙ sym counts.stars_are;
    imports = standing.counted.imports ∙ sym counts.imports_are;
    exports = standing.counted.exports ∙ sym counts.exports_are;
    kinds = counts.kinds_are ∙ ap (λ ks. ks ++ (k ∷ [])) standing.counted.kinds ∙ sym (map_push kind_of g.modules (record { kind = k; id = id }));
  };
  own = [];
  split = ap fields_left counts.own_is;
  owned = sym counts.owned_is;
  twice = λ x. nothing_twice (grown g (latest g) (a_module k id)) _ (subst (λ n. AllByRecursion (λ (i : Import). i.owner < n) g.imports) last standing.import_owners) (subst (λ n. AllByRecursion (λ (e : Export). e.owner < n) g.exports) last standing.export_owners) x;
  import_owners = All-weaker _ _ (λ i h. omega (arith, longer)) g.imports standing.import_owners;
  export_owners = All-weaker _ _ (λ e h. omega (arith, longer)) g.exports standing.export_owners;
  on = goes_on all s t place (a_module k id) behind g standing none;
  named = λ zero. let z : length g.modules + 1 ≡ 0 = sym longer ∙ zero in absurd (omega arith);
}
  where
    longer : length (g.modules ++ (record { kind = k; id = id } ∷ [])) ≡ length g.modules + 1
    longer = length_push g.modules (record { kind = k; id = id })

    last : length g.modules ≡ length (g.modules ++ (record { kind = k; id = id } ∷ [])) - 1
    last = omega (arith, longer)
passes all s t place (a_star target) behind g standing none counts =
    let some = some_module g (length g.stars) false false _ none in
    owned_passes all s t place (a_star target) behind g standing none some (s.stars + 1) s.imports s.exports counts refl refl
    (length_push g.stars _ ∙ ap (λ n. n + 1) standing.counted.stars) standing.counted.imports standing.counted.exports
    standing.import_owners standing.export_owners (star_twice g (latest g) target)
passes all s t place (an_import symbol target wanted) behind g standing none counts =
    let some = some_module g (length g.imports) (wants_unknown (length g.names) wanted) (given_twice g (latest g) (an_import symbol target wanted)) _ none in
    owned_passes all s t place (an_import symbol target wanted) behind g standing none some s.stars (s.imports + 1) s.exports counts refl refl
    standing.counted.stars (length_push g.imports _ ∙ ap (λ n. n + 1) standing.counted.imports) standing.counted.exports
    (All-push _ g.imports _ standing.import_owners (owner_inside g some)) standing.export_owners (import_twice g (latest g) symbol target wanted)
passes all s t place (an_export name symbol) behind g standing none counts =
    let some = some_module g (length g.exports) (leb (length g.names) name) (given_twice g (latest g) (an_export name symbol)) _ none in
    owned_passes all s t place (an_export name symbol) behind g standing none some s.stars s.imports (s.exports + 1) counts refl refl
    standing.counted.stars standing.counted.imports (length_push g.exports _ ∙ ap (λ n. n + 1) standing.counted.exports)
    standing.import_owners (All-push _ g.exports _ standing.export_owners (owner_inside g some)) (export_twice g (latest g) name symbol)

-- a field that is refused ends the opening
pub stops : (all : List Placed) (s : Progress) (place : ℕ) (content : Result Entry Reason) (later : List Placed) (g : Graph) → Standing all s (field place content ∷ later) g → (reason : Reason) → field_refusal g content ≡ Some reason → gathered no_records all ≡ Err (fault_at reason place)
stops all s place content later g standing reason refused = sym standing.on ∙ gathered_stop g place content later reason refused

-- behind the names
pub begins : (all : List Placed) (s : Progress) (left : List Placed) → Head all s.names left → fields_left s.own ≡ left → s.owned ≡ 0 → s.stars ≡ 0 → s.imports ≡ 0 → s.exports ≡ 0 → s.kinds.items ≡ [] → (g : Graph) × Standing all s left g
begins all s left head own owned stars imports exports kinds = (
  named head.names,
  record {
    counted = record {
      names = head.counted;
      stars = sym stars;
      imports = sym imports;
      exports = sym exports;
      kinds = kinds;
    };
    own = [];
    split = own;
    owned = sym owned;
    twice = nothing_twice (named head.names) (latest (named head.names)) tt tt;
    import_owners = tt;
    export_owners = tt;
    on = head.on;
    named = λ _. head.other;
  },
)
