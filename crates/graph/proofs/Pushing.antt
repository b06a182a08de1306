-- One record more: a graph that breaks no rule breaks none behind a record that passes the rules.
use Rattle.std.proofs.Common.{◌≡◌, ℕ, zero, suc, ◌+◌, ◌<◌, ◌≤◌, Bool, true, false, cond, not, ◌&&◌, eqb, leb, List, [], ◌∷◌, ◌++◌, length, is_some, Some, None, Ok, Option, Result, sym, refl, ap, ◌∙◌, arith}
use Rattle.std.specs.List.{slice_get, AllByRecursion}
use Rattle.std.specs.Str.{bytes_eq}
use Rattle.std.proofs.ByRecursion.{All-push, All-weaker}
use Rattle.std.proofs.lemmas.Slice.Eq.{bytes_eq-Decides}
use Rattle.std.proofs.lemmas.List.{length_push}
use Rattle.std.proofs.lemmas.Bool.{both_ways, not-false, leb-true, leb-false, or_parts, and_parts}
use Rattle.std.proofs.lemmas.Bool.Decides.{nat_tests, not_from_Decides}
use Rattle.graph.specs.declared.fault.Fault.{Fault}
use Rattle.graph.specs.declared.fault.Layer.{Layer}
use Rattle.graph.specs.declared.fault.Reason.{Reason}
use Rattle.graph.specs.declared.records.Kind.{Kind}
use Rattle.graph.specs.declared.records.Kind.TheVariants as kind
use Rattle.graph.specs.declared.records.Wanted.{Wanted}
use Rattle.graph.specs.declared.records.Wanted.TheVariants.{Name, Whole}
use Rattle.graph.specs.declared.records.Star.{Star}
use Rattle.graph.specs.declared.records.Import.{Import}
use Rattle.graph.specs.declared.records.Export.{Export}
use Rattle.graph.specs.Graphs.{Graph, Module, default_name, no_records, only_default}
use Rattle.graph.specs.Entries.{Entry, a_name, a_module, a_star, an_import, an_export, grown}
use Rattle.graph.specs.Lookups.{kind_in, symbol_in, import_in}
use Rattle.graph.specs.Rules.{sized, listed, wrong_name, misnamed, over_limit, wants_unknown, unknown_name, given_twice, is_es, is_external, wrong_owner, aim_refusal, placed, either_fault, unless}
use Rattle.graph.specs.Soundness.{Pairwise, Sized, EsModule, NotExternal, Known, OtherExport, OtherImport, Sound}

-- what goes from a list to its first element and the rest holds of each element
pub all_by_steps : {X : Type 0} (P : List X → Type 0) (Q : X → Type 0) → ((x : X) (xs : List X) → P (x ∷ xs) → Q x × P xs) → (xs : List X) → P xs → AllByRecursion Q xs
all_by_steps P Q step [] h = tt
all_by_steps P Q step (x ∷ xs) h = let parts = step x xs h in (parts.0, all_by_steps P Q step xs parts.1)

pub all_both : {X : Type 0} (P Q : X → Type 0) (xs : List X) → AllByRecursion P xs → AllByRecursion Q xs → AllByRecursion (λ x. P x × Q x) xs
all_both P Q [] p q = tt
all_both P Q (x ∷ xs) p q = ((p.0, q.0), all_both P Q xs p.1 q.1)

pub pairwise_push : {X : Type 0} (R : X → X → Type 0) (xs : List X) (x : X) → Pairwise R xs → AllByRecursion (λ y. R y x) xs → Pairwise R (xs ++ (x ∷ []))
pairwise_push R [] x pairs all = (tt, tt)
pairwise_push R (y ∷ ys) x pairs all = (All-push (R y) ys x pairs.0 all.0, pairwise_push R ys x pairs.1 all.1)

pub pairwise_weaker : {X : Type 0} (R S : X → X → Type 0) → ((x y : X) → R x y → S x y) → (xs : List X) → Pairwise R xs → Pairwise S xs
pairwise_weaker R S f [] pairs = tt
pairwise_weaker R S f (x ∷ xs) pairs = (All-weaker (R x) (S x) (f x) xs pairs.0, pairwise_weaker R S f xs pairs.1)

-- no fault: the first test fails, and nothing comes behind it
pub cond_none : {Y : Type 0} (b : Bool) (y : Y) (o : Option Y) → cond b (Some y) o ≡ None → (b ≡ false) × (o ≡ None)
cond_none true y o h = (cc, cc)
cond_none false y o h = (refl, h)

pub either_none : (layer : Layer) (r : Option Reason) (place : ℕ) (later : Option Fault) → either_fault (placed layer r place) later ≡ None → (r ≡ None) × (later ≡ None)
either_none layer (Some reason) place later h = (cc, cc)
either_none layer None place later h = (refl, h)

pub unless_ok : {A : Type 0} (layer : Layer) (r : Option Reason) (place : ℕ) (later : Result A Fault) (x : A) → unless (placed layer r place) later ≡ Ok x → (r ≡ None) × (later ≡ Ok x)
unless_ok layer (Some reason) place later x h = (cc, cc)
unless_ok layer None place later x h = (refl, h)

none_is : {Y : Type 0} (o : Option Y) → is_some o ≡ false → o ≡ None
none_is (Some y) h = cc
none_is None h = refl

pub sized_told : (low high : ℕ) (bytes : List ℕ) → sized low high bytes ≡ true → Sized low high bytes
sized_told low high bytes h = let parts = and_parts _ _ h in (leb-true low (length bytes) parts.0, leb-true (length bytes) high parts.1)

-- the kinds of the modules that there are: behind one module more, and the number's bound
pub kind_push : (ms : List Module) (x : Module) (m : ℕ) (k : Kind) → kind_in ms m ≡ Some k → kind_in (ms ++ (x ∷ [])) m ≡ Some k
kind_push [] x m k h = cc
kind_push (y ∷ ys) x zero k h = h
kind_push (y ∷ ys) x (suc m) k h = kind_push ys x m k h

pub kind_inside : (ms : List Module) (m : ℕ) (k : Kind) → kind_in ms m ≡ Some k → m < length ms
kind_inside [] m k h = let never : ◌≡◌ {A = ℕ} 0 1 = cc in absurd (omega arith)
kind_inside (y ∷ ys) zero k h = omega arith
kind_inside (y ∷ ys) (suc m) k h = let inside : m < length ys = kind_inside ys m k h in omega arith

es_told : (o : Option Kind) → not (is_es o) ≡ false → o ≡ Some kind.Es
es_told (Some kind.Es) h = refl
es_told (Some kind.External) h = cc
es_told (Some kind.Empty) h = cc
es_told None h = cc

star_aimed : (whole : Graph) (target : ℕ) → aim_refusal whole (a_star target) ≡ None → NotExternal whole target
star_aimed whole target aimed =
    let there = cond_none (leb (length whole.modules) target) _ _ aimed in
    let other = cond_none (is_external (kind_in whole.modules target)) _ _ there.1 in
    (leb-false _ _ there.0, λ e. both_ways _ other.0 (ap is_external e))

known_told : (g : Graph) (w : Wanted) → wants_unknown (length g.names) w ≡ false → Known g w
known_told g (Name n) h = leb-false (length g.names) n h
known_told g Whole h = tt

known_wider : (g h : Graph) → length g.names ≤ length h.names → (w : Wanted) → Known g w → Known h w
known_wider g h longer (Name n) known = omega arith
known_wider g h longer Whole known = tt

-- at most so many elements, each fine, and each standing to each later one as it should
pub record Listing {X : Type 0} (most : ℕ) (Fine : X → Type 0) (Follows : X → X → Type 0) (xs : List X) : Type 0 where
  pub limit : length xs ≤ most
  pub each : AllByRecursion Fine xs
  pub pairs : Pairwise Follows xs

module _ {X : Type 0} {most : ℕ} {Fine : X → Type 0} {Follows : X → X → Type 0} {xs : List X} (listing : Listing most Fine Follows xs) where
  listing_push : (x : X) → leb most (length xs) ≡ false → Fine x → AllByRecursion (λ y. Follows y x) xs → Listing most Fine Follows (xs ++ (x ∷ []))
  listing_push x room fine behind = record {
    limit = omega (arith, length_push xs x, leb-false most (length xs) room);
    each = All-push Fine xs x listing.each fine;
    pairs = pairwise_push Follows xs x listing.pairs behind;
  }

  listing_weaker : (Fine' : X → Type 0) → ((x : X) → Fine x → Fine' x) → Listing most Fine' Follows xs
  listing_weaker Fine' f = record { limit = listing.limit; each = All-weaker Fine Fine' f xs listing.each; pairs = listing.pairs }

-- what a record with an owner has in g, and what its target has in the whole graph
abbrev pub StarFits : Graph → Graph → Star → Type 0
StarFits whole g s = EsModule g s.owner × NotExternal whole s.target

abbrev pub ImportFits : Graph → Graph → Import → Type 0
ImportFits whole g i = EsModule g i.owner × (i.target < length whole.modules) × Known g i.wanted

abbrev pub ExportFits : Graph → Export → Type 0
ExportFits g e = EsModule g e.owner × (e.name < length g.names)

-- owners do not fall, and nothing is given twice
abbrev pub StarFollows : Star → Star → Type 0
StarFollows a b = a.owner ≤ b.owner

abbrev pub ImportFollows : Import → Import → Type 0
ImportFollows a b = (a.owner ≤ b.owner) × OtherImport a b

abbrev pub ExportFollows : Export → Export → Type 0
ExportFollows a b = (a.owner ≤ b.owner) × OtherExport a b

-- the first name, where there is one
abbrev pub Begins : List (List ℕ) → Type 0
Begins [] = Unit {0}
Begins (x ∷ xs) = x ≡ default_name

-- g is sound as far as it goes, where the targets of its records lie in the whole graph
pub record SoFar (whole g : Graph) : Type 0 where
  pub names : Listing 1024 (Sized 1 255) (λ a b. a ≡ b → ⊥) g.names
  pub begins : Begins g.names
  pub modules : Listing 256 (λ (m : Module). Sized 1 64 m.id) (λ _ _. Unit {0}) g.modules
  pub stars : Listing 1024 (StarFits whole g) StarFollows g.stars
  pub imports : Listing 1024 (ImportFits whole g) ImportFollows g.imports
  pub exports : Listing 1024 (ExportFits g) ExportFollows g.exports

-- the sizes of a record's bytes
abbrev pub Formed : Entry → Type 0
Formed (a_name bytes) = Sized 1 255 bytes
Formed (a_module k id) = Sized 1 64 id
Formed (a_star target) = Unit {0}
Formed (an_import symbol target wanted) = Unit {0}
Formed (an_export name symbol) = Unit {0}

-- no record of its sort has a later owner
abbrev pub Behind : Graph → ℕ → Entry → Type 0
Behind g owner (a_name bytes) = Unit {0}
Behind g owner (a_module k id) = Unit {0}
Behind g owner (a_star target) = AllByRecursion (λ (s : Star). s.owner ≤ owner) g.stars
Behind g owner (an_import symbol target wanted) = AllByRecursion (λ (i : Import). i.owner ≤ owner) g.imports
Behind g owner (an_export name symbol) = AllByRecursion (λ (e : Export). e.owner ≤ owner) g.exports

-- a record behind those of g passes every rule
pub record Passes (whole g : Graph) (owner : ℕ) (e : Entry) : Type 0 where
  pub formed : Formed e
  pub behind : Behind g owner e
  pub well_named : misnamed g e ≡ false
  pub room : over_limit g e ≡ false
  pub known : unknown_name g e ≡ false
  pub once : given_twice g owner e ≡ false
  pub owned : wrong_owner g owner e ≡ false
  pub aimed : aim_refusal whole e ≡ None

pub nothing_so_far : (whole : Graph) → SoFar whole no_records
nothing_so_far whole = record { names = nothing; begins = tt; modules = nothing; stars = nothing; imports = nothing; exports = nothing }
  where
    nothing : {X : Type 0} {most : ℕ} {Fine : X → Type 0} {Follows : X → X → Type 0} → Listing most Fine Follows []
    nothing = record { limit = omega arith; each = tt; pairs = tt }

-- behind a name that is not wrong the first name is as it should be, and the earlier ones are others
begins_push : (names : List (List ℕ)) (bytes : List ℕ) → wrong_name names bytes ≡ false → Begins names → Begins (names ++ (bytes ∷ []))
begins_push [] bytes h begins = (bytes_eq-Decides bytes default_name).0 (not-false _ h)
begins_push (x ∷ xs) bytes h begins = begins

new_name : (names : List (List ℕ)) (bytes : List ℕ) → wrong_name names bytes ≡ false → AllByRecursion (λ x. x ≡ bytes → ⊥) names
new_name [] bytes h = tt
new_name (x ∷ xs) bytes h = all_by_steps (λ names. listed bytes names ≡ false) (λ y. y ≡ bytes → ⊥) (λ y ys k. let parts = or_parts (bytes_eq bytes y) (listed bytes ys) k in ((λ e. not_from_Decides _ (bytes_eq-Decides bytes y) parts.0 (sym e)), parts.1)) (x ∷ xs) h

differs : (a b c d : ℕ) → (eqb a b && eqb c d) ≡ false → a ≡ b → c ≡ d → ⊥
differs a b c d h p q = grind (arith, nat_tests)

-- where a look-up by an owner and a number finds nothing, each element has another owner or another number
none_found : {X Y : Type 0} (F : List X → Option Y) (owner number : X → ℕ) (value : X → Y) (m n : ℕ) → ((x : X) (xs : List X) → F (x ∷ xs) ≡ cond (eqb (owner x) m && eqb (number x) n) (Some (value x)) (F xs)) → (xs : List X) → is_some (F xs) ≡ false → AllByRecursion (λ x. owner x ≡ m → number x ≡ n → ⊥) xs
none_found F owner number value m n step xs h = all_by_steps (λ ys. F ys ≡ None) (λ y. owner y ≡ m → number y ≡ n → ⊥) (λ y ys none. let parts = cond_none _ (value y) (F ys) (sym (step y ys) ∙ none) in (differs (owner y) m (number y) n parts.0, parts.1)) xs (none_is (F xs) h)

pub so_far_push : (whole g : Graph) (owner : ℕ) (e : Entry) → SoFar whole g → Passes whole g owner e → SoFar whole (grown g owner e)
so_far_push whole g owner (a_name bytes) so passes = record {
  names = listing_push so.names bytes passes.room passes.formed (new_name g.names bytes passes.well_named);
  begins = begins_push g.names bytes passes.well_named so.begins;
  modules = so.modules;
  stars = so.stars;
  imports = listing_weaker so.imports _ (λ i fits. (fits.0, fits.1, known_wider g (grown g owner (a_name bytes)) (omega (arith, longer)) i.wanted fits.2));
  exports = listing_weaker so.exports _ (λ e fits. (fits.0, omega (arith, longer, fits.1)));
}
  where
    longer : length (g.names ++ (bytes ∷ [])) ≡ length g.names + 1
    longer = length_push g.names bytes
so_far_push whole g owner (a_module k id) so passes = record {
  names = so.names;
  begins = so.begins;
  modules = listing_push so.modules m passes.room passes.formed (All-weaker _ _ (λ _ _. tt) g.modules so.modules.each);
  stars = listing_weaker so.stars _ (λ s fits. (still s.owner fits.0, fits.1));
  imports = listing_weaker so.imports _ (λ i fits. (still i.owner fits.0, fits.1, fits.2));
  exports = listing_weaker so.exports _ (λ e fits. (still e.owner fits.0, fits.1));
}
  where
    m : Module
    m = record { kind = k; id = id }

    still : (n : ℕ) → kind_in g.modules n ≡ Some kind.Es → kind_in (g.modules ++ (m ∷ [])) n ≡ Some kind.Es
    still n h = kind_push g.modules m n kind.Es h
so_far_push whole g owner (a_star target) so passes = record {
  names = so.names;
  begins = so.begins;
  modules = so.modules;
  stars = listing_push so.stars _ passes.room (es_told _ passes.owned, star_aimed whole target passes.aimed) passes.behind;
  imports = so.imports;
  exports = so.exports;
}
so_far_push whole g owner (an_import symbol target wanted) so passes = record {
  names = so.names;
  begins = so.begins;
  modules = so.modules;
  stars = so.stars;
  imports = listing_push so.imports _ passes.room (es_told _ passes.owned, leb-false _ _ (cond_none (leb (length whole.modules) target) _ _ passes.aimed).0, known_told g wanted passes.known) (all_both _ _ g.imports passes.behind (none_found (λ is. import_in is owner symbol) (λ (i : Import). i.owner) (λ (i : Import). i.symbol) (λ i. i) owner symbol (λ _ _. refl) g.imports passes.once));
  exports = so.exports;
}
so_far_push whole g owner (an_export name symbol) so passes = record {
  names = so.names;
  begins = so.begins;
  modules = so.modules;
  stars = so.stars;
  imports = so.imports;
  exports = listing_push so.exports _ passes.room (es_told _ passes.owned, leb-false _ _ passes.known) (all_both _ _ g.exports passes.behind (none_found (λ es. symbol_in es owner name) (λ (e : Export). e.owner) (λ (e : Export). e.name) (λ (e : Export). e.symbol) owner name (λ _ _. refl) g.exports passes.once));
}

-- a whole graph with a name
pub so_far_sound : (g : Graph) → SoFar g g → 0 < length g.names → Sound g
so_far_sound g so some = record {
  name_sizes = so.names.each;
  id_sizes = so.modules.each;
  name_limit = so.names.limit;
  module_limit = so.modules.limit;
  star_limit = so.stars.limit;
  import_limit = so.imports.limit;
  export_limit = so.exports.limit;
  first_name = first_is g.names some so.begins;
  names_differ = so.names.pairs;
  stars_rise = so.stars.pairs;
  imports_rise = pairwise_weaker _ _ (λ _ _ follows. follows.0) g.imports so.imports.pairs;
  exports_rise = pairwise_weaker _ _ (λ _ _ follows. follows.0) g.exports so.exports.pairs;
  star_owners = All-weaker _ _ (λ _ fits. fits.0) g.stars so.stars.each;
  import_owners = All-weaker _ _ (λ _ fits. fits.0) g.imports so.imports.each;
  export_owners = All-weaker _ _ (λ _ fits. fits.0) g.exports so.exports.each;
  star_targets = All-weaker _ _ (λ _ fits. fits.1) g.stars so.stars.each;
  import_targets = All-weaker _ _ (λ _ fits. fits.1) g.imports so.imports.each;
  import_names = All-weaker _ _ (λ _ fits. fits.2) g.imports so.imports.each;
  export_names = All-weaker _ _ (λ _ fits. fits.1) g.exports so.exports.each;
  exports_differ = pairwise_weaker _ _ (λ _ _ follows. follows.1) g.exports so.exports.pairs;
  imports_differ = pairwise_weaker _ _ (λ _ _ follows. follows.1) g.imports so.imports.pairs;
}
  where
    first_is : (names : List (List ℕ)) → 0 < length names → Begins names → slice_get names 0 ≡ Some default_name
    first_is [] none begins = absurd (omega arith)
    first_is (x ∷ xs) more begins = ap Some begins

pub default_sound : Sound only_default
default_sound = so_far_sound only_default (so_far_push only_default no_records 0 (a_name default_name) (nothing_so_far only_default) passes) (omega arith)
  where
    passes : Passes only_default no_records 0 (a_name default_name)
    passes = record { formed = (omega arith, omega arith); behind = tt; well_named = refl; room = refl; known = refl; once = refl; owned = refl; aimed = refl }
