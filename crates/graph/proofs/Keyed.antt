-- The look-ups of a graph by owner and key, over any records.
use Rattle.std.proofs.Common.{◌≡◌, ℕ, Bool, true, false, cond, ◌&&◌, eqb, List, [], ◌∷◌, map, Some, sym, refl, ap, ◌∙◌}
use Rattle.std.specs.List.{AllByRecursion}
use Rattle.std.specs.Option.{option_map}
use Rattle.graph.specs.declared.records.Star.{Star}
use Rattle.graph.specs.declared.records.Import.{Import}
use Rattle.graph.specs.declared.records.Export.{Export}
use Rattle.graph.specs.Lookups.{targets_in, exports_in, symbol_in, import_in, owned_by, first_keyed, star_owner, star_target, import_owner, import_symbol, export_owner, export_name, export_symbol}

pub all_from_map : {X Y : Type 0} (P : Y → Type 0) (f : X → Y) (xs : List X) → AllByRecursion P (map f xs) → AllByRecursion (λ x. P (f x)) xs
all_from_map P f [] all = tt
all_from_map P f (x ∷ xs) all = (all.0, all_from_map P f xs all.1)

cond_inside : {X Y : Type 0} (f : X → Y) (b : Bool) (x y : X) → f (cond b x y) ≡ cond b (f x) (f y)
cond_inside f true x y = refl
cond_inside f false x y = refl

pub symbol_keyed : (es : List Export) (m n : ℕ) → symbol_in es m n ≡ option_map export_symbol (first_keyed export_owner export_name es m n)
symbol_keyed [] m n = refl
symbol_keyed (e ∷ es) m n =
    ap (cond (eqb e.owner m && eqb e.name n) (Some e.symbol)) (symbol_keyed es m n)
    ∙ sym (cond_inside (option_map export_symbol) (eqb e.owner m && eqb e.name n) (Some e) (first_keyed export_owner export_name es m n))

pub import_keyed : (is : List Import) (m s : ℕ) → import_in is m s ≡ first_keyed import_owner import_symbol is m s
import_keyed [] m s = refl
import_keyed (i ∷ is) m s = ap (cond (eqb i.owner m && eqb i.symbol s) (Some i)) (import_keyed is m s)

pub targets_owned : (ss : List Star) (m : ℕ) → targets_in ss m ≡ map star_target (owned_by star_owner ss m)
targets_owned [] m = refl
targets_owned (s ∷ ss) m =
    ap (λ l. cond (eqb s.owner m) (s.target ∷ l) l) (targets_owned ss m)
    ∙ sym (cond_inside (map star_target) (eqb s.owner m) (s ∷ owned_by star_owner ss m) (owned_by star_owner ss m))

pub exports_owned : (es : List Export) (m : ℕ) → exports_in es m ≡ owned_by export_owner es m
exports_owned [] m = refl
exports_owned (e ∷ es) m = ap (λ l. cond (eqb e.owner m) (e ∷ l) l) (exports_owned es m)
