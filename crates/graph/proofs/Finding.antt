-- Look-ups for the first element that passes a test.
use Rattle.std.proofs.Common.{◌≡◌, ℕ, ◌<◌, Bool, true, false, cond, ◌&&◌, ◌||◌, eqb, List, [], ◌∷◌, ◌++◌, is_some, Some, None, Option, refl, ap, ◌∙◌, arith}
use Rattle.std.specs.List.{AllByRecursion}
use Rattle.std.proofs.ByRecursion.{All-weaker}
use Rattle.std.proofs.lemmas.Bool.{and_left, ne_eqb, eq-eqb}
use Rattle.std.proofs.lemmas.List.Recursion.{or_push}
use Rattle.graph.specs.declared.records.Export.{Export}
use Rattle.graph.specs.declared.records.Import.{Import}
use Rattle.graph.specs.Lookups.{symbol_in, import_in}

some_told : {Y : Type 0} (b : Bool) (y : Y) (o : Option Y) → is_some (cond b (Some y) o) ≡ (b || is_some o)
some_told true y o = refl
some_told false y o = refl

module _ {X Y : Type 0} (F : List X → Option Y) (test : X → Bool) (f : X → Y) (none : F [] ≡ None) (step : (x : X) (xs : List X) → F (x ∷ xs) ≡ cond (test x) (Some (f x)) (F xs)) where
  -- one element more at the end
  pub found_push : (xs : List X) (x : X) → is_some (F (xs ++ (x ∷ []))) ≡ (is_some (F xs) || test x)
  found_push = or_push (λ l. is_some (F l)) test (ap is_some none) (λ x xs. ap is_some (step x xs) ∙ some_told (test x) (f x) (F xs))

  pub found_none : (xs : List X) → AllByRecursion (λ x. test x ≡ false) xs → F xs ≡ None
  found_none [] all = none
  found_none (x ∷ xs) all = step x xs ∙ ap (λ b. cond b (Some (f x)) (F xs)) all.0 ∙ found_none xs all.1

-- behind the exports of m, an export of m more
pub symbol_push : (es : List Export) (m n name symbol : ℕ) → is_some (symbol_in (es ++ (record { owner = m; name = name; symbol = symbol } ∷ [])) m n) ≡ (is_some (symbol_in es m n) || eqb name n)
symbol_push es m n name symbol =
    found_push (λ l. symbol_in l m n) (λ (e : Export). eqb e.owner m && eqb e.name n) (λ (e : Export). e.symbol) refl (λ _ _. refl) es (record { owner = m; name = name; symbol = symbol })
    ∙ ap (λ b. is_some (symbol_in es m n) || (b && eqb name n)) (eq-eqb m m refl)

pub import_push : (is : List Import) (m s : ℕ) (i : Import) → i.owner ≡ m → is_some (import_in (is ++ (i ∷ [])) m s) ≡ (is_some (import_in is m s) || eqb i.symbol s)
import_push is m s i e =
    found_push (λ l. import_in l m s) (λ (x : Import). eqb x.owner m && eqb x.symbol s) (λ x. x) refl (λ _ _. refl) is i
    ∙ ap (λ b. is_some (import_in is m s) || (b && eqb i.symbol s)) (eq-eqb i.owner m e)

-- a module behind all owners has none of them
pub symbol_none : (es : List Export) (m n : ℕ) → AllByRecursion (λ (e : Export). e.owner < m) es → symbol_in es m n ≡ None
symbol_none es m n below = found_none (λ l. symbol_in l m n) (λ (e : Export). eqb e.owner m && eqb e.name n) (λ (e : Export). e.symbol) refl (λ _ _. refl) es (All-weaker (λ (e : Export). e.owner < m) (λ (e : Export). (eqb e.owner m && eqb e.name n) ≡ false) (λ e h. and_left (eqb e.owner m) (eqb e.name n) (ne_eqb e.owner m (λ same. omega arith))) es below)

pub import_none : (is : List Import) (m s : ℕ) → AllByRecursion (λ (i : Import). i.owner < m) is → import_in is m s ≡ None
import_none is m s below = found_none (λ l. import_in l m s) (λ (i : Import). eqb i.owner m && eqb i.symbol s) (λ i. i) refl (λ _ _. refl) is (All-weaker (λ (i : Import). i.owner < m) (λ (i : Import). (eqb i.owner m && eqb i.symbol s) ≡ false) (λ i h. and_left (eqb i.owner m) (eqb i.symbol s) (ne_eqb i.owner m (λ e. omega arith))) is below)
