-- Owners that fall, and look-ups by owner, over lists and what they are made from.
use Rattle.std.proofs.Common.{◌≡◌, ℕ, zero, suc, ◌-◌, ◌<◌, ◌≤◌, Bool, true, false, cond, ◌&&◌, ◌||◌, eqb, ltb, List, [], ◌∷◌, map, length, get_or, is_some, Some, None, Option, sym, refl, ap, ◌∙◌, ⊎_elim, arith, MatchOption}
use Rattle.std.specs.Option.{option_map}
use Rattle.std.specs.List.{slice_get, AllByRecursion}
use Rattle.std.proofs.ByRecursion.{All-from_get_or}
use Rattle.std.proofs.lemmas.Option.{slice_get-get_or}
use Rattle.std.proofs.lemmas.Bool.{or_from, or_left, or_right, lt-ltb, le-ltb, cases_lt}
use Rattle.graph.specs.Lookups.{first_keyed}
use Rattle.graph.specs.Opening.{falls_behind}
use Rattle.graph.specs.Soundness.{Rising}
use Rattle.graph.proofs.Rising.{rises}

module _ {X : Type 0} (owner : X → ℕ) (m : ℕ) where
  pub falls_never : (xs : List X) → AllByRecursion (λ x. owner x ≤ m) xs → falls_behind owner xs m ≡ false
  falls_never [] all = refl
  falls_never (x ∷ xs) all = or_from (ltb m (owner x)) (falls_behind owner xs m) (le-ltb m (owner x) all.0) (falls_never xs all.1)

  falls_at : (xs : List X) (i : ℕ) (d : X) → i < length xs → m < owner (get_or xs i d) → falls_behind owner xs m ≡ true
  falls_at [] i d inside h = absurd (omega arith)
  falls_at (x ∷ xs) zero d inside h = or_left (ltb m (owner x)) (falls_behind owner xs m) (lt-ltb m (owner x) h)
  falls_at (x ∷ xs) (suc i) d inside h = or_right (ltb m (owner x)) (falls_behind owner xs m) (falls_at xs i d (omega arith) h)

  -- the last element tells
  pub falls_last : (xs : List X) (x : X) → Rising owner xs → 0 < length xs → x ≡ get_or xs (length xs - 1) x → ltb m (owner x) ≡ falls_behind owner xs m
  falls_last xs x up some is = ⊎_elim
      (λ h. lt-ltb m (owner x) h ∙ sym (falls_at xs (length xs - 1) x (omega arith) (omega (arith, ap owner is))))
      (λ h. le-ltb m (owner x) h ∙ sym (falls_never xs (All-from_get_or (λ y. owner y ≤ m) xs x (λ i inside. omega (arith, rises owner xs up i (length xs - 1) x (omega arith) (omega arith), ap owner is)))))
      (cases_lt m (owner x))

  pub falls_told : (xs : List X) (o : Option X) (r : Bool) → Rising owner xs → o ≡ slice_get xs (length xs - 1) → MatchOption o (r ≡ false) (λ x. r ≡ ltb m (owner x)) → r ≡ falls_behind owner xs m
  falls_told [] None r up is told = told
  falls_told [] (Some x) r up is told = absurd cc
  falls_told (y ∷ ys) None r up is told = let never : None ≡ Some (get_or (y ∷ ys) (length (y ∷ ys) - 1) y) = is ∙ slice_get-get_or (y ∷ ys) (length (y ∷ ys) - 1) y (omega arith) in absurd cc
  falls_told (y ∷ ys) (Some x) r up is told =
      let here : Some x ≡ Some (get_or (y ∷ ys) (length (y ∷ ys) - 1) x) = is ∙ slice_get-get_or (y ∷ ys) (length (y ∷ ys) - 1) x (omega arith) in
      let same : x ≡ get_or (y ∷ ys) (length (y ∷ ys) - 1) x = cc in
      told ∙ falls_last (y ∷ ys) x up (omega arith) same

module _ {X Y : Type 0} (f : X → Y) where
  pub falls_map : (owner : Y → ℕ) (xs : List X) (m : ℕ) → falls_behind owner (map f xs) m ≡ falls_behind (λ x. owner (f x)) xs m
  falls_map owner [] m = refl
  falls_map owner (x ∷ xs) m = ap (λ b. ltb m (owner (f x)) || b) (falls_map owner xs m)

  pub first_map : (owner key : Y → ℕ) (xs : List X) (m k : ℕ) → first_keyed owner key (map f xs) m k ≡ option_map f (first_keyed (λ x. owner (f x)) (λ x. key (f x)) xs m k)
  first_map owner key [] m k = refl
  first_map owner key (x ∷ xs) m k = ap (cond (eqb (owner (f x)) m && eqb (key (f x)) k) (Some (f x))) (first_map owner key xs m k) ∙ by_test (eqb (owner (f x)) m && eqb (key (f x)) k)
    where
      by_test : (b : Bool) → cond b (Some (f x)) (option_map f (first_keyed (λ x. owner (f x)) (λ x. key (f x)) xs m k)) ≡ option_map f (cond b (Some x) (first_keyed (λ x. owner (f x)) (λ x. key (f x)) xs m k))
      by_test true = refl
      by_test false = refl

  pub some_mapped : (o : Option X) → is_some (option_map f o) ≡ is_some o
  some_mapped None = refl
  some_mapped (Some x) = refl
