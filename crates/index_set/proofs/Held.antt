-- What a list holds, by its places.
use Rattle.std.proofs.Common.{◌≡◌, ℕ, zero, suc, ◌<◌, Bool, true, false, List, [], ◌∷◌, ◌++◌, length, get_or, None, refl, arith}
use Rattle.std.proofs.lemmas.Bool.{or_left, or_right, or_parts}
use Rattle.index_set.specs.Sameness.{held, FirstSame}

module _ {A : Type 0} (same : A → A → Bool) where
  -- what stands at no place is not held
  pub none_held : (xs : List A) (x : A) → FirstSame same xs x None → held same x xs ≡ false
  none_held [] x none = refl
  none_held (y ∷ ys) x none =
      rw (none zero y (omega arith)) (none_held ys x (λ k d h. none (suc k) d (omega arith)))

  -- what is not held stands at no place
  pub not_held : (xs : List A) (x : A) → held same x xs ≡ false → FirstSame same xs x None
  not_held [] x e k d h = absurd (omega arith)
  not_held (y ∷ ys) x e zero d h = (or_parts (same y x) (held same x ys) e).0
  not_held (y ∷ ys) x e (suc k) d h = not_held ys x (or_parts (same y x) (held same x ys) e).1 k d (omega arith)

  -- what stands at a place is held
  pub some_held : (xs : List A) (x : A) (i : ℕ) → i < length xs → ((d : A) → same (get_or xs i d) x ≡ true) → held same x xs ≡ true
  some_held [] x i h e = absurd (omega arith)
  some_held (y ∷ ys) x zero h e = or_left (same y x) (held same x ys) (e y)
  some_held (y ∷ ys) x (suc i) h e = or_right (same y x) (held same x ys) (some_held ys x i (omega arith) e)

  -- what comes last is held
  pub held_last : (xs : List A) (x : A) → same x x ≡ true → held same x (xs ++ (x ∷ [])) ≡ true
  held_last [] x e = or_left (same x x) false e
  held_last (y ∷ ys) x e = or_right (same y x) (held same x (ys ++ (x ∷ []))) (held_last ys x e)
