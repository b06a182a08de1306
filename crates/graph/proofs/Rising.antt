-- Lists in which owners do not fall: the elements of one owner stand together.
use Rattle.std.proofs.Common.{◌≡◌, ℕ, zero, suc, ◌+◌, ◌≤◌, ◌<◌, Bool, true, false, cond, ◌&&◌, eqb, leb, ltb, List, [], ◌∷◌, ◌++◌, length, get_or, take, drop, Some, sym, refl, ap, ◌∙◌, arith}
use Rattle.std.specs.List.{AllWithin, AllByRecursion, find}
use Rattle.std.specs.List.Sorted.{IsPartitionPoint}
use Rattle.std.proofs.lemmas.List.Elements.{filter-append}
use Rattle.std.proofs.ByRecursion.{All-get_or, all_from_every}
use Rattle.std.proofs.lemmas.List.{take-append-drop, append-nil, get_or-take, get_or-drop, length-take, length-drop}
use Rattle.std.proofs.lemmas.Bool.{cond-true, cond-false}
use Rattle.std.proofs.lemmas.Bool.Decides.{nat_tests}
use Rattle.graph.specs.Lookups.{owned_by, first_keyed}
use Rattle.graph.specs.Soundness.{Rising}

-- what holds of the places below n, and from n on
pub all_front : {X : Type 0} (P : X → Type 0) (xs : List X) (n : ℕ) → n ≤ length xs → AllWithin P xs 0 n → AllByRecursion P (take n xs)
all_front P xs n le each = all_from_every P (take n xs) (λ k d low high. let len = length-take n xs in rw (get_or-take n xs k d (omega arith)) (each k d (omega arith) (omega arith)))

pub all_back : {X : Type 0} (P : X → Type 0) (xs : List X) (n : ℕ) → n ≤ length xs → AllWithin P xs n (length xs) → AllByRecursion P (drop n xs)
all_back P xs n le each = all_from_every P (drop n xs) (λ k d low high. let len = length-drop n xs in rw (get_or-drop n xs k d) (each (n + k) d (omega arith) (omega arith)))

module _ {X : Type 0} (owner : X → ℕ) where
  -- an earlier element has no later owner
  pub rises : (xs : List X) → Rising owner xs → (i j : ℕ) (d : X) → i ≤ j → j < length xs → owner (get_or xs i d) ≤ owner (get_or xs j d)
  rises [] up i j d le lt = absurd (omega arith)
  rises (x ∷ xs) up zero zero d le lt = omega arith
  rises (x ∷ xs) up zero (suc j) d le lt = All-get_or (λ y. owner x ≤ owner y) xs j d (omega arith) up.0
  rises (x ∷ xs) up (suc i) zero d le lt = absurd (omega arith)
  rises (x ∷ xs) up (suc i) (suc j) d le lt = rises xs up.1 i j d (omega arith) (omega arith)

  pub rising_drop : (n : ℕ) (xs : List X) → Rising owner xs → Rising owner (drop n xs)
  rising_drop zero xs up = up
  rising_drop (suc n) [] up = tt
  rising_drop (suc n) (x ∷ xs) up = rising_drop n xs up.1

  -- a list of other owners' elements, and a list of one owner's
  kept_none : (m : ℕ) (xs : List X) → AllByRecursion (λ x. eqb (owner x) m ≡ false) xs → owned_by owner xs m ≡ []
  kept_none m [] other = refl
  kept_none m (x ∷ xs) other = cond-false _ _ _ other.0 ∙ kept_none m xs other.1

  kept_all : (m : ℕ) (xs : List X) → AllByRecursion (λ x. eqb (owner x) m ≡ true) xs → owned_by owner xs m ≡ xs
  kept_all m [] own = refl
  kept_all m (x ∷ xs) own = cond-true _ _ _ own.0 ∙ ap (λ l. x ∷ l) (kept_all m xs own.1)

  -- where the first `from` have an earlier owner than m, and of the others the first `to` one up to m
  run_kept : (m from to : ℕ) (xs : List X) → from ≤ length xs → to ≤ length (drop from xs) → IsPartitionPoint (λ x. ltb (owner x) m ≡ true) (λ x. ltb (owner x) m ≡ false) xs from → IsPartitionPoint (λ x. leb (owner x) m ≡ true) (λ x. leb (owner x) m ≡ false) (drop from xs) to → take to (drop from xs) ≡ owned_by owner xs m
  run_kept m from to xs inside room before own = sym (
      ap (λ l. owned_by owner l m) (sym (take-append-drop from xs))
      ∙ filter-append (λ x. eqb (owner x) m) (take from xs) (drop from xs)
      ∙ ap (λ l. l ++ owned_by owner (drop from xs) m) (kept_none m (take from xs) (all_front _ xs from inside earlier))
      ∙ ap (λ l. owned_by owner l m) (sym (take-append-drop to (drop from xs)))
      ∙ filter-append (λ x. eqb (owner x) m) (take to (drop from xs)) (drop to (drop from xs))
      ∙ ap (λ l. l ++ owned_by owner (drop to (drop from xs)) m) (kept_all m (take to (drop from xs)) (all_front _ (drop from xs) to room same))
      ∙ ap (λ l. take to (drop from xs) ++ l) (kept_none m (drop to (drop from xs)) (all_back _ (drop from xs) to room later))
      ∙ append-nil (take to (drop from xs)))
    where
      earlier : AllWithin (λ x. eqb (owner x) m ≡ false) xs 0 from
      earlier k d low high = let is = before.0 k d low high in grind (arith, nat_tests)

      later : AllWithin (λ x. eqb (owner x) m ≡ false) (drop from xs) to (length (drop from xs))
      later k d low high = let is = own.1 k d low high in grind (arith, nat_tests)

      same : AllWithin (λ x. eqb (owner x) m ≡ true) (drop from xs) 0 to
      same k d low high =
          let up_to = own.0 k d low high in
          let not_before : ltb (owner (get_or (drop from xs) k d)) m ≡ false = rw (get_or-drop from xs k d) (before.1 (from + k) d (omega arith) (omega (arith, length-drop from xs))) in
          grind (arith, nat_tests)

  -- the same, where `rest` is what stands from `from` on
  pub run_of : (m from to : ℕ) (xs rest : List X) → rest ≡ drop from xs → from ≤ length xs → to ≤ length rest → IsPartitionPoint (λ x. ltb (owner x) m ≡ true) (λ x. ltb (owner x) m ≡ false) xs from → IsPartitionPoint (λ x. leb (owner x) m ≡ true) (λ x. leb (owner x) m ≡ false) rest to → take to rest ≡ owned_by owner xs m
  run_of m from to xs rest is inside room before own = rw is (run_kept m from to xs inside (rw is at room) before (rw is at own))

  -- the first of a module's elements with a key
  pub first_in_run : (key : X → ℕ) (xs : List X) (m k : ℕ) → find (λ x. eqb (key x) k) (owned_by owner xs m) ≡ first_keyed owner key xs m k
  first_in_run key [] m k = refl
  first_in_run key (x ∷ xs) m k = by_owner (eqb (owner x) m) ∙ ap (cond (eqb (owner x) m && eqb (key x) k) (Some x)) (first_in_run key xs m k)
    where
      by_owner : (b : Bool) → find (λ y. eqb (key y) k) (cond b (x ∷ owned_by owner xs m) (owned_by owner xs m)) ≡ cond (b && eqb (key x) k) (Some x) (find (λ y. eqb (key y) k) (owned_by owner xs m))
      by_owner true = refl
      by_owner false = refl
