-- Lists in which no two places hold elements that are the same.
use Rattle.std.proofs.Common.{◌≡◌, ℕ, ◌<◌, ◌≤◌, Bool, true, false, ◌⊎◌, List, [], ◌∷◌, ◌++◌, length, get_or, Some, None, Option, sym, ap, ◌∙◌, inl, inr, ⊎_elim, arith}
use Rattle.std.proofs.lemmas.List.{get_or_append_left, get_or_push, length_push}
use Rattle.std.proofs.lemmas.Bool.{cases_lt, cases_Bool, both_ways}
use Rattle.std.specs.Cmp.{IsEquivalence}
use Rattle.index_set.specs.Sameness.{FirstSame, Distinct, OnlyPlace}

module _ {A : Type 0} (same : A → A → Bool) (laws : IsEquivalence same) where
  -- an element that no other is the same as may come last
  pub distinct_push : (xs : List A) (x : A) → FirstSame same xs x None → Distinct same xs → Distinct same (xs ++ (x ∷ []))
  distinct_push xs x none before i j d hi hj ne = by_places (cases_lt i (length xs)) (cases_lt j (length xs))
    where
      old : (k : ℕ) → k < length xs → get_or (xs ++ (x ∷ [])) k d ≡ get_or xs k d
      old k h = get_or_append_left xs (x ∷ []) d k h

      last : (k : ℕ) → k < length (xs ++ (x ∷ [])) → length xs ≤ k → get_or (xs ++ (x ∷ [])) k d ≡ x
      last k h l = get_or_push xs x d k (omega (arith, length_push xs x))

      by_places : (i < length xs) ⊎ (length xs ≤ i) → (j < length xs) ⊎ (length xs ≤ j) → same (get_or (xs ++ (x ∷ [])) i d) (get_or (xs ++ (x ∷ [])) j d) ≡ false
      by_places (inl a) (inl b) = rw (old i a, old j b) (before i j d a b ne)
      by_places (inl a) (inr b) = rw (old i a, last j hj b) (none i d a)
      by_places (inr a) (inl b) = rw (last i hi a, old j b) (laws.symm x (get_or xs j d) ∙ none j d b)
      by_places (inr a) (inr b) = absurd (ne (omega (arith, length_push xs x)))

  -- the first place that holds the same is the only one
  pub only_place : (xs : List A) (x : A) (r : Option ℕ) → FirstSame same xs x r → Distinct same xs → OnlyPlace same xs x r
  only_place xs x None none apart k d h ne = none k d h
  only_place xs x (Some i) first apart k d h ne =
      ⊎_elim (λ e. absurd (twice e)) (λ e. e) (cases_Bool (same (get_or xs k d) x))
    where
      twice : same (get_or xs k d) x ≡ true → ⊥
      twice e = both_ways (same (get_or xs k d) (get_or xs i d))
          (apart k i d h first.0 (λ z. ne (ap Some (sym z))))
          (laws.congr (get_or xs k d) x (get_or xs i d) e ∙ laws.symm x (get_or xs i d) ∙ first.1 d)
