use Rattle.std.specs.Prelude.{◌≡◌, ℕ, ◌<◌, Bool, true, false, ◌||◌, List, [], ◌∷◌, length, Some, None, Option, ◌≢◌, slice_index_or}

-- whether an element of the list is the same as x
abbrev pub held : {A : Type 0} → (A → A → Bool) → A → List A → Bool
held same x [] = false
held same x (y ∷ ys) = same y x || held same x ys

-- the answer is the first place whose element is the same as x, or none where no element is
abbrev pub FirstSame : {A : Type 0} → (A → A → Bool) → List A → A → Option ℕ → Type 0
FirstSame {A} same xs x None = (k : ℕ) (d : A) → k < length xs → same (slice_index_or xs k d) x ≡ false
FirstSame {A} same xs x (Some i) = (i < length xs) × ((d : A) → same (slice_index_or xs i d) x ≡ true) × ((k : ℕ) (d : A) → k < i → same (slice_index_or xs k d) x ≡ false)

-- no two places hold elements that are the same
abbrev pub Distinct : {A : Type 0} → (A → A → Bool) → List A → Type 0
Distinct {A} same xs = (i j : ℕ) (d : A) → i < length xs → j < length xs → (i ≢ j) → same (slice_index_or xs i d) (slice_index_or xs j d) ≡ false

-- every place but the one answered holds an element that is not the same as x
abbrev pub OnlyPlace : {A : Type 0} → (A → A → Bool) → List A → A → Option ℕ → Type 0
OnlyPlace {A} same xs x r = (k : ℕ) (d : A) → k < length xs → (r ≢ Some k) → same (slice_index_or xs k d) x ≡ false
