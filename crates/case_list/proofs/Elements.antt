-- A list as its elements.
use Rattle.std.proofs.Common.{◌≡◌, ℕ, zero, suc, List, [], ◌∷◌, length, get_or, refl, sym, ap, ◌∙◌}

-- the elements from place i on, n of them
abbrev pub elements : {X : Type 0} → List X → X → ℕ → ℕ → List X
elements xs d i zero = []
elements xs d i (suc n) = get_or xs i d ∷ elements xs d (suc i) n

elements_behind : {X : Type 0} (x : X) (xs : List X) (d : X) (i n : ℕ) → elements (x ∷ xs) d (suc i) n ≡ elements xs d i n
elements_behind x xs d i zero = refl
elements_behind x xs d i (suc n) = ap (λ ys. get_or xs i d ∷ ys) (elements_behind x xs d (suc i) n)

all_elements : {X : Type 0} (xs : List X) (d : X) → xs ≡ elements xs d 0 (length xs)
all_elements [] d = refl
all_elements (x ∷ xs) d = ap (λ ys. x ∷ ys) (all_elements xs d ∙ sym (elements_behind x xs d 0 (length xs)))

-- a list of n, element by element
pub by_elements : {X : Type 0} (n : ℕ) (xs : List X) (d : X) → length xs ≡ n → xs ≡ elements xs d 0 n
by_elements n xs d e = all_elements xs d ∙ ap (λ k. elements xs d 0 k) e
