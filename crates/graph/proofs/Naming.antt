-- Names that may not stand behind others.
use Rattle.std.proofs.Common.{◌≡◌, ℕ, Bool, true, false, not, ◌&&◌, eqb, List, [], ◌∷◌, length, arith}
use Rattle.std.specs.Str.{bytes_eq}
use Rattle.std.proofs.lemmas.Bool.{false≢true, and_parts, eqb-true}
use Rattle.graph.specs.Graphs.{default_name}
use Rattle.graph.specs.Rules.{listed, wrong_name}

abbrev pub wrong_first : List (List ℕ) → List ℕ → Bool
wrong_first names name = eqb (length names) 0 && not (bytes_eq name default_name)

pub wrong_by_first : (names : List (List ℕ)) (name : List ℕ) → wrong_first names name ≡ true → wrong_name names name ≡ true
wrong_by_first [] name h = h
wrong_by_first (x ∷ xs) name h = let none : length (x ∷ xs) ≡ 0 = eqb-true _ _ (and_parts _ _ h).0 in absurd (omega arith)

pub wrong_by_list : (names : List (List ℕ)) (name : List ℕ) → listed name names ≡ true → wrong_name names name ≡ true
wrong_by_list [] name h = absurd (false≢true h)
wrong_by_list (x ∷ xs) name h = h

pub not_wrong : (names : List (List ℕ)) (name : List ℕ) → wrong_first names name ≡ false → listed name names ≡ false → wrong_name names name ≡ false
not_wrong [] name h k = h
not_wrong (x ∷ xs) name h k = k
