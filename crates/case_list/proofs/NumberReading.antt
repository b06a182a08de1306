-- The numbers of a record.
use Rattle.std.proofs.Common.{◌≡◌, ℕ, ◌<◌, List, [], ◌∷◌, length, map, Result, Ok, subst, ◌==◌}
use Rattle.std.specs.List.{AllZip, slice_split}
use Rattle.std.specs.Str.Parse.{ParsesUnsigned, ExplainsUnsignedError, HasUnsignedDigitsIfOk}
use Rattle.std.specs.declared.num.ParseIntError.{ParseIntError}
use Rattle.case_list.specs.Reading.{IsNumber, AreNumbers, Numbers, AreRead}
use Rattle.case_list.proofs.Elements.{elements, by_elements}

-- a relation of what v reads in the elements
pub zip_map : {A B C : Type 0} (R : B → C → Type 0) (v : A → B) (xs : List A) (ys : List C) → AllZip (λ x y. R (v x) y) xs ys → AllZip R (map v xs) ys
zip_map R v [] [] z = tt
zip_map R v (x ∷ xs) (y ∷ ys) z = (z.0, zip_map R v xs ys z.1)
zip_map R v [] (y ∷ ys) z = absurd z
zip_map R v (x ∷ xs) [] z = absurd z

-- what reading a number of so many bits gives
abbrev Parses : ℕ → List ℕ → Result ℕ ParseIntError → Type 0
Parses bits text r = ParsesUnsigned bits 10 text r × ExplainsUnsignedError 10 text r × HasUnsignedDigitsIfOk text r

are_numbers : (bits : ℕ) (texts : List (List ℕ)) (ns : List ℕ) → AllZip (λ part n. Parses bits part (Ok n)) texts ns → AreNumbers texts (map (λ n. (bits, n)) ns)
are_numbers bits [] [] z = tt
are_numbers bits (t ∷ ts) (n ∷ ns) z = (z.0.0, are_numbers bits ts ns z.1)
are_numbers bits [] (n ∷ ns) z = absurd z
are_numbers bits (t ∷ ts) [] z = absurd z

pub numbers_read : (count bits : ℕ) (text ns : List ℕ) → length ns ≡ count → AreRead (Parses bits) text ns → Numbers text (map (λ n. (bits, n)) (elements ns 0 0 count))
numbers_read count bits text ns l read = subst (λ xs. Numbers text (map (λ n. (bits, n)) xs)) (by_elements count ns 0 l) (are_numbers bits (slice_split (λ b. b == 58) text) ns read)

-- a number below 256 needs no more than 8 bits
narrow : (text : List ℕ) (n : ℕ) → n < 256 → IsNumber 64 text n → IsNumber 8 text n
narrow text n l is = ((is.0.0, subst (λ v. v < 256) is.1 l), is.1)

narrow_parts : (texts : List (List ℕ)) (n : ℕ) (ns : List (ℕ × ℕ)) → n < 256 → AreNumbers texts ((64, n) ∷ ns) → AreNumbers texts ((8, n) ∷ ns)
narrow_parts [] n ns l are = are
narrow_parts (t ∷ ts) n ns l are = (narrow t n l are.0, are.1)

pub narrow_first : (text : List ℕ) (n : ℕ) (ns : List (ℕ × ℕ)) → n < 256 → Numbers text ((64, n) ∷ ns) → Numbers text ((8, n) ∷ ns)
narrow_first text n ns l are = narrow_parts (slice_split (λ b. b == 58) text) n ns l are
