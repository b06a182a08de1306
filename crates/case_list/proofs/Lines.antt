-- The first line of a run of bytes, as `BufRead::lines` gives it.
use Rattle.std.proofs.Common.{◌≡◌, ℕ, ◌-◌, ◌<◌, Bool, true, false, cond, eqb, List, [], ◌∷◌, ◌++◌, length, get_or, take, All, refl, sym, ap, ◌∙◌, arith}
use Rattle.std.specs.List.{slice_split}
use Rattle.std.specs.Str.Lines.{lines, lines_of_parts, strip_carriage_return}
use Rattle.std.specs.Io.BufRead.{take_through, drop_through, ends_with_byte, strip_last, first_line}
use Rattle.std.proofs.lemmas.List.Splits.{slice_split_none, slice_split_at, length-slice_split}
use Rattle.std.proofs.lemmas.List.Elements.{All-nil, All-cons}
use Rattle.std.proofs.lemmas.Grind.{common_steps}
use borrow.Author.Tests.{eqb-true, ne_eqb}

-- xs has no line break, or stands round its first one
data Cut (xs : List ℕ) : Type 0 where
  whole : All (λ b. eqb b 10 ≡ false) xs → take_through 10 xs ≡ xs → drop_through 10 xs ≡ [] → Cut xs
  parted : (front : List ℕ) → All (λ b. eqb b 10 ≡ false) front → xs ≡ front ++ (10 ∷ drop_through 10 xs) → take_through 10 xs ≡ front ++ (10 ∷ []) → Cut xs

cut_more : (x : ℕ) (xs : List ℕ) (b : Bool) → eqb x 10 ≡ b → Cut xs → Cut (x ∷ xs)
cut_more x xs true e c = parted [] (All-nil (λ b. eqb b 10 ≡ false)) (let is : x ≡ 10 = eqb-true x 10 e in grind (arith, common_steps)) (let is : x ≡ 10 = eqb-true x 10 e in grind (arith, common_steps))
cut_more x xs false e (whole a t d) = whole (All-cons (λ b. eqb b 10 ≡ false) x xs e a) (grind (arith, common_steps)) (grind (arith, common_steps))
cut_more x xs false e (parted f a p t) = parted (x ∷ f) (All-cons (λ b. eqb b 10 ≡ false) x f e a) (grind (arith, common_steps)) (grind (arith, common_steps))

cut : (xs : List ℕ) → Cut xs
cut [] = whole (All-nil (λ b. eqb b 10 ≡ false)) refl refl
cut (x ∷ xs) = cut_more x xs (eqb x 10) refl (cut xs)

last_is : (front : List ℕ) (c : ℕ) → ends_with_byte c (front ++ (c ∷ [])) ≡ true
last_is front c = grind (arith, common_steps)

last_is_not : (xs : List ℕ) → 0 < length xs → All (λ b. eqb b 10 ≡ false) xs → ends_with_byte 10 xs ≡ false
last_is_not xs some a = let last : eqb (get_or xs (length xs - 1) 0) 10 ≡ false = a (length xs - 1) 0 (omega arith) in grind (arith, common_steps)

strip_same : (l : List ℕ) → strip_last 13 l ≡ strip_carriage_return l
strip_same [] = refl
strip_same (b ∷ l) = grind (arith, common_steps)

first_line_whole : (xs : List ℕ) → take_through 10 xs ≡ xs → ends_with_byte 10 xs ≡ false → first_line xs ≡ xs
first_line_whole xs t e = grind (arith, common_steps)

take_front : (front : List ℕ) (c : ℕ) → take (length (front ++ (c ∷ [])) - 1) (front ++ (c ∷ [])) ≡ front
take_front front c = grind (arith, common_steps)

first_line_parted : (xs front : List ℕ) → take_through 10 xs ≡ front ++ (10 ∷ []) → first_line xs ≡ strip_carriage_return front
first_line_parted xs front t = let l = last_is front 10 in let f = take_front front 10 in let s = strip_same front in grind (arith, common_steps)

parts_more : (x : List ℕ) (parts : List (List ℕ)) → 0 < length parts → lines_of_parts (x ∷ parts) ≡ strip_carriage_return x ∷ lines_of_parts parts
parts_more x [] l = absurd (omega arith)
parts_more x (y ∷ more) l = refl

lines_cut : (xs : List ℕ) → 0 < length xs → Cut xs → lines xs ≡ first_line xs ∷ lines (drop_through 10 xs)
lines_cut xs some (whole a t d) =
    let first = first_line_whole xs t (last_is_not xs some a) in
    ap lines_of_parts (slice_split_none (λ b. eqb b 10) xs a) ∙ ap (λ b. cond b [] (xs ∷ [])) (ne_eqb (length xs) 0 (λ z. omega arith)) ∙ (λ i. sym first i ∷ lines (sym d i))
lines_cut xs some (parted front a p t) =
    let rest = drop_through 10 xs in
    let first = first_line_parted xs front t in
    ap lines p ∙ ap lines_of_parts (slice_split_at (λ b. eqb b 10) front 10 rest a refl) ∙ parts_more front (slice_split (λ b. eqb b 10) rest) (omega (arith, length-slice_split (λ b. eqb b 10) rest)) ∙ ap (λ v. v ∷ lines rest) (sym first)

pub lines_first : (xs : List ℕ) → 0 < length xs → lines xs ≡ first_line xs ∷ lines (drop_through 10 xs)
lines_first xs some = lines_cut xs some (cut xs)
