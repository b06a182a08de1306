-- The items of a list, and values that are added.
use Rattle.std.proofs.Common.{◌≡◌, ℕ, zero, suc, ◌+◌, ◌<◌, inl, inr, List, [], ◌++◌, length, refl, ap, subst, ◌∙◌, arith}
use Rattle.std.specs.List.{before_first, after_first, position_or_len, repeat}
use Rattle.std.specs.Char.{is_whitespace, is_not_whitespace}
use Rattle.std.specs.Str.{NoCharPasses, EmptyOrStartsWithPassing}
use Rattle.std.proofs.lemmas.Grind.{common_steps}
use Rattle.case_list.specs.Reading.{is_star, IsNumber, IsDivided, IsList, AddsValues, AddsItem}
use Rattle.case_list.specs.Reading.IsItem.{once, often}
use Rattle.case_list.specs.Reading.IsList.{no_items, an_item}

-- the last of so many lists in a row split off
pub repeat_more : {X : Type 0} (n : ℕ) (xs : List X) → repeat (n + 1) xs ≡ repeat n xs ++ xs
repeat_more zero xs = grind (arith, common_steps)
repeat_more (suc n) xs = let e = repeat_more n xs in grind (arith, common_steps)

module _ {X : Type 0} (Spells : List ℕ → List X → Type 0) where
  -- an item with no `*`
  pub once_added : (item : List ℕ) (old new : List X) → position_or_len is_star item ≡ length item → AddsValues Spells item 1 old new → AddsItem Spells item old new
  once_added item old new e a =
      let last : repeat 1 a.values ≡ a.values = grind (arith, common_steps) in
      record { values = a.values; spelled = once e a.spelled; added = a.added ∙ ap (λ xs. old ++ xs) last }

  -- an item with a count
  pub often_added : (item text digits : List ℕ) (count : ℕ) (old new : List X) → position_or_len is_star item < length item → text ≡ before_first is_star item → digits ≡ after_first is_star item → IsNumber 32 digits count → AddsValues Spells text count old new → AddsItem Spells item old new
  often_added item text digits count old new l e d n a =
      record {
        values = repeat count a.values;
        spelled = often l (subst (λ t. Spells t a.values) e a.spelled) (subst (λ t. IsNumber 32 t count) d n);
        added = a.added;
      }

  -- an item as its text and its count
  pub divided_added : (item text : List ℕ) (count : ℕ) (old new : List X) → IsDivided item text count → AddsValues Spells text count old new → AddsItem Spells item old new
  divided_added item text count old new (inl alone) a = once_added item old new alone.0 (rw (alone.1, alone.2) at a)
  divided_added item text count old new (inr counted) a = often_added item text (after_first is_star item) count old new counted.0 counted.1 refl counted.2 a

  -- the list so far is that of the whole text, with the values of what is left
  abbrev pub Reads : List ℕ → List ℕ → List X → Type 0
  Reads text left list = (more : List X) → IsList Spells left more → IsList Spells text (list ++ more)

  pub reading_ends : (text left : List ℕ) (list : List X) → NoCharPasses is_not_whitespace left → Reads text left list → IsList Spells text list
  reading_ends text left list blank reads = let e : list ++ [] ≡ list = grind (arith, common_steps) in subst (λ xs. IsList Spells text xs) e (reads [] (no_items blank))

  -- one item more
  pub reading_goes_on : (text left item rest : List ℕ) (old new : List X) → ((gap : List ℕ) × (left ≡ gap ++ (item ++ rest)) × (0 < length item) × NoCharPasses is_not_whitespace gap × NoCharPasses is_whitespace item × ((after : List ℕ) × EmptyOrStartsWithPassing is_whitespace rest after))
      → AddsItem Spells item old new → Reads text left old → Reads text rest new
  reading_goes_on text left item rest old new word a reads = λ more is.
      let e : old ++ (a.values ++ more) ≡ new ++ more = let added = a.added in grind (arith, common_steps) in
      subst (λ xs. IsList Spells text xs) e (reads (a.values ++ more) (an_item word.1 word.3 word.2 word.4 word.5 a.spelled is))
