-- How a list writes sheets and tables.
use Rattle.std.specs.Prelude.{◌≡◌, ℕ, ◌<◌, Bool, List, [], ◌∷◌, ◌++◌, length, Result, Ok, ◌==◌, ◌&&◌, ◌||◌, ◌⊎◌, nat_le}
use Rattle.std.specs.List.{before_first, after_first, position_or_len, repeat, slice_split, AllPass, AllZip}
use Rattle.std.specs.Char.{is_whitespace, is_not_whitespace}
use Rattle.std.specs.Str.{NoCharPasses, EmptyOrStartsWithPassing}
use Rattle.std.specs.Str.Parse.{ParsesUnsigned}
use Rattle.hex.specs.Hex.{decode_of}
use Rattle.graph.specs.declared.records.Star.{Star}
use Rattle.graph.specs.declared.records.Export.{Export}
use Rattle.tables.specs.declared.lists.Span.{Span}
use Rattle.tables.specs.declared.lists.ModuleRow.{ModuleRow}
use Rattle.tables.specs.declared.lists.ImportRow.{ImportRow}

-- whether a byte is `*`
abbrev pub is_star : ℕ → Bool
is_star b = b == 42

-- the text is a decimal number below 2 to the `bits`
abbrev pub IsNumber : ℕ → List ℕ → ℕ → Type 0
IsNumber bits text n = ParsesUnsigned {E = Unit} bits 10 text (Ok n)

-- each text is its number, which is written beside its bits
abbrev pub AreNumbers : List (List ℕ) → List (ℕ × ℕ) → Type 0
AreNumbers [] [] = Unit
AreNumbers [] (n ∷ ns) = ⊥
AreNumbers (text ∷ texts) [] = ⊥
AreNumbers (text ∷ texts) (n ∷ ns) = IsNumber n.0 text n.1 × AreNumbers texts ns

-- the parts of the text, with `:` between them, are read as these numbers, where `gives` says what reading a part may give
abbrev pub AreRead : {N E : Type 0} → (List ℕ → Result N E → Type 0) → List ℕ → List N → Type 0
AreRead gives text ns = AllZip (λ part n. gives part (Ok n)) (slice_split (λ b. b == 58) text) ns

-- the numbers, with `:` between them
abbrev pub Numbers : List ℕ → List (ℕ × ℕ) → Type 0
Numbers text ns = AreNumbers (slice_split (λ b. b == 58) text) ns

-- whether a byte is a hex digit, with small letters
abbrev pub is_hex_digit : ℕ → Bool
is_hex_digit b = (nat_le 48 b && nat_le b 57) || (nat_le 97 b && nat_le b 102)

-- bytes in hex, one at least
abbrev pub SpellsBytes : List ℕ → List ℕ → Type 0
SpellsBytes text bytes = (0 < length text) × AllPass is_hex_digit text × (decode_of text ≡ Ok bytes)

-- a record as its numbers
abbrev pub SpellsSpan : List ℕ → List Span → Type 0
SpellsSpan text rows = (s : Span) × Numbers text ((64, s.offset) ∷ (64, s.len) ∷ []) × (rows ≡ s ∷ [])

abbrev pub SpellsModule : List ℕ → List ModuleRow → Type 0
SpellsModule text rows = (m : ModuleRow) × Numbers text ((8, m.kind) ∷ (64, m.id.offset) ∷ (64, m.id.len) ∷ []) × (rows ≡ m ∷ [])

abbrev pub SpellsStar : List ℕ → List Star → Type 0
SpellsStar text rows = (s : Star) × Numbers text ((16, s.owner) ∷ (16, s.target) ∷ []) × (rows ≡ s ∷ [])

abbrev pub SpellsImport : List ℕ → List ImportRow → Type 0
SpellsImport text rows = (i : ImportRow) × Numbers text ((16, i.owner) ∷ (16, i.symbol) ∷ (16, i.target) ∷ (16, i.name) ∷ []) × (rows ≡ i ∷ [])

abbrev pub SpellsExport : List ℕ → List Export → Type 0
SpellsExport text rows = (e : Export) × Numbers text ((16, e.owner) ∷ (16, e.name) ∷ (16, e.symbol) ∷ []) × (rows ≡ e ∷ [])

-- an item is what spells these values, or that with `*` and a count behind it for them so often in a row
pub data IsItem {X : Type 0} (Spells : List ℕ → List X → Type 0) (item : List ℕ) : List X → Type 0 where
  once : {values : List X} → position_or_len is_star item ≡ length item → Spells item values → IsItem Spells item values
  often : {values : List X} {count : ℕ} → position_or_len is_star item < length item → Spells (before_first is_star item) values → IsNumber 32 (after_first is_star item) count → IsItem Spells item (repeat count values)

-- the text of an item, and how often its values are added
abbrev pub IsDivided : List ℕ → List ℕ → ℕ → Type 0
IsDivided item text count =
    ((position_or_len is_star item ≡ length item) × (text ≡ item) × (count ≡ 1)) ⊎ ((position_or_len is_star item < length item) × (text ≡ before_first is_star item) × IsNumber 32 (after_first is_star item) count)

-- a list is the values of its items, with blanks between them
pub data IsList {X : Type 0} (Spells : List ℕ → List X → Type 0) : List ℕ → List X → Type 0 where
  no_items : {text : List ℕ} → NoCharPasses is_not_whitespace text → IsList Spells text []
  an_item : {text gap item rest : List ℕ} {values more : List X} → text ≡ gap ++ (item ++ rest) → NoCharPasses is_not_whitespace gap → 0 < length item → NoCharPasses is_whitespace item → (after : List ℕ) × EmptyOrStartsWithPassing is_whitespace rest after
      → IsItem Spells item values → IsList Spells rest more → IsList Spells text (values ++ more)

-- values of the text were added, so often in a row
pub record AddsValues {X : Type 0} (Spells : List ℕ → List X → Type 0) (text : List ℕ) (count : ℕ) (old new : List X) : Type 0 where
  pub values : List X
  pub spelled : Spells text values
  pub added : new ≡ old ++ repeat count values

-- the values of the item were added
pub record AddsItem {X : Type 0} (Spells : List ℕ → List X → Type 0) (item : List ℕ) (old new : List X) : Type 0 where
  pub values : List X
  pub spelled : IsItem Spells item values
  pub added : new ≡ old ++ values
