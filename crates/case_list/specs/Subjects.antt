-- What opening the subject of a line may give.
use Rattle.std.specs.Prelude.{◌≡◌, ℕ, List, [], ◌∷◌, Result, Err, IsOk, MatchResult, MatchBool, drop, ◌==◌, codes, nat_eq}
use Rattle.std.specs.List.{slice_split, starts_with}
use Rattle.graph.specs.declared.fault.Fault.{Fault}
use Rattle.graph.specs.Graphs.{Graph}
use Rattle.sheet.specs.Opening as sheet_opening
use Rattle.tables.specs.Opening as tables_opening
use Rattle.tables.specs.Rows.{Held}
use Rattle.case_list.specs.Reading.{IsList, SpellsBytes, SpellsSpan, SpellsModule, SpellsStar, SpellsImport, SpellsExport}

-- the answer says whether the graph opens, and else its fault
abbrev pub Tells : Result Graph Fault → Result Unit Fault → Type 0
Tells graph answer = MatchResult answer (λ _. IsOk graph) (λ f. graph ≡ Err f)

-- the text spells a sheet, and opening it gives this
pub record SheetGives (text : List ℕ) (answer : Result Unit Fault) : Type 0 where
  pub bytes : List ℕ
  pub spelled : IsList SpellsBytes text bytes
  pub told : Tells (sheet_opening.opened bytes) answer

-- these parts spell the run of bytes and the five lists
abbrev pub PartsSpell : List (List ℕ) → Held → Type 0
PartsSpell (run ∷ names ∷ modules ∷ stars ∷ imports ∷ exports ∷ []) lists =
    IsList SpellsBytes run lists.bytes × IsList SpellsSpan names lists.names × IsList SpellsModule modules lists.modules × IsList SpellsStar stars lists.stars × IsList SpellsImport imports lists.imports × IsList SpellsExport exports lists.exports
PartsSpell _ lists = ⊥

-- these parts spell tables, and opening them gives this
pub record PartsGive (parts : List (List ℕ)) (answer : Result Unit Fault) : Type 0 where
  pub lists : Held
  pub spelled : PartsSpell parts lists
  pub told : Tells (tables_opening.opened lists) answer

-- the parts of a text of tables, with `|` between them
abbrev pub table_parts : List ℕ → List (List ℕ)
table_parts text = slice_split (λ b. b == 124) text

-- behind `tables` the text spells tables, and else a sheet
abbrev pub SheetOrTablesGive : List ℕ → Result Unit Fault → Type 0
SheetOrTablesGive text answer = MatchBool (starts_with nat_eq text (codes "tables")) (PartsGive (table_parts (drop 6 text)) answer) (SheetGives text answer)
