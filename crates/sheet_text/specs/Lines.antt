-- The lines of a sheet's text.
use Rattle.std.specs.Prelude.{ℕ, ◌-◌, List, [], ◌∷◌, ◌++◌, codes, decimal}
use Rattle.graph.specs.Entries.{Entry, a_name, a_module, a_star, an_import, an_export}
use Rattle.graph.specs.Texts.{kind_name, wanted_text}
use Rattle.sheet_text.specs.declared.counts.Counts.{Counts}
use Rattle.sheet_text.specs.Counting.{no_counts, counts_after, counted}
use Rattle.sheet_text.specs.Escaping.{escape}

-- how the line of a star record, an import or an export begins. The record belongs to the latest module
abbrev pub heading : Counts → List ℕ → ℕ → List ℕ
heading before sort number = sort ++ (codes " " ++ (decimal number ++ (codes " of module " ++ (decimal (before.modules - 1) ++ codes ": "))))

-- a record, numbered by those of its sort before it
abbrev pub record_text : Counts → Entry → List ℕ
record_text before (a_name bytes) = (codes "name " ++ (decimal before.names ++ codes ": ")) ++ escape bytes
record_text before (a_module kind id) = (codes "module " ++ (decimal before.modules ++ (codes ", " ++ (kind_name kind ++ codes ": ")))) ++ escape id
record_text before (a_star target) = heading before (codes "star record") before.stars ++ (codes "module " ++ decimal target)
record_text before (an_import symbol target wanted) = heading before (codes "import") before.imports ++ wanted_text wanted ++ (codes " of module " ++ (decimal target ++ (codes " as symbol " ++ decimal symbol)))
record_text before (an_export name symbol) = heading before (codes "export") before.exports ++ (codes "symbol " ++ (decimal symbol ++ (codes " as name " ++ decimal name)))

-- a record's line, which ends in a line break
abbrev pub line : Counts → Entry → List ℕ
line before e = record_text before e ++ (10 ∷ [])

-- all counts
abbrev pub counts_text : Counts → List ℕ
counts_text all = decimal all.names ++ (codes " names, " ++ (decimal all.modules ++ (codes " modules, " ++ (decimal all.stars ++ (codes " star records, " ++ (decimal all.imports ++ (codes " imports, " ++ (decimal all.exports ++ codes " exports"))))))))

-- the line of all counts, which ends in a line break
abbrev pub summary : Counts → List ℕ
summary all = counts_text all ++ (10 ∷ [])

-- the lines of records that stand behind so many others
abbrev pub lines : Counts → List Entry → List ℕ
lines before [] = []
lines before (e ∷ es) = line before e ++ lines (counts_after before e) es

-- the text of a sheet with these records
abbrev pub sheet_text : List Entry → List ℕ
sheet_text es = summary (counted no_counts es) ++ lines no_counts es
