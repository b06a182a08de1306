-- Going through the fields of a sheet.
use Rattle.std.specs.Prelude.{cond, List, [], ◌∷◌, is_ok, None}
use Rattle.graph.specs.Opening.{Placed}
use Rattle.sheet.specs.declared.field.FieldAt.{FieldAt}
use Rattle.sheet.specs.declared.fields.Fields.{Fields}
use Rattle.sheet.specs.Borrowed.{content_of}
use Rattle.sheet.specs.Opening.{fields_at}

-- the fields up to the first that cannot be read, and that one
abbrev pub readable : List Placed → List Placed
readable [] = []
readable (x ∷ xs) = x ∷ cond (is_ok x.content) (readable xs) []

abbrev pub placed_of : FieldAt → Placed
placed_of f = record { place = f.place; owner = None; content = content_of f.content }

-- what is left to be gone through
abbrev pub fields_left : Fields → List Placed
fields_left s = readable (fields_at s.bytes.now s.at)
