-- One record more, in lists over the bytes of its sheet.
use Rattle.std.specs.Prelude.{ℕ, [], ◌∷◌, ◌++◌, length}
use Rattle.graph.specs.Rules.{kind_number, wanted_number}
use Rattle.sheet.specs.declared.field.Field.{Field}
use Rattle.sheet.specs.declared.field.Field.TheVariants.{Name, Module, Star, Import, Export}
use Rattle.tables.specs.Rows.{Held}

-- the record of a field that this module owns
abbrev pub added : Held → ℕ → Field → Held
added h owner (Name bytes offset) = record { bytes = h.bytes; names = h.names ++ (record { offset = offset; len = length bytes.now } ∷ []); modules = h.modules; stars = h.stars; imports = h.imports; exports = h.exports }
added h owner (Module kind id offset) = record { bytes = h.bytes; names = h.names; modules = h.modules ++ (record { kind = kind_number kind; id = record { offset = offset; len = length id.now } } ∷ []); stars = h.stars; imports = h.imports; exports = h.exports }
added h owner (Star target) = record { bytes = h.bytes; names = h.names; modules = h.modules; stars = h.stars ++ (record { owner = owner; target = target } ∷ []); imports = h.imports; exports = h.exports }
added h owner (Import symbol target wanted) = record { bytes = h.bytes; names = h.names; modules = h.modules; stars = h.stars; imports = h.imports ++ (record { owner = owner; symbol = symbol; target = target; name = wanted_number wanted } ∷ []); exports = h.exports }
added h owner (Export name symbol) = record { bytes = h.bytes; names = h.names; modules = h.modules; stars = h.stars; imports = h.imports; exports = h.exports ++ (record { owner = owner; name = name; symbol = symbol } ∷ []) }
