-- What a field that borrows from its sheet says.
use Rattle.std.specs.Prelude.{◌≡◌, ℕ, ◌+◌, Bool, false, List, Ok, Err, Result}
use Rattle.std.specs.Str.{bytes_eq}
use Rattle.graph.specs.declared.fault.Reason.{Reason}
use Rattle.graph.specs.Entries.{Entry, a_name, a_module, a_star, an_import, an_export}
use Rattle.sheet.specs.declared.field.Field.{Field}
use Rattle.sheet.specs.declared.field.Field.TheVariants.{Name, Module, Star, Import, Export}

abbrev pub entry_of : Field → Entry
entry_of (Name bytes offset) = a_name bytes.now
entry_of (Module kind id offset) = a_module kind id.now
entry_of (Star target) = a_star target
entry_of (Import symbol target wanted) = an_import symbol target wanted
entry_of (Export name symbol) = an_export name symbol

abbrev pub content_of : Result Field Reason → Result Entry Reason
content_of (Ok f) = Ok (entry_of f)
content_of (Err r) = Err r

-- the bytes that a field borrows stand in its payload, which begins at p
abbrev pub Begins : Field → ℕ → Type 0
Begins (Name bytes offset) p = offset ≡ p
Begins (Module kind id offset) p = offset ≡ p + 1
Begins (Star target) p = Unit {0}
Begins (Import symbol target wanted) p = Unit {0}
Begins (Export name symbol) p = Unit {0}

-- where the bytes of what was read begin in the sheet, as it says, or 0 where it has none
abbrev pub offset_in : Result Field Reason → ℕ
offset_in (Ok (Name bytes offset)) = offset
offset_in (Ok (Module kind id offset)) = offset
offset_in (Ok (Star target)) = 0
offset_in (Ok (Import symbol target wanted)) = 0
offset_in (Ok (Export name symbol)) = 0
offset_in (Err reason) = 0

-- and as it is in a payload that begins at p
abbrev pub offset_from : Result Field Reason → ℕ → ℕ
offset_from (Ok (Name bytes offset)) p = p
offset_from (Ok (Module kind id offset)) p = p + 1
offset_from (Ok (Star target)) p = 0
offset_from (Ok (Import symbol target wanted)) p = 0
offset_from (Ok (Export name symbol)) p = 0
offset_from (Err reason) p = 0

-- what was read is this name
abbrev pub is_name : Result Field Reason → List ℕ → Bool
is_name (Ok (Name bytes offset)) name = bytes_eq name bytes.now
is_name (Ok (Module kind id offset)) name = false
is_name (Ok (Star target)) name = false
is_name (Ok (Import symbol target wanted)) name = false
is_name (Ok (Export n symbol)) name = false
is_name (Err reason) name = false
