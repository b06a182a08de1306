-- What owned lists hold.
use Rattle.std.specs.Prelude.{vec_items}
use Rattle.tables.specs.declared.owned.OwnedLists.{OwnedLists}
use Rattle.tables.specs.Rows.{Held}

abbrev pub kept : OwnedLists → Held
kept l = record { bytes = l.bytes.now; names = vec_items l.names; modules = vec_items l.modules; stars = vec_items l.stars; imports = vec_items l.imports; exports = vec_items l.exports }
