-- What lists that are lent hold.
use Rattle.tables.specs.declared.lists.Lists.{Lists}
use Rattle.tables.specs.Rows.{Held}

abbrev pub held : Lists → Held
held l = record { bytes = l.bytes.now; names = l.names.now; modules = l.modules.now; stars = l.stars.now; imports = l.imports.now; exports = l.exports.now }
