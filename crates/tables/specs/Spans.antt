-- Names and ids in the byte run.
use Rattle.std.specs.Prelude.{ℕ, ◌+◌, Bool, ◌&&◌, List, length, take, drop, nat_le}
use Rattle.graph.specs.Rules.{sized}
use Rattle.tables.specs.declared.lists.Span.{Span}

-- it ends inside the run
abbrev pub inside : List ℕ → Span → Bool
inside run s = nat_le (s.offset + s.len) (length run)

-- the bytes that it names
abbrev pub bytes_in : List ℕ → Span → List ℕ
bytes_in run s = take s.len (drop s.offset run)

-- it ends inside the run, and names between one and so many bytes
abbrev pub is_read : ℕ → List ℕ → Span → Bool
is_read longest run s = inside run s && sized 1 longest (bytes_in run s)
