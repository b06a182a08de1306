-- Why a sheet is not shown.
use Rattle.std.specs.Prelude.{◌≡◌, ℕ, List, Ok, Err}
use Rattle.graph.specs.Graphs.{Graph}
use Rattle.sheet.specs.Opening.{opened}
use Rattle.sheet_text.specs.declared.failure.Failure.{Failure}
use Rattle.sheet_text.specs.declared.failure.Failure.TheVariants.{Refused, NoMemory}

-- opening refuses it so, or it opens and there is no memory
abbrev pub Fails : List ℕ → Failure → Type 0
Fails bytes (Refused f) = opened bytes ≡ Err f
Fails bytes NoMemory = (g : Graph) × (opened bytes ≡ Ok g)
