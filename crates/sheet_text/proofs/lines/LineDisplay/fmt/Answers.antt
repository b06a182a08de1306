use Rattle.std.proofs.Common.{append_assoc}
use Rattle.std.proofs.Output.{has_written_of_eq}
use Rattle.sheet_text.proofs.lines.LineDisplay.fmt.Goals as goal

pub returns-in-Star-clause-writes : goal.returns-in-Star-clause-writes
returns-in-Star-clause-writes g c = λ plain ok. has_written_of_eq _ _ _ _ _ (simp (c.in-Star.is, c.saturating_sub-owner.ensures, append_assoc)) (c.write-in-Star.ensures.writes plain ok)

pub returns-in-Import-clause-writes : goal.returns-in-Import-clause-writes
returns-in-Import-clause-writes g c = λ plain ok. has_written_of_eq _ _ _ _ _ (simp (c.in-Import.is, c.saturating_sub-owner.ensures, append_assoc)) (c.write-in-Import.ensures.writes plain ok)

pub returns-in-Export-clause-writes : goal.returns-in-Export-clause-writes
returns-in-Export-clause-writes g c = λ plain ok. has_written_of_eq _ _ _ _ _ (simp (c.in-Export.is, c.saturating_sub-owner.ensures, append_assoc)) (c.write-in-Export.ensures.writes plain ok)
