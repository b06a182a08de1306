use Rattle.std.proofs.Common.{ap, ◌∙◌}
use Rattle.sheet.specs.Opening.{fields_at, entries_of}
use Rattle.sheet.specs.Owning.{owned}
use Rattle.sheet.proofs.Reaching.{entries_readable}
use Rattle.sheet.proofs.records.Records.of.Goals as goal

pub returns : goal.returns
returns c = (ap (λ fields. owned 0 (entries_of fields)) c.of.ensures ∙ ap (owned 0) (entries_readable (fields_at c.args.bytes.now 0)), c.of.ensures)
