use Rattle.std.proofs.Common.{ap, ◌∙◌}
use Rattle.sheet.specs.Opening.{fields_at, aims}
use Rattle.sheet.specs.Reading.{fields_left}
use Rattle.sheet.proofs.Reaching.{aims_readable}
use Rattle.sheet.proofs.checks.check_targets.Goals as goal

pub loop-next-init : goal.loop-next-init
loop-next-init c = (tt, tt, λ g are. ap (λ s. aims g (fields_left s)) c.into_iter-next-iterator.ensures.into_iter_gives ∙ ap (aims g) c.of-next-items.ensures ∙ aims_readable g (fields_at c.args.bytes.now 0))
