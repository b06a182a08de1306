use Rattle.std.proofs.Common.{arith}
use Rattle.std.proofs.lemmas.Grind.{common_steps}
use Rattle.case_list.proofs.ItemReading.{repeat_more}
use Rattle.case_list.proofs.items.add_values.Goals as goal

pub loop-preserved : goal.loop-preserved
loop-preserved g c = let more = repeat_more c.loop.counter (g.T.Values.AsSlice.items c.in_ok-values.values) in grind (arith, common_steps)
