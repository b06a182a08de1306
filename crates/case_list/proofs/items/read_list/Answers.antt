use Rattle.case_list.proofs.ItemReading.{reading_goes_on, reading_ends}
use Rattle.case_list.proofs.items.read_list.Goals as goal

pub loop-item-preserved : goal.loop-item-preserved
loop-item-preserved g c = reading_goes_on g.T.Item.spells _ _ _ _ _ _ c.in-Some.ensures.steps c.in_ok-read_item.ensures c.loop-item.invariant

pub returns : goal.returns
returns g c = reading_ends g.T.Item.spells _ _ _ c.in-None.ensures.steps.1 c.loop-item.invariant
