use Rattle.std.proofs.lemmas.Result.{on_ok_weaker}
use Rattle.case_list.proofs.ItemReading.{divided_added}
use Rattle.case_list.proofs.items.read_item.Goals as goal

pub returns : goal.returns
returns g c = on_ok_weaker _ (divided_added g.T.Item.spells _ _ _ _ _ c.in_ok-text.ensures) c.add_values.ensures
