use Rattle.std.specs.Str.Iter.{split_whitespace_rest}
use Rattle.case_list.proofs.ItemReading.{Reads}
use Rattle.case_list.proofs.items.read_list.Given as goal

abbrev pub invariant-loop-item : goal.invariant-loop-item
invariant-loop-item g l = Reads g.T.Item.spells l.fn.text (split_whitespace_rest l.item-iterator) l.list.items
