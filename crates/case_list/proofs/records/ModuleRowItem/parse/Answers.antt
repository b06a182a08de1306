use Rattle.std.proofs.Common.{rules, refl}
use Rattle.case_list.proofs.NumberReading.{numbers_read, narrow_first}
use Rattle.case_list.proofs.records.ModuleRowItem.parse.Goals as goal

pub returns : goal.returns
returns c =
    let read = narrow_first c.args.text.now _ _ c.in_ok-kind-2.ensures.0 (numbers_read 3 64 c.args.text.now c.in_ok-kind.field-0 (search rules) c.in_ok-kind.ensures) in
    (_, rw c.in_ok-kind-2.ensures.1 read, refl)
