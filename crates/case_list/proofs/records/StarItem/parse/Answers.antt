use Rattle.std.proofs.Common.{rules, refl}
use Rattle.case_list.proofs.NumberReading.{numbers_read}
use Rattle.case_list.proofs.records.StarItem.parse.Goals as goal

pub returns : goal.returns
returns c = (_, numbers_read 2 16 c.args.text.now c.in_ok-owner.field-0 (search rules) c.in_ok-owner.ensures, refl)
