use Rattle.std.proofs.Common.{◌≡◌, Ok, length, take}
use Rattle.std.specs.List.{AllZip}
use Rattle.case_list.proofs.records.read_numbers.Given as goal

abbrev pub invariant-loop-part : goal.invariant-loop-part
invariant-loop-part g l = (length l.numbers ≡ g.row.N) × AllZip (λ part n. g.T.FromStr.from_str_gives part.now (Ok n)) l.yielded (take l.count l.numbers)
