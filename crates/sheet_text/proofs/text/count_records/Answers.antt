use Rattle.std.proofs.Common.{◌≡◌, ap, length, arith, rules}
use Rattle.sheet_text.specs.Counting.{no_counts, counted}
use Rattle.sheet_text.proofs.Left.{all_left, few}
use Rattle.sheet_text.proofs.text.count_records.Goals as goal

pub loop-record-init : goal.loop-record-init
loop-record-init c =
    let all = all_left c.of-record-items.result _ c.args.bytes.now c.into_iter-record-iterator.ensures.into_iter_gives c.of-record-items.ensures in
    let none : c.default-counts.result ≡ no_counts = search rules in
    (tt, tt, rw none (ap (counted no_counts) all), rw none (omega (arith, ap length all, few c.args.bytes.now)))
