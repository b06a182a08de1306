use Rattle.std.proofs.Common.{◌<◌, ◌∙◌, subst, arith, Ok, length, lit<}
use Rattle.std.specs.List.{AllZip}
use Rattle.std.proofs.lemmas.List.{length-set, take_all, take_more_set}
use Rattle.std.proofs.lemmas.Slice.Zip.{all_zipped_more}
use Rattle.std.proofs.lemmas.Iterator.Consumers.{YieldsList-at, YieldsList-end}
use Rattle.std.proofs.lemmas.Iterator.Splits.{YieldsList-from_str_split}
use Rattle.case_list.proofs.NumberReading.{zip_map}
use Rattle.case_list.proofs.records.read_numbers.Goals as goal

pub loop-part-preserved : goal.loop-part-preserved
loop-part-preserved g c =
    let fits : c.loop-part.count < length c.loop-part.numbers = omega (arith, c.loop-part.invariant.0) in (
      length-set c.loop-part.numbers c.loop-part.count c.in_ok-numbers.field-0 ∙ c.loop-part.invariant.0,
      rw (take_more_set c.loop-part.numbers c.loop-part.count c.in_ok-numbers.field-0 fits) (all_zipped_more _ _ _ _ _ c.loop-part.invariant.1 c.in_ok-numbers.ensures.value),
    )

pub returns : goal.returns
returns g c =
    let seen = YieldsList-end (YieldsList-at c.into_iter-part-iterator.ensures.into_iter_gives (YieldsList-from_str_split 58 c.args.text.now (lit< tt) c.split-part-items.ensures.text c.split-part-items.ensures.has_more c.split-part-items.ensures.pattern)) c.loop-part.yielded _ c.loop-part.yielded_by _ _ c.in-None.is c.next.ensures.steps in
    let whole = take_all c.loop-part.count c.loop-part.numbers (omega (arith, c.loop-part.invariant.0)) in
    let read = zip_map (λ text n. g.T.FromStr.from_str_gives text (Ok n)) (λ part. part.now) _ _ c.loop-part.invariant.1 in
    subst (λ ts. AllZip (λ text n. g.T.FromStr.from_str_gives text (Ok n)) ts c.loop-part.numbers) seen.0 (rw whole at read)
