use Rattle.std.proofs.Common.{◌≡◌, false, true, rules, arith, string_bytes}
use Rattle.case_list.specs.Replaying.{is_heading}
use Rattle.case_list.proofs.Tallying.{heading_adds, case_adds, tallying_goes_on, tallying_ends}
use Rattle.case_list.proofs.replay.replay.Goals as goal

pub loop-line-preserved-then-starts_with : goal.loop-line-preserved-then-starts_with
loop-line-preserved-then-starts_with g c =
    let heading : is_heading (string_bytes c.in_ok-line.line) ≡ true = search rules in
    (search rules, tallying_goes_on _ string_bytes _ _ _ _ _ _ _ 0 0 _ _ c.in_ok-line.was c.in-Some.ensures.steps.1 (heading_adds _ _ heading) (omega arith) (omega arith) c.loop-line.invariant.1)

pub loop-line-preserved : goal.loop-line-preserved
loop-line-preserved g c =
    let case : is_heading (string_bytes c.in_ok-line.line) ≡ false = search rules in
    let right = rw c.as_str-in-loop-line.ensures.value at c.check_line-complaint.ensures in
    let adds = case_adds _ _ _ _ case right c.is_some.ensures in
    (search rules, tallying_goes_on _ string_bytes _ _ _ _ _ _ _ _ _ _ _ c.in_ok-line.was c.in-Some.ensures.steps.1 adds c.count.ensures.cases c.count.ensures.wrong c.loop-line.invariant.1)

pub returns : goal.returns
returns g c = tallying_ends _ _ _ _ _ c.in-None.ensures.steps.1 c.loop-line.invariant.1
