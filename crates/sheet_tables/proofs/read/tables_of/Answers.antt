use Rattle.std.proofs.Common.{sym, subst, rules}
use Rattle.sheet.specs.Opening.{fields_at}
use Rattle.sheet.proofs.Reaching.{entries_readable}
use Rattle.tables.specs.Owned.{kept}
use Rattle.sheet_tables.proofs.Reading.{SoFar, start, step, finish}
use Rattle.sheet_tables.proofs.read.tables_of.Goals as goal

pub loop-record-init : goal.loop-record-init
loop-record-init c =
    let bytes = c.args.sheet.now.bytes.now in
    let says = entries_readable (fields_at bytes 0) in
    (tt, tt, start bytes _ _ (search rules) (search rules))

pub loop-record-preserved : goal.loop-record-preserved
loop-record-preserved c =
    let bytes = c.args.sheet.now.bytes.now in
    let stands = c.in-Some.ensures.steps.1 in
    let so = step bytes c.args.sheet.now.opens (kept c.loop-record.lists) c.loop-record.record-iterator c.next.new.self c.loop-record.invariant.2 stands.0 c.in-Some.record.owner c.in-Some.record.field c.in-Some.ensures.steps.0 stands.1 stands.2 in
    (tt, tt, subst (λ h. SoFar bytes h c.next.new.self) (sym c.in_ok-add.ensures) so)

pub returns : goal.returns
returns c = finish c.args.sheet.now.bytes.now c.args.sheet.now.opens (kept c.loop-record.lists) c.loop-record.record-iterator c.loop-record.invariant.2 c.in-None.ensures.steps.0.0
