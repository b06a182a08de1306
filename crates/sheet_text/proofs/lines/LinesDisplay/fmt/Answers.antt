use Rattle.std.proofs.Common.{◌≡◌, ◌++◌, [], map, ap, length, arith, rules, append_assoc}
use Rattle.std.proofs.Output.{has_written_append}
use Rattle.sheet.specs.Borrowed.{entry_of}
use Rattle.sheet.specs.Owning.{Owned}
use Rattle.sheet_text.specs.Counting.{no_counts}
use Rattle.sheet_text.specs.Lines.{line, lines}
use Rattle.sheet_text.proofs.Left.{all_left, few}
use Rattle.sheet_text.proofs.lines.LinesDisplay.fmt.Goals as goal

pub loop-record-init : goal.loop-record-init
loop-record-init g c =
    let bytes = c.args.self.now.0.now in
    let all = all_left c.of-record-items.result _ bytes c.into_iter-record-iterator.ensures.into_iter_gives c.of-record-items.ensures in
    let none : c.default-before.result ≡ no_counts = search rules in
    (tt, tt, rw none (λ plain. ([], search rules, ap (lines no_counts) all)), rw none (omega (arith, ap length all, few bytes)))

pub loop-record-preserved : goal.loop-record-preserved
loop-record-preserved g c =
    let later = ap (map (λ (r : Owned). r.entry)) c.in-Some.ensures.steps.0 in (
      tt,
      tt,
      λ plain.
          let so_far = c.loop-record.invariant.2 plain in (
            so_far.0 ++ line c.loop-record.before (entry_of c.in-Some.record.field),
            has_written_append _ _ _ _ _ _ so_far.1 (search rules),
            rw (append_assoc, c.with-before.ensures) (rw later at so_far.2),
          ),
      search rules,
    )
