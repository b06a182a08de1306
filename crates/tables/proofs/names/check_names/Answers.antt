use Rattle.std.proofs.Common.{Err, sym, ap, ◌∙◌, arith}
use Rattle.std.specs.Str.{bytes_eq}
use Rattle.graph.specs.declared.fault.Layer.TheVariants as layer
use Rattle.graph.specs.declared.fault.Reason.TheVariants.{BadName}
use Rattle.graph.specs.Opening.{fault_in}
use Rattle.tables.specs.Borrowed.{held}
use Rattle.tables.specs.Spans.{bytes_in}
use Rattle.tables.proofs.Named.{unread, repeated_refused, limit_refused, name_passes, listed_here, listed_never, never_some, same_some}
use Rattle.tables.proofs.names.check_names.Goals as goal
use Rattle.tables.proofs.names.check_names.Goals.{else-names-test, then-names-test+in-Some+else-is_wrong_first+then-loop-earlier-test+then-eq}

pub returns-in_default : goal.returns-in_default
returns-in_default c = unread (held c.args.lists) c.names.place _ c.names-test.true c.names.invariant.0 c.in_default.ensures ∙ ap (λ f. Err f) (sym c.fault.ensures)

pub returns-then-place-ge-MOST_NAMES : goal.returns-then-place-ge-MOST_NAMES
returns-then-place-ge-MOST_NAMES c =
    let none = sym c.loop-earlier.invariant.0 ∙ listed_never (bytes_in c.args.lists.bytes.now) c.in-Some.name.now _ c.loop-earlier.earlier-index c.loop-earlier-test.false in
    limit_refused (held c.args.lists) c.names.place _ c.names-test.true c.names.invariant.0 c.in-Some.ensures.0 c.in-Some.ensures.1 _ (omega arith) (sym c.if-is_wrong_first.ensures) none c.if-place-ge-MOST_NAMES.true ∙ ap (λ f. Err f) (sym c.fault-then-place-ge-MOST_NAMES.ensures)

pub names-preserved : goal.names-preserved
names-preserved c =
    let none = sym c.loop-earlier.invariant.0 ∙ listed_never (bytes_in c.args.lists.bytes.now) c.in-Some.name.now _ c.loop-earlier.earlier-index c.loop-earlier-test.false in
    (name_passes (held c.args.lists) c.names.place _ c.names-test.true c.names.invariant.0 c.in-Some.ensures.0 c.in-Some.ensures.1 _ (omega arith) (sym c.if-is_wrong_first.ensures) none c.if-place-ge-MOST_NAMES.false, c.loop-earlier.invariant.1)

pub returns-in-Some-repeated : goal.returns-in-Some-repeated
returns-in-Some-repeated c = elim c.names-test.branch [
  | else-names-test w ↦ absurd (never_some _ _ (w.repeated-is ∙ c.names.invariant.1) c.in-Some-repeated.is)
  | then-names-test+in-Some+else-is_wrong_first+then-loop-earlier-test+then-eq w ↦
      let same = w.if-eq.ensures ∙ ap (bytes_eq w.in-Some.name.now) w.bytes.ensures in
      let there = sym w.loop-earlier.invariant.0 ∙ listed_here (bytes_in c.args.lists.bytes.now) w.in-Some.name.now _ w.loop-earlier.earlier-index _ w.loop-earlier-test.true same in
      let place = same_some _ _ _ w.repeated-is c.in-Some-repeated.is in
      repeated_refused (held c.args.lists) c.names.place _ w.names-test.true c.names.invariant.0 w.in-Some.ensures.0 w.in-Some.ensures.1 _ (omega arith) there ∙ ap (λ p. Err (fault_in layer.Tables BadName p)) place ∙ ap (λ f. Err f) (sym c.fault-in-Some-repeated.ensures)
]
