use Rattle.std.proofs.Common.{◌≡◌, true, false, Ok, Err, refl, sym, ap, ◌∙◌}
use Rattle.std.proofs.lemmas.Bool.{false≢true}
use Rattle.graph.specs.declared.fault.Reason.TheVariants.{BadName}
use Rattle.sheet.specs.Fields.{fault_at}
use Rattle.graph.specs.Graphs.{no_records}
use Rattle.sheet.specs.Opening.{fields_at, gathered}
use Rattle.sheet.specs.Reading.{placed_of, fields_left}
use Rattle.sheet.proofs.Naming.{none_gone, limit_refused, repeated_refused, name_passes, name_test, repeated_on, repeated_here, repeated_none}
use Rattle.sheet.proofs.Reaching.{gathered_readable}
use Rattle.sheet.proofs.names.read_names.Goals as goal
use Rattle.sheet.proofs.names.read_names.Goals.{in-Some+in_ok-name+in_default-2, in-Some+in_ok-name+in-Name+else-is_wrong_first+in-Some-earlier+then-is_name, in_default}

pub names-init : goal.names-init
names-init c = (none_gone (fields_at c.args.bytes.now 0) (fields_left c.of-all.result) (ap (gathered no_records) c.of-all.ensures ∙ gathered_readable no_records (fields_at c.args.bytes.now 0)), refl, refl)

pub loop-earlier-preserved : goal.loop-earlier-preserved
loop-earlier-preserved c = (
  tt,
  tt,
  repeated_on c.in-Name.name.now c.loop-earlier.earlier-iterator.n (fields_left c.loop-earlier.earlier-iterator.iter) c.next-in-loop-earlier.new.self.n (placed_of c.in-Some-earlier.earlier) (fields_left c.next-in-loop-earlier.new.self.iter) c.in-Some-earlier.ensures.steps.0 c.in-Some-earlier.ensures.steps.1
      (sym (name_test c.in-Some-earlier.earlier.content c.in-Name.name.now) ∙ sym c.if-is_name.ensures)
      ∙ c.loop-earlier.invariant.2,
  c.loop-earlier.invariant.3,
)

pub returns-then-count-ge-MOST_NAMES : goal.returns-then-count-ge-MOST_NAMES
returns-then-count-ge-MOST_NAMES c =
    limit_refused c.names.invariant.0 c.in-Some.next.place c.in-Some.next.content (fields_left c.next.new.self) c.in-Some.ensures.steps c.in-Name.name c.in-Name.offset (c.in_ok-name.ensures ∙ ap (λ f. Ok f) c.in-Name.is) (sym c.if-is_wrong_first.ensures)
    (sym c.loop-earlier.invariant.2 ∙ repeated_none c.in-Name.name.now c.loop-earlier.earlier-iterator.n (fields_left c.loop-earlier.earlier-iterator.iter) (λ some. (c.in-None.ensures.steps some).0)) c.if-count-ge-MOST_NAMES.true
    ∙ ap (λ f. Err f) (sym c.fault-then-count-ge-MOST_NAMES.ensures)

pub names-preserved : goal.names-preserved
names-preserved c = (
  name_passes c.names.invariant.0 c.in-Some.next.place c.in-Some.next.content (fields_left c.next.new.self) c.in-Some.ensures.steps c.in-Name.name c.in-Name.offset (c.in_ok-name.ensures ∙ ap (λ f. Ok f) c.in-Name.is) (sym c.if-is_wrong_first.ensures)
      (sym c.loop-earlier.invariant.2 ∙ repeated_none c.in-Name.name.now c.loop-earlier.earlier-iterator.n (fields_left c.loop-earlier.earlier-iterator.iter) (λ some. (c.in-None.ensures.steps some).0)) c.if-count-ge-MOST_NAMES.false,
  refl,
  c.loop-earlier.invariant.3,
)

pub returns-in-Some-repeated : goal.returns-in-Some-repeated
returns-in-Some-repeated c = elim c.match-next.branch [
  | in-Some+in_ok-name+in_default-2 w ↦ let never : true ≡ false = cc (c.names.invariant.2, w.repeated-is, c.in-Some-repeated.is) in absurd (false≢true (sym never))
  | in-Some+in_ok-name+in-Name+else-is_wrong_first+in-Some-earlier+then-is_name w ↦
      let place : w.in-Some.next.place ≡ c.in-Some-repeated.place = cc (w.repeated-is, c.in-Some-repeated.is) in
      let same = repeated_here w.in-Name.name.now w.loop-earlier.earlier-iterator.n (fields_left w.loop-earlier.earlier-iterator.iter) w.next-in-loop-earlier.new.self.n (placed_of w.in-Some-earlier.earlier) (fields_left w.next-in-loop-earlier.new.self.iter) w.in-Some-earlier.ensures.steps.0 w.in-Some-earlier.ensures.steps.1 (sym (name_test w.in-Some-earlier.earlier.content w.in-Name.name.now) ∙ sym w.if-is_name.ensures) in
      repeated_refused c.names.invariant.0 w.in-Some.next.place w.in-Some.next.content (fields_left c.next.new.self) w.in-Some.ensures.steps w.in-Name.name w.in-Name.offset (w.in_ok-name.ensures ∙ ap (λ f. Ok f) w.in-Name.is) (sym w.loop-earlier.invariant.2 ∙ same)
      ∙ ap (λ p. Err (fault_at BadName p)) place ∙ ap (λ f. Err f) (sym c.fault-in-Some-repeated.ensures)
  | in_default w ↦ let never : true ≡ false = cc (c.names.invariant.2, w.repeated-is, c.in-Some-repeated.is) in absurd (false≢true (sym never))
]
