use Rattle.std.proofs.Common.{Ok, Err, ◌∷◌, sym, refl, ap, ◌∙◌, subst}
use Rattle.graph.specs.Entries.{grown}
use Rattle.graph.specs.Opening.{latest}
use Rattle.sheet.specs.Borrowed.{content_of, entry_of}
use Rattle.sheet.specs.Opening.{field_refusal}
use Rattle.sheet.specs.Progressing.{Standing}
use Rattle.sheet.specs.Reading.{fields_left}
use Rattle.sheet.proofs.Advancing.{passes, stops}
use Rattle.sheet.proofs.Stepping.{field}
use Rattle.sheet.proofs.progress.Progress.take.Goals as goal

pub returns-in-Some : goal.returns-in-Some
returns-in-Some c = λ all g standing.
    let read = ap content_of c.in_ok-field.ensures in
    stops all c.args.self.now c.args.next.place (content_of c.args.next.content) (fields_left c.args.behind) g standing c.in-Some.reason
    (ap (field_refusal g) read ∙ sym (c.in-Some.ensures.first all _ g standing (λ name zero is. standing.named zero _ _ name refl (read ∙ ap (λ e. Ok e) is))))
    ∙ ap (λ f. Err f) (sym c.fault.ensures)

pub returns : goal.returns
returns c = λ all g standing.
    let read = ap content_of c.in_ok-field.ensures in
    let e = entry_of c.in_ok-field.field in
    let told : Standing all c.args.self.now (field c.args.next.place (Ok e) ∷ fields_left c.args.behind) g = subst (λ content. Standing all c.args.self.now (field c.args.next.place content ∷ fields_left c.args.behind) g) read standing in
    (grown g (latest g) e, passes all c.args.self.now c.add.new.self c.args.next.place e c.args.behind g told (sym (c.in_default.ensures.first all _ g standing (λ name zero is. standing.named zero _ _ name refl (read ∙ ap (λ x. Ok x) is)))) c.add.ensures)
