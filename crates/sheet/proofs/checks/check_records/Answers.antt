use Rattle.std.proofs.Common.{sym, ap, ◌∙◌, subst}
use Rattle.std.proofs.lemmas.Result.{err_from_is_err_and}
use Rattle.sheet.specs.Opening.{gathered}
use Rattle.sheet.specs.Progressing.{Standing}
use Rattle.sheet.proofs.checks.check_records.Goals as goal

pub loop-next-preserved : goal.loop-next-preserved
loop-next-preserved c = λ all head.
    let so = c.loop-next.invariant all head in
    c.in_ok-take.ensures all so.0 (subst (λ left. Standing all c.loop-next.progress left so.0) c.in-Some.ensures.steps so.1)

pub returns-in_err-take : goal.returns-in_err-take
returns-in_err-take c = λ all head.
    let so = c.loop-next.invariant all head in
    let p = err_from_is_err_and c.from_residual.result c.from_residual.ensures.1 in
    rw (p.1, p.2) (c.in_err-take.ensures all so.0 (subst (λ left. Standing all c.loop-next.progress left so.0) c.in-Some.ensures.steps so.1))

pub returns : goal.returns
returns c = λ all head.
    let so = c.loop-next.invariant all head in
    (so.0, so.1.counted, sym so.1.on ∙ ap (gathered so.0) c.in_default.ensures.steps.0)
