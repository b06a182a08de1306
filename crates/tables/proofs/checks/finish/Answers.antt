use Rattle.std.proofs.Common.{◌<◌, length, sym, refl, arith}
use Rattle.std.proofs.lemmas.Result.{err_from_is_err_and}
use Rattle.std.proofs.lemmas.Bool.{eqb-false}
use Rattle.tables.specs.Borrowed.{held}
use Rattle.tables.specs.Rows.{star_writes, import_writes}
use Rattle.tables.proofs.Opened.{stars_miss, imports_tell}
use Rattle.tables.proofs.checks.finish.Goals as goal

pub returns-in_err-check_aims : goal.returns-in_err-check_aims
returns-in_err-check_aims c = λ passed.
    let some : 0 < length c.args.lists.names.now = omega (arith, eqb-false _ 0 (sym c.if-is_empty.ensures)) in
    let p = err_from_is_err_and c.from_residual.result c.from_residual.ensures.1 in
    rw (p.1, p.2) (stars_miss (held c.args.lists) passed some c.in_err-check_aims.field-0.0 (cc (c.in_err-check_aims.ensures (held c.args.lists) refl star_writes, c.star_place.ensures)))

pub returns : goal.returns
returns c = λ passed.
    let some : 0 < length c.args.lists.names.now = omega (arith, eqb-false _ 0 (sym c.if-is_empty.ensures)) in
    imports_tell (held c.args.lists) passed some (cc (c.in_ok-check_aims.ensures (held c.args.lists) refl star_writes, c.star_place.ensures)) c.check_aims-2.result (rw (sym c.import_place.ensures) (c.check_aims-2.ensures (held c.args.lists) refl import_writes))
