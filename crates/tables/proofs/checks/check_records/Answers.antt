use Rattle.std.proofs.Common.{arith, sym}
use Rattle.std.proofs.lemmas.Result.{err_from_is_err_and}
use Rattle.tables.specs.Borrowed.{held}
use Rattle.tables.proofs.Opened.{names_end, modules_end, stars_end, imports_end, exports_tell}
use Rattle.tables.proofs.checks.check_records.Goals as goal

pub returns-in_err-check_names : goal.returns-in_err-check_names
returns-in_err-check_names c =
    let p = err_from_is_err_and c.from_residual.result c.from_residual.ensures.1 in
    rw (p.1, p.2) (names_end (held c.args.lists) _ c.in_err-check_names.ensures)

pub returns-in_err-check_rows : goal.returns-in_err-check_rows
returns-in_err-check_rows c =
    let p = err_from_is_err_and c.from_residual-in_err-check_rows.result c.from_residual-in_err-check_rows.ensures.1 in
    rw (p.1, p.2) (modules_end (held c.args.lists) c.in_ok-check_names.ensures c.in_err-check_rows.field-0.0 (cc (c.in_err-check_rows.ensures, c.module_place.ensures)))

pub returns-in_err-check_rows-2 : goal.returns-in_err-check_rows-2
returns-in_err-check_rows-2 c =
    let p = err_from_is_err_and c.from_residual-in_err-check_rows-2.result c.from_residual-in_err-check_rows-2.ensures.1 in
    rw (p.1, p.2) (stars_end (held c.args.lists) c.in_ok-check_names.ensures (cc (c.in_ok-check_rows.ensures, c.module_place.ensures)) c.in_err-check_rows-2.field-0.0 (cc (c.in_err-check_rows-2.ensures, c.star_place.ensures)))

pub returns-in_err-check_rows-3 : goal.returns-in_err-check_rows-3
returns-in_err-check_rows-3 c =
    let p = err_from_is_err_and c.from_residual-in_err-check_rows-3.result c.from_residual-in_err-check_rows-3.ensures.1 in
    rw (p.1, p.2) (imports_end (held c.args.lists) c.in_ok-check_names.ensures (cc (c.in_ok-check_rows.ensures, c.module_place.ensures)) (cc (c.in_ok-check_rows-2.ensures, c.star_place.ensures)) c.in_err-check_rows-3.field-0.0 (cc (c.in_err-check_rows-3.ensures, c.import_place.ensures)))

pub returns : goal.returns
returns c = exports_tell (held c.args.lists) c.in_ok-check_names.ensures (cc (c.in_ok-check_rows.ensures, c.module_place.ensures)) (cc (c.in_ok-check_rows-2.ensures, c.star_place.ensures)) (cc (c.in_ok-check_rows-3.ensures, c.import_place.ensures)) c.check_rows-4.result (rw (sym c.export_place.ensures) c.check_rows-4.ensures)

pub check_rows-requires-4 : goal.check_rows-requires-4
check_rows-requires-4 c = omega (arith, c.export_place.ensures)
