use Rattle.std.proofs.Common.{Err, sym, ap, ◌∙◌, arith}
use Rattle.graph.specs.declared.fault.Fault.{Fault}
use Rattle.sheet.specs.Fields.{fault_at}
use Rattle.sheet.proofs.Reading.{field_there}
use Rattle.sheet.proofs.field.read_field.Goals as goal

pub returns-in-Ok : goal.returns-in-Ok
returns-in-Ok c = (field_there c.args.bytes.now c.args.at c.from-size.result (c.from-size.ensures ∙ c.two_bytes.ensures) (omega arith) ∙ sym c.in-Ok.ensures.content, omega arith, omega arith, c.in-Ok.ensures.begins)

pub returns-in-Err : goal.returns-in-Err
returns-in-Err c =
    let told = c.fault-in-Err.ensures in (
      field_there c.args.bytes.now c.args.at c.from-size.result (c.from-size.ensures ∙ c.two_bytes.ensures) (omega arith) ∙ sym c.in-Err.ensures.content ∙ ap (λ (f : Fault). Err f.reason) (sym told),
      told ∙ ap (λ (f : Fault). fault_at f.reason c.args.at) (sym told),
    )
