use Rattle.std.proofs.Common.{rules}
use Rattle.sheet.proofs.Going.{readable_more, readable_last}
use Rattle.sheet.proofs.fields.FieldsIterator.next.Goals as goal

pub returns-in-Ok-clause-steps : goal.returns-in-Ok-clause-steps
returns-in-Ok-clause-steps c = readable_more c.args.self.now.bytes.now c.args.self.now.at _ c.if-place-self.false _ c.in-Ok.ensures.0 c.in-Ok.ensures.1

pub returns-in-Ok-clause-goes : goal.returns-in-Ok-clause-goes
returns-in-Ok-clause-goes c =
    let left = readable_more c.args.self.now.bytes.now c.args.self.now.at _ c.if-place-self.false _ c.in-Ok.ensures.0 c.in-Ok.ensures.1 in
    grind (rules, left)

pub returns-in-Err-clause-steps : goal.returns-in-Err-clause-steps
returns-in-Err-clause-steps c = readable_last c.args.self.now.bytes.now c.args.self.now.at c.args.self.now.at c.if-place-self.false _ c.in-Err.ensures.0

pub returns-in-Err-clause-goes : goal.returns-in-Err-clause-goes
returns-in-Err-clause-goes c =
    let left = readable_last c.args.self.now.bytes.now c.args.self.now.at c.args.self.now.at c.if-place-self.false _ c.in-Err.ensures.0 in
    grind (rules, left)
