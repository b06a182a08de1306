use Rattle.std.proofs.Common.{rules}
use Rattle.index_set.proofs.Adding.{puts_more, puts_nothing, adds_held, adds_distinct}
use Rattle.index_set.proofs.IndexSet.add.Goals as goal

pub invariant_of-self-clause-distinct : goal.invariant_of-self-clause-distinct
invariant_of-self-clause-distinct g c =
    let same = g.T.PartialEq.eq in
    let x = c.args.x in
    let r = c.put-added.result in
    let adds = puts_more same c.args.self.now.places.now c.put-added.new.places c.args.self.now.len x c.args.self.now.fits r c.in-New.field-0 c.in-New.is c.put-added.ensures.answer c.put-added.ensures.places in
    adds_distinct same g.met.T.Eq.laws _ _ _ x r adds c.args.self.now.distinct

pub returns-in-New : goal.returns-in-New
returns-in-New g c =
    let same = g.T.PartialEq.eq in
    let x = c.args.x in
    let r = c.put-added.result in
    let adds = puts_more same c.args.self.now.places.now c.put-added.new.places c.args.self.now.len x c.args.self.now.fits r c.in-New.field-0 c.in-New.is c.put-added.ensures.answer c.put-added.ensures.places in
    let holds = adds_held same g.met.T.Eq.laws _ _ _ x r adds in
    search rules

pub returns-in_default : goal.returns-in_default
returns-in_default g c =
    let same = g.T.PartialEq.eq in
    let x = c.args.x in
    let r = c.put-added.result in
    let adds = puts_nothing same c.args.self.now.places.now c.put-added.new.places c.args.self.now.len x c.args.self.now.fits r c.in_default.not-New c.put-added.ensures.answer c.put-added.ensures.places in
    let holds = adds_held same g.met.T.Eq.laws _ _ _ x r adds in
    search rules
