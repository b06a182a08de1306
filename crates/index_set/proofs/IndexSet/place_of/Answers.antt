use Rattle.std.proofs.Common.{sym, subst}
use Rattle.index_set.specs.Sameness.{Distinct, OnlyPlace}
use Rattle.index_set.proofs.Apart.{only_place}
use Rattle.index_set.proofs.IndexSet.place_of.Goals as goal

pub returns-clause-only : goal.returns-clause-only
returns-clause-only g c =
    let same = g.T.PartialEq.eq in
    let apart = subst (Distinct same) (sym c.elements.ensures) c.args.self.now.distinct in
    subst (λ xs. OnlyPlace same xs c.args.x.now c.find.result) c.elements.ensures (only_place same g.met.T.Eq.laws c.elements.result.now c.args.x.now c.find.result c.find.ensures apart)
