use Rattle.std.proofs.Common.{◌≡◌, eqb, ap, ◌∙◌, rules}
use borrow.Author.Tests.{tests}
use Rattle.std.specs.List.{find}
use Rattle.std.specs.Option.{option_copied}
use Rattle.std.proofs.lemmas.Iterator.{YieldsList-from_slice}
use Rattle.std.proofs.lemmas.Iterator.Search.{find_from_yields_List}
use Rattle.graph.proofs.Rising.{first_in_run}
use Rattle.graph.proofs.lookups.find_of.Goals as goal

pub returns : goal.returns
returns g c = λ up.
    let key = g.T.Keyed.keyed in
    let k = c.args.key in
    let found : option_copied c.find.result ≡ find (λ x. eqb (key x) k) c.records_of-run.result.now = find_from_yields_List (λ x. eqb (key x) k) _ _ c.find.result c.find.ensures.ran (YieldsList-from_slice c.records_of-run.result.now cc) (λ x b q t. search (rules, tests)) in
    c.copied.ensures
    ∙ found
    ∙ ap (find (λ x. eqb (key x) k)) (c.records_of-run.ensures up)
    ∙ first_in_run g.T.Owned.belongs key c.args.records.now c.args.m k
