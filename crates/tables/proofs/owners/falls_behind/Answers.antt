use Rattle.std.proofs.Common.{◌≡◌, false, ltb, rules, MatchOption}
use Rattle.std.specs.Option.{option_copied}
use borrow.Author.Tests.{tests}
use Rattle.tables.proofs.Owning.{falls_told}
use Rattle.tables.proofs.owners.falls_behind.Goals as goal

pub returns : goal.returns
returns g c = λ up.
    let told : MatchOption (option_copied c.last.result) (c.is_some_and.result ≡ false) (λ x. c.is_some_and.result ≡ ltb c.args.owner (g.T.Owned.belongs x)) = search (rules, tests) in
    falls_told g.T.Owned.belongs c.args.owner c.args.before.now (option_copied c.last.result) c.is_some_and.result up c.last.ensures.value told
