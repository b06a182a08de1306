use Rattle.std.proofs.Common.{rules, ◌≡◌, eqb, sym, ap, ◌∙◌}
use borrow.Author.Tests.{tests}
use Rattle.std.specs.List.{slice_get}
use Rattle.std.specs.Option.{option_map}
use Rattle.std.proofs.lemmas.Iterator.Consumers.{YieldsList-at, YieldsList-from_filter, nth_from_yields_List}
use Rattle.std.proofs.lemmas.Iterator.Adapters.{option_map_id}
use Rattle.graph.specs.declared.records.Star.{Star}
use Rattle.graph.specs.Lookups.{star_owner, star_target, owned_by}
use Rattle.std.proofs.lemmas.Option.{slice_get-map}
use Rattle.graph.proofs.Keyed.{targets_owned}
use Rattle.sheet.specs.Opening.{graph_of}
use Rattle.sheet.specs.Owning.{Owned, records_left, entry_star}
use Rattle.sheet_source.proofs.Answering.{stars_are, picked}
use Rattle.sheet_source.proofs.source.SheetModuleSource.star.Goals as goal

pub returns : goal.returns
returns c =
    let found : c.nth.result ≡ slice_get (owned_by star_owner (graph_of c.args.self.now.bytes.now).stars c.args.m) c.args.k = sym (option_map_id c.nth.result) ∙ nth_from_yields_List c.nth.result c.nth.new.self c.args.k c.nth.ensures.ran (YieldsList-from_filter _ (λ (s : Star). eqb s.owner c.args.m) (YieldsList-at c.filter.ensures.source (picked (λ (x : Owned). entry_star x.owner x.entry) _ (stars_are c.args.self.now.bytes.now c.args.self.now.opens) (ap records_left c.filter_map.ensures.source ∙ c.records.ensures) c.filter_map.ensures.closure (λ x r q k. search (rules, tests)))) c.filter.ensures.closure (λ x b q k. search (rules, tests))) in
    let target : c.map.result ≡ option_map star_target c.nth.result = search (rules, tests) in
    target ∙ ap (option_map star_target) found ∙ sym (ap (λ l. slice_get l c.args.k) (targets_owned (graph_of c.args.self.now.bytes.now).stars c.args.m) ∙ slice_get-map star_target (owned_by star_owner (graph_of c.args.self.now.bytes.now).stars c.args.m) c.args.k)
