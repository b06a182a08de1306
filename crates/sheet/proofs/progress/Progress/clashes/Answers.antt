use Rattle.std.proofs.Common.{rules, ◌≡◌, ℕ, Bool, List, [], ◌∷◌, map, take, refl, ap, ◌∙◌, ◌||◌}
use borrow.Author.Tests.{tests}
use Rattle.std.specs.List.{list_any}
use Rattle.std.proofs.lemmas.List.{take-map}
use Rattle.std.proofs.lemmas.Iterator.{YieldsList-from_take, YieldsList-from_map}
use Rattle.std.proofs.lemmas.Iterator.Consumers.{YieldsList-at, YieldsList-from_first}
use Rattle.std.proofs.lemmas.Iterator.Search.{any_from_yields_List}
use Rattle.graph.specs.Opening.{Placed}
use Rattle.sheet.specs.Borrowed.{entry_of}
use Rattle.sheet.specs.Progressing.{clash_content}
use Rattle.sheet.specs.Reading.{placed_of, fields_left}
use Rattle.sheet.proofs.progress.Progress.clashes.Goals as goal

-- one of these answers is yes, where the test passes one of these values
any_map : {A : Type 0} (test : A → Bool) (xs : List A) → list_any (λ (b : Bool). b) (map test xs) ≡ list_any test xs
any_map test [] = refl
any_map test (x ∷ xs) = ap (λ b. test x || b) (any_map test xs)

pub returns : goal.returns
returns c =
    let own = fields_left c.args.self.now.own in
    let test : Placed → Bool = λ x. clash_content (entry_of c.args.field) x.content in
    any_from_yields_List (λ (b : Bool). b) c.any.new.self _ _ c.any.ensures.ran (YieldsList-from_take c.args.self.now.owned (YieldsList-at c.take.ensures.source (YieldsList-from_map _ test (YieldsList-from_first placed_of fields_left own (ap fields_left c.map.ensures.source)) c.map.ensures.closure (λ x r q k. search (rules, tests)))) c.take.ensures.count) (λ x b q k. search (rules, tests))
    ∙ ap (list_any (λ (b : Bool). b)) (take-map test c.args.self.now.owned own)
    ∙ any_map test (take c.args.self.now.owned own)
