use Rattle.std.proofs.Common.{rules, sym, ap, ◌∙◌, map}
use Rattle.case_list.proofs.Elements.{by_elements}
use Rattle.case_list.proofs.table_parts.TableParts.parse.Goals as goal

pub returns : goal.returns
returns c =
    sym c.in_ok-parts.ensures ∙ ap (map (λ part. part.now)) (sym c.as_slice.ensures.value) ∙ ap (map (λ part. part.now)) (by_elements 6 c.as_slice.result.now _ (search rules))
