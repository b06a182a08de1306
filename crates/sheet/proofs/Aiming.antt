-- The last checks: module numbers and star targets.
use Rattle.std.proofs.Common.{◌≡◌, cond, leb, map, Some, None, refl, ap, ◌∙◌}
use Rattle.std.proofs.lemmas.List.{length-map}
use Rattle.std.proofs.lemmas.Option.{slice_get-map}
use Rattle.graph.specs.declared.fault.Reason.TheVariants.{NoRecord}
use Rattle.graph.specs.Graphs.{Graph}
use Rattle.graph.specs.Entries.{Entry, a_name, a_module, a_star, an_import, an_export}
use Rattle.graph.specs.Lookups.{kind_of}
use Rattle.graph.specs.Rules.{aim_refusal, star_aim}
use Rattle.graph.proofs.Aiming.{star_aims}
use Rattle.sheet.specs.Progressing.{aim_by}

aim_same : (g : Graph) (e : Entry) → aim_by (map kind_of g.modules) e ≡ aim_refusal g e
aim_same g (a_name bytes) = refl
aim_same g (a_module k id) = refl
aim_same g (a_star target) = ap star_aim (slice_get-map kind_of g.modules target) ∙ star_aims g.modules target
aim_same g (an_import symbol target wanted) = ap (λ n. cond (leb n target) (Some NoRecord) None) (length-map g.modules kind_of)
aim_same g (an_export name symbol) = refl
