-- What opening refuses a sheet for is its first fault.
use Rattle.std.proofs.Common.{◌≡◌, ℕ, ltb, List, length, Some, Ok, Err, Result, ap, ◌∙◌, subst, ⊎_elim, MatchResult}
use Rattle.std.proofs.lemmas.Bool.{cond-true, cond-false, ltb-true, ltb-false, lt-ltb, le-ltb}
use Rattle.graph.specs.declared.fault.Fault.{Fault}
use Rattle.graph.specs.declared.fault.Layer.TheVariants as layer
use Rattle.graph.specs.Graphs.{Graph}
use Rattle.graph.specs.Rules.{unless}
use Rattle.graph.specs.Opening as opening
use Rattle.graph.proofs.Pushing.{cond_none}
use Rattle.graph.proofs.Firstly.{unless_err}
use Rattle.std.proofs.lemmas.Option.{cond_some}
use Rattle.graph.proofs.Firstly as records
use Rattle.sheet.specs.Opening.{fields_at, too_long, opened}
use Rattle.sheet.specs.Foremost.{FirstFault, overlong, of_fields}

module _ (bytes : List ℕ) where
  -- a refusal is a first fault
  pub first_from_err : (fault : Fault) → opened bytes ≡ Err fault → FirstFault bytes fault
  first_from_err fault e = ⊎_elim long (λ short. of_fields (ltb-false 60000 (length bytes) (cond_none _ _ _ short.0).0) (records.first_from_err layer.Sheet (length bytes) (fields_at bytes 0) fault short.1)) (unless_err (too_long bytes) _ fault e)
    where
      long : too_long bytes ≡ Some fault → FirstFault bytes fault
      long some = let told = cond_some (ltb 60000 (length bytes)) _ fault some in subst (FirstFault bytes) told.1 (overlong (ltb-true 60000 (length bytes) told.0))

  -- a first fault is the refusal
  pub err_from_first : (fault : Fault) → FirstFault bytes fault → opened bytes ≡ Err fault
  err_from_first _ (overlong long) = ap (λ o. unless o (opening.opened layer.Sheet (length bytes) (fields_at bytes 0))) (cond-true _ _ _ (lt-ltb 60000 (length bytes) long))
  err_from_first fault (of_fields short first) =
      ap (λ o. unless o (opening.opened layer.Sheet (length bytes) (fields_at bytes 0))) (cond-false _ _ _ (le-ltb 60000 (length bytes) short))
      ∙ records.err_from_first layer.Sheet (length bytes) (fields_at bytes 0) fault first

  -- what opening answers, told by first faults
  pub first_from_opened : (r : Result (Unit {0}) Fault) → MatchResult r (λ _. (g : Graph) × (opened bytes ≡ Ok g)) (λ f. opened bytes ≡ Err f) → MatchResult r (λ _. (f : Fault) → FirstFault bytes f → ⊥) (λ f. FirstFault bytes f × ((e : Fault) → FirstFault bytes e → e ≡ f))
  first_from_opened = records.first_from_opened (FirstFault bytes) (opened bytes) first_from_err err_from_first
