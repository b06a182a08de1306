-- The checks of a list, record by record.
use Rattle.std.proofs.Common.{◌≡◌, ℕ, ◌+◌, ◌<◌, List, [], ◌∷◌, ◌++◌, length, get_or, take, drop, Some, None, Ok, Err, Option, Result, sym, refl, ap, ◌∙◌, subst, append_assoc, arith}
use Rattle.std.proofs.lemmas.List.{append-nil, take-append-drop, take_more, drop_more, length-take-le}
use Rattle.graph.specs.declared.fault.Layer.TheVariants as layer
use Rattle.graph.specs.declared.fault.Reason.{Reason}
use Rattle.graph.specs.Graphs.{Graph}
use Rattle.graph.specs.Entries.{Entry}
use Rattle.graph.specs.Rules.{placed, unless}
use Rattle.graph.specs.Opening.{content_refusal, with_content, fault_in, gathered}
use Rattle.graph.proofs.Pushing.{unless_ok}
use Rattle.graph.proofs.Firstly.{gathered_past}
use Rattle.tables.specs.Rows.{rows_from}
use Rattle.tables.specs.Staging.{Grows, checked, Passed}

pub rows_append : {X : Type 0} (owner : X → Option ℕ) (content : X → Result Entry Reason) (p : ℕ) (xs ys : List X) → rows_from owner content p (xs ++ ys) ≡ rows_from owner content p xs ++ rows_from owner content (p + length xs) ys
rows_append owner content p [] ys = ap (λ n. rows_from owner content n ys) (omega arith)
rows_append owner content p (x ∷ xs) ys = ap (λ l. record { place = p; owner = owner x; content = content x } ∷ l) (rows_append owner content (p + 1) xs ys ∙ ap (λ n. rows_from owner content (p + 1) xs ++ rows_from owner content n ys) (omega arith))

module _ {X : Type 0} (owner : X → Option ℕ) (content : X → Result Entry Reason) (stage : List X → Graph) (grows : Grows owner content stage) where
  grown_by : (xs : List X) (x : X) → content_refusal (stage xs) (owner x) (content x) ≡ None → with_content (stage xs) (owner x) (content x) ≡ stage (xs ++ (x ∷ []))
  grown_by xs x = by_content (content x) refl
    where
      by_content : (c : Result Entry Reason) → content x ≡ c → content_refusal (stage xs) (owner x) c ≡ None → with_content (stage xs) (owner x) (content x) ≡ stage (xs ++ (x ∷ []))
      by_content (Ok e) is none = ap (with_content (stage xs) (owner x)) is ∙ grows xs x e is
      by_content (Err r) is none = cc

  -- where records pass, the first of them is not refused, and the others pass behind it
  pub first_passes : (xs : List X) (y : X) (ys : List X) (p : ℕ) (k : Graph) → gathered layer.Tables (stage xs) (rows_from owner content p (y ∷ ys)) ≡ Ok k → (content_refusal (stage xs) (owner y) (content y) ≡ None) × (gathered layer.Tables (stage (xs ++ (y ∷ []))) (rows_from owner content (p + 1) ys) ≡ Ok k)
  first_passes xs y ys p k passed =
      let ok = unless_ok layer.Tables (content_refusal (stage xs) (owner y) (content y)) p _ k passed in
      (ok.0, subst (λ g. gathered layer.Tables g (rows_from owner content (p + 1) ys) ≡ Ok k) (grown_by xs y ok.0) ok.1)

  -- and they come to the graph of all of them
  stage_on : (xs ys : List X) (p : ℕ) (k : Graph) → gathered layer.Tables (stage xs) (rows_from owner content p ys) ≡ Ok k → k ≡ stage (xs ++ ys)
  stage_on xs [] p k passed = let same : k ≡ stage xs = cc in same ∙ ap stage (sym (append-nil xs))
  stage_on xs (y ∷ ys) p k passed = stage_on (xs ++ (y ∷ [])) ys (p + 1) k (first_passes xs y ys p k passed).1 ∙ ap stage (append_assoc xs (y ∷ []) ys)

  pub stage_meant : (xs : List X) (p : ℕ) (k : Graph) → checked owner content stage p xs ≡ Ok k → k ≡ stage xs
  stage_meant xs p k passed = stage_on [] xs p k passed

module _ {X : Type 0} (owner : X → Option ℕ) (content : X → Result Entry Reason) (stage : List X → Graph) (first : ℕ) where
  -- behind records that pass
  module _ (xs : List X) (passed : Passed owner content stage first xs) (x : X) where
    behind : (ys : List X) → checked owner content stage first (xs ++ ys) ≡ gathered layer.Tables (stage xs) (rows_from owner content (first + length xs) ys)
    behind ys =
        ap (gathered layer.Tables (stage [])) (rows_append owner content first xs ys)
        ∙ gathered_past layer.Tables (stage []) (stage xs) (rows_from owner content first xs) (rows_from owner content (first + length xs) ys) passed

    stops : (reason : Reason) (ys : List X) → content_refusal (stage xs) (owner x) (content x) ≡ Some reason → checked owner content stage first (xs ++ (x ∷ ys)) ≡ Err (fault_in layer.Tables reason (first + length xs))
    stops reason ys refused = behind (x ∷ ys) ∙ ap (λ o. unless (placed layer.Tables o (first + length xs)) (gathered layer.Tables (with_content (stage xs) (owner x) (content x)) (rows_from owner content (first + length xs + 1) ys))) refused

    pub passes : Grows owner content stage → content_refusal (stage xs) (owner x) (content x) ≡ None → Passed owner content stage first (xs ++ (x ∷ []))
    passes grows none =
        behind (x ∷ [])
        ∙ ap (λ o. unless (placed layer.Tables o (first + length xs)) (Ok (with_content (stage xs) (owner x) (content x)))) none
        ∙ ap Ok (grown_by owner content stage grows xs x none)

  -- the same at record i of a list
  module _ (rows : List X) (i : ℕ) (inside : i < length rows) (x : X) (is : x ≡ get_or rows i x) (passed : Passed owner content stage first (take i rows)) where
    -- what was told of it behind the part of the list before it
    pub told_at : (o : Option Reason) (n : ℕ) → n ≡ i → (Passed owner content stage first (take n rows) → o ≡ content_refusal (stage (take n rows)) (owner x) (content x)) → content_refusal (stage (take i rows)) (owner x) (content x) ≡ o
    told_at o n same told = sym (subst (λ k. Passed owner content stage first (take k rows) → o ≡ content_refusal (stage (take k rows)) (owner x) (content x)) same told passed)

    pub stop_at : (reason : Reason) → content_refusal (stage (take i rows)) (owner x) (content x) ≡ Some reason → checked owner content stage first rows ≡ Err (fault_in layer.Tables reason (first + i))
    stop_at reason refused =
        ap (checked owner content stage first) (sym (take-append-drop i rows) ∙ ap (λ l. take i rows ++ l) (drop_more rows i x inside ∙ ap (λ y. y ∷ drop (i + 1) rows) (sym is)))
        ∙ stops (take i rows) passed x reason (drop (i + 1) rows) refused
        ∙ ap (λ n. Err (fault_in layer.Tables reason (first + n))) (length-take-le i rows (omega arith))

    pub pass_at : Grows owner content stage → content_refusal (stage (take i rows)) (owner x) (content x) ≡ None → Passed owner content stage first (take (i + 1) rows)
    pass_at grows none = subst (Passed owner content stage first) (ap (λ y. take i rows ++ (y ∷ [])) is ∙ sym (take_more rows i x inside)) (passes (take i rows) passed x grows none)
