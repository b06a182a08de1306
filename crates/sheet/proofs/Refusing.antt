-- Why a record is refused, by what is counted of the records before it.
use Rattle.std.proofs.Common.{◌≡◌, ℕ, ◌-◌, Bool, eqb, leb, List, ◌++◌, length, take, sym, ap, ◌∙◌}
use Rattle.std.specs.List.{slice_get}
use Rattle.std.proofs.Math.Seq.{take-append_seam}
use Rattle.std.proofs.lemmas.List.{length-map}
use Rattle.std.proofs.lemmas.Option.{slice_get-map}
use Rattle.graph.specs.declared.records.Wanted.{Wanted}
use Rattle.graph.specs.Graphs.{Graph}
use Rattle.graph.specs.Entries.{Entry, an_import, an_export}
use Rattle.graph.specs.Lookups.{kind_of, kind_in}
use Rattle.graph.specs.Opening.{Placed, latest}
use Rattle.graph.specs.Rules.{wants_unknown, given_twice, is_es, owned_refusal}
use Rattle.sheet.specs.declared.progress.Progress.{Progress}
use Rattle.sheet.specs.Opening.{entry_refusal}
use Rattle.sheet.specs.Reading.{fields_left}
use Rattle.sheet.specs.Progressing.{Counted, Standing, clashes, latest_is_es}

abbrev pub no_module : Progress → Bool
no_module s = eqb (length s.kinds.items) 0

modules_same : (s : Progress) (g : Graph) → Counted s g → length s.kinds.items ≡ length g.modules
modules_same s g counted = ap length counted.kinds ∙ length-map g.modules kind_of

latest_same : (s : Progress) (g : Graph) → Counted s g → latest_is_es s ≡ is_es (kind_in g.modules (latest g))
latest_same s g counted = ap is_es
    (ap (λ n. slice_get s.kinds.items (n - 1)) (modules_same s g counted)
    ∙ ap (λ kinds. slice_get kinds (latest g)) counted.kinds
    ∙ slice_get-map kind_of g.modules (latest g))

-- the refusal of a record that needs an owner, where there are n of its sort
owned_same : (s : Progress) (g : Graph) → Counted s g → (count n : ℕ) → n ≡ count → (unknown twice : Bool) → owned_refusal (no_module s) count unknown twice (latest_is_es s) ≡ owned_refusal (eqb (length g.modules) 0) n unknown twice (is_es (kind_in g.modules (latest g)))
owned_same s g counted count n e unknown twice =
    ap (λ m. owned_refusal (eqb m 0) count unknown twice (latest_is_es s)) (modules_same s g counted)
    ∙ ap (λ k. owned_refusal (eqb (length g.modules) 0) k unknown twice (latest_is_es s)) (sym e)
    ∙ ap (owned_refusal (eqb (length g.modules) 0) n unknown twice) (latest_same s g counted)

module _ (s : Progress) (e : Entry) where
  module _ (unknown twice : Bool) (scanned : twice ≡ clashes e (take s.owned (fields_left s.own))) where
    told_twice : (all left : List Placed) (g : Graph) → Standing all s left g → twice ≡ given_twice g (latest g) e
    told_twice all left g standing = scanned ∙ ap (clashes e) (ap (λ fs. take s.owned fs) standing.split ∙ ap (λ n. take n (standing.own ++ left)) (sym standing.owned) ∙ take-append_seam standing.own left) ∙ standing.twice e

    pub import_refusal : (all left : List Placed) (g : Graph) → Standing all s left g → (symbol target : ℕ) (wanted : Wanted) → e ≡ an_import symbol target wanted → unknown ≡ wants_unknown s.names wanted → owned_refusal (no_module s) s.imports unknown twice (latest_is_es s) ≡ entry_refusal g e
    import_refusal all left g standing symbol target wanted is u =
        owned_same s g standing.counted s.imports (length g.imports) standing.counted.imports unknown twice
        ∙ ap (λ b. owned_refusal (eqb (length g.modules) 0) (length g.imports) b twice (is_es (kind_in g.modules (latest g)))) (u ∙ ap (λ n. wants_unknown n wanted) (sym standing.counted.names))
        ∙ ap (λ b. owned_refusal (eqb (length g.modules) 0) (length g.imports) (wants_unknown (length g.names) wanted) b (is_es (kind_in g.modules (latest g)))) (told_twice all left g standing ∙ ap (given_twice g (latest g)) is)
        ∙ sym (ap (entry_refusal g) is)

    pub export_refusal : (all left : List Placed) (g : Graph) → Standing all s left g → (name symbol : ℕ) → e ≡ an_export name symbol → unknown ≡ leb s.names name → owned_refusal (no_module s) s.exports unknown twice (latest_is_es s) ≡ entry_refusal g e
    export_refusal all left g standing name symbol is u =
        owned_same s g standing.counted s.exports (length g.exports) standing.counted.exports unknown twice
        ∙ ap (λ b. owned_refusal (eqb (length g.modules) 0) (length g.exports) b twice (is_es (kind_in g.modules (latest g)))) (u ∙ ap (λ n. leb n name) (sym standing.counted.names))
        ∙ ap (λ b. owned_refusal (eqb (length g.modules) 0) (length g.exports) (leb (length g.names) name) b (is_es (kind_in g.modules (latest g)))) (told_twice all left g standing ∙ ap (given_twice g (latest g)) is)
        ∙ sym (ap (entry_refusal g) is)
