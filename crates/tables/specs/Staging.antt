-- One list after another: what is known of the records of a list that were checked.
use Rattle.std.specs.Prelude.{◌≡◌, ℕ, List, [], ◌∷◌, ◌++◌, Some, None, Ok, Err, Option, Result, MatchResult}
use Rattle.graph.specs.declared.fault.Fault.{Fault}
use Rattle.graph.specs.declared.fault.Layer.TheVariants as layer
use Rattle.graph.specs.declared.fault.Reason.{Reason}
use Rattle.graph.specs.Graphs.{Graph}
use Rattle.graph.specs.Entries.{Entry}
use Rattle.graph.specs.Opening.{with_content, gathered, aims}
use Rattle.tables.specs.Rows.{Held, rows_from, meant}

module _ {X : Type 0} (owner : X → Option ℕ) (content : X → Result Entry Reason) (stage : List X → Graph) where
  -- one record more, where it can be read, is one more at the end of its list
  abbrev pub Grows : Type 0
  Grows = (xs : List X) (x : X) (e : Entry) → content x ≡ Ok e → with_content (stage xs) (owner x) (Ok e) ≡ stage (xs ++ (x ∷ []))

  -- what checking these records, the first of them at this place, comes to
  abbrev pub checked : ℕ → List X → Result Graph Fault
  checked first xs = gathered layer.Tables (stage []) (rows_from owner content first xs)

  -- these records pass
  abbrev pub Passed : ℕ → List X → Type 0
  Passed first xs = checked first xs ≡ Ok (stage xs)

  -- they pass, or this is the first fault among them
  abbrev pub Tells : {T : Type 0} → ℕ → List X → Result T Fault → Type 0
  Tells first xs r = MatchResult r (λ _. Passed first xs) (λ f. checked first xs ≡ Err f)

-- what the last checks of these records come to, where each says its entry
abbrev pub aims_of : {X : Type 0} → Held → (X → Option ℕ) → (X → Entry) → ℕ → List X → Option Fault
aims_of h owner entry first xs = aims layer.Tables (meant h) (rows_from owner (λ x. Ok (entry x)) first xs)

-- none refuses one, or this is the first fault among them
abbrev pub AimsTold : {X T : Type 0} → Held → (X → Option ℕ) → (X → Entry) → ℕ → List X → Result T Fault → Type 0
AimsTold h owner entry first xs r = MatchResult r (λ _. aims_of h owner entry first xs ≡ None) (λ f. aims_of h owner entry first xs ≡ Some f)
