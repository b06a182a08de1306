use Rattle.std.specs.Prelude.{◌≡◌, ℕ, ◌<◌, Bool, true, false, List, [], ◌∷◌, ◌++◌, length, take, Some, None, slice_set}
use Rattle.index_set.specs.Sameness.{held, FirstSame}
use Rattle.index_set.specs.declared.Added.{Added}
use Rattle.index_set.specs.declared.Added.TheVariants.{New, Present, Full}

-- what adding x to a set with room for this many answers, and what becomes of its elements
abbrev pub Adds : {A : Type 0} → (A → A → Bool) → ℕ → List A → A → Added → List A → Type 0
Adds same room before x (New i) after = (held same x before ≡ false) × (i ≡ length before) × (after ≡ before ++ (x ∷ []))
Adds same room before x (Present i) after = FirstSame same before x (Some i) × (held same x before ≡ true) × (after ≡ before)
Adds same room before x Full after = (held same x before ≡ false) × (length before ≡ room) × (after ≡ before)

-- what putting x behind the first places, as many as are used, answers
abbrev pub Puts : {A : Type 0} → (A → A → Bool) → List A → ℕ → A → Added → Type 0
Puts same places used x (New i) = FirstSame same (take used places) x None × (i ≡ used) × (used < length places)
Puts same places used x (Present i) = FirstSame same (take used places) x (Some i)
Puts same places used x Full = FirstSame same (take used places) x None × (used ≡ length places)

-- what the places hold once adding x gave this answer
abbrev pub written : {A : Type 0} → List A → A → Added → List A
written places x (New i) = slice_set places i x
written places x (Present i) = places
written places x Full = places
