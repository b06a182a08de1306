-- What adding an element makes of a set's elements.
use Rattle.std.proofs.Common.{◌≡◌, ℕ, ◌+◌, ◌≤◌, Bool, true, List, length, take, sym, refl, ◌∙◌, length-take-le}
use Rattle.std.specs.Cmp.{IsEquivalence}
use Rattle.std.proofs.lemmas.List.{take_more_set}
use Rattle.index_set.specs.Adding.{Adds, Puts, written}
use Rattle.index_set.specs.Sameness.{Distinct, held}
use Rattle.index_set.specs.declared.Added.{Added}
use Rattle.index_set.specs.declared.Added.TheVariants.{New, Present, Full}
use Rattle.index_set.proofs.Apart.{distinct_push}
use Rattle.index_set.proofs.Held.{none_held, not_held, some_held, held_last}

module _ {A : Type 0} (same : A → A → Bool) where
  module _ (places after : List A) (len : ℕ) (x : A) (fits : len ≤ length places) where
    counted : len ≡ length (take len places)
    counted = sym (length-take-le len places fits)

    -- where x was put behind the elements, it is one more of them
    pub puts_more : (r : Added) (i : ℕ) → r ≡ New i → Puts same places len x r → after ≡ written places x r → Adds same (length places) (take len places) x r (take (len + 1) after)
    puts_more r i is p w =
        let q : Puts same places len x (New i) = rw is at p in
        rw (w, is, q.1) (none_held same (take len places) x q.0, counted, take_more_set places len x q.2)

    -- where it was not put, the elements stay
    pub puts_nothing : (r : Added) → ((i : ℕ) → r ≡ New i → ⊥) → Puts same places len x r → after ≡ written places x r → Adds same (length places) (take len places) x r (take len after)
    puts_nothing (New j) other p w = absurd (other j refl)
    puts_nothing (Present j) other p w = rw w (p, some_held same (take len places) x j p.0 p.1, refl)
    puts_nothing Full other p w = rw w (none_held same (take len places) x p.0, (sym counted ∙ p.1), refl)

  module _ (laws : IsEquivalence same) (room : ℕ) (before after : List A) (x : A) where
    -- unless every place was taken, the elements hold it afterwards
    pub adds_held : (r : Added) → Adds same room before x r after → (r ≡ Full → ⊥) → held same x after ≡ true
    adds_held (New i) a full = rw a.2 (held_last same before x (laws.refl x))
    adds_held (Present i) a full = rw a.2 a.1
    adds_held Full a full = absurd (full refl)

    -- distinct elements stay distinct
    pub adds_distinct : (r : Added) → Adds same room before x r after → Distinct same before → Distinct same after
    adds_distinct (New i) a apart = rw a.2 (distinct_push same laws before x (not_held same before x a.0) apart)
    adds_distinct (Present i) a apart = rw a.2 apart
    adds_distinct Full a apart = rw a.2 apart
