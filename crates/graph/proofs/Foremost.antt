-- The first case that is given has the smallest number, where the numbers of the cases ascend.
use Rattle.std.proofs.Common.{◌≡◌, ℕ, ◌<◌, true, false, ◌⊎◌, List, [], ◌∷◌, Some, None, sym, refl, ap, ◌∙◌, subst, inl, inr, ⊎_elim, arith}
use mathlib.Core.List.Memᴰ
use Rattle.std.proofs.lemmas.Bool.{both_ways, cases_Bool, cond-true, cond-false, cond_both}
use Rattle.graph.specs.declared.fault.Reason.{Reason}
use Rattle.graph.specs.Faults.{reason_number}
use Rattle.graph.specs.Rules.{Case, first_given, Given, Smallest}
use Rattle.graph.proofs.Pushing.{cond_none}

-- each number is above n and above those before it
abbrev pub Ascending : ℕ → List Case → Type 0
Ascending n [] = Unit {0}
Ascending n (c ∷ cs) = (n < reason_number c.reason) × Ascending (reason_number c.reason) cs

module _ (c : Case) (cs : List Case) where
  given_first : c.given ≡ true → Given (c ∷ cs) c.reason
  given_first h = Memᴰ.head (ap (λ b. record { given = b; reason = c.reason }) (sym h))

  -- the first case is given, or one of the others
  given_cases : (r : Reason) → Given (c ∷ cs) r → ((c.given ≡ true) × (c.reason ≡ r)) ⊎ Given cs r
  given_cases r m = ⊎_elim (λ e. inl (ap (λ (x : Case). x.given) (sym e), ap (λ (x : Case). x.reason) (sym e))) inr (Memᴰ.cases_cons m)

given_above : (n : ℕ) (cs : List Case) → Ascending n cs → (r : Reason) → Given cs r → n < reason_number r
given_above n [] ascending r m = absurd (Memᴰ.not-nil m)
given_above n (c ∷ cs) ascending r m = ⊎_elim (λ h. subst (λ s. n < reason_number s) h.1 ascending.0) (λ later. omega (arith, given_above (reason_number c.reason) cs ascending.1 r later)) (given_cases c cs r m)

pub first_smallest : (n : ℕ) (cs : List Case) (r : Reason) → Ascending n cs → first_given cs ≡ Some r → Smallest cs r
first_smallest n [] r ascending e = absurd (both_ways true (cc e) refl)
first_smallest n (c ∷ cs) r ascending e = cond_both c.given _ _ (λ o. o ≡ Some r → Smallest (c ∷ cs) r) here (λ t e. wider t (first_smallest (reason_number c.reason) cs r ascending.1 e)) e
  where
    here : c.given ≡ true → Some c.reason ≡ Some r → Smallest (c ∷ cs) r
    here t e = let same : c.reason ≡ r = cc in subst (Smallest (c ∷ cs)) same (record {
      there = given_first c cs t;
      least = λ s m. ⊎_elim (λ h. omega (arith, ap reason_number h.1)) (λ later. omega (arith, given_above (reason_number c.reason) cs ascending.1 s later)) (given_cases c cs s m);
    })

    wider : c.given ≡ false → Smallest cs r → Smallest (c ∷ cs) r
    wider t rest = record {
      there = Memᴰ.tail rest.there;
      least = λ s m. ⊎_elim (λ h. absurd (both_ways c.given t h.0)) (rest.least s) (given_cases c cs s m);
    }

pub smallest_first : (n : ℕ) (cs : List Case) (r : Reason) → Ascending n cs → Smallest cs r → first_given cs ≡ Some r
smallest_first n [] r ascending small = absurd (Memᴰ.not-nil small.there)
smallest_first n (c ∷ cs) r ascending small = ⊎_elim
    (λ h. cond-true c.given _ _ h.0 ∙ ap Some h.1)
    (λ later. cond-false c.given _ _ (not_here later) ∙ smallest_first (reason_number c.reason) cs r ascending.1 (record { there = later; least = λ s m. small.least s (Memᴰ.tail m) }))
    (given_cases c cs r small.there)
  where
    not_here : Given cs r → c.given ≡ false
    not_here later = ⊎_elim (λ t. absurd (omega (arith, given_above (reason_number c.reason) cs ascending.1 r later, small.least c.reason (given_first c cs t)))) (λ f. f) (cases_Bool c.given)

pub none_given : (cs : List Case) → first_given cs ≡ None → (r : Reason) → Given cs r → ⊥
none_given [] e r m = Memᴰ.not-nil m
none_given (c ∷ cs) e r m =
    let parts = cond_none c.given c.reason (first_given cs) e in
    ⊎_elim (λ h. both_ways c.given parts.0 h.0) (none_given cs parts.1 r) (given_cases c cs r m)

pub given_none : (cs : List Case) → ((r : Reason) → Given cs r → ⊥) → first_given cs ≡ None
given_none [] none = refl
given_none (c ∷ cs) none = cond_both c.given _ _ (λ o. o ≡ None) (λ t. absurd (none c.reason (given_first c cs t))) (λ _. given_none cs (λ r m. none r (Memᴰ.tail m)))
