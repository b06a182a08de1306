-- What opening refuses is the first fault.
use Rattle.std.proofs.Common.{◌≡◌, ℕ, true, false, eqb, ◌⊎◌, List, [], ◌∷◌, ◌++◌, length, Some, None, Ok, Err, Option, Result, sym, refl, ap, ◌∙◌, subst, inl, inr, ⊎_elim, arith, lit<, MatchResult}
use Rattle.std.specs.List.{AllByRecursion}
use Rattle.std.proofs.lemmas.Option.{cond_some}
use Rattle.std.proofs.lemmas.Result.{MatchResult-weaker}
use Rattle.std.proofs.lemmas.Bool.{true≢false, cond-true, cond-false, eqb-true, eqb-false, eq-eqb, ne_eqb}
use Rattle.graph.specs.declared.fault.Fault.{Fault}
use Rattle.graph.specs.declared.fault.Layer.{Layer}
use Rattle.graph.specs.declared.fault.Reason.{Reason}
use Rattle.graph.specs.Graphs.{Graph, no_records}
use Rattle.graph.specs.Entries.{Entry}
use Rattle.graph.specs.Rules.{Given, aim_cases, aim_refusal, placed, either_fault, unless, and_then}
use Rattle.graph.proofs.Foremost.{Ascending, first_smallest, smallest_first, none_given, given_none}
use Rattle.graph.proofs.Pushing.{cond_none, unless_ok}
use Rattle.graph.specs.Opening.{Placed, entry_cases, content_refusal, refusal, with_record, fault_in, gathered, content_aim, aims, no_name, finished, opened}
use Rattle.graph.specs.Foremost.{Reached, AimsWell, FirstFault, unreadable, misfit, nameless, misaimed}

-- the numbers of both lists ascend
entry_ascends : (g : Graph) (owner : Option ℕ) (e : Entry) → Ascending 0 (entry_cases g owner e)
entry_ascends g owner e = (lit< tt, (lit< tt, (lit< tt, (lit< tt, (lit< tt, (lit< tt, tt))))))

aim_ascends : (g : Graph) (e : Entry) → Ascending 0 (aim_cases g e)
aim_ascends g e = (lit< tt, (lit< tt, tt))

pub ok_not_err : {A B : Type 0} (r : Result A B) (x : A) (y : B) → r ≡ Ok x → r ≡ Err y → ⊥
ok_not_err r x y p q = let never : true ≡ false = cc in true≢false never

-- where a fault comes from
pub unless_err : {A : Type 0} (o : Option Fault) (r : Result A Fault) (f : Fault) → unless o r ≡ Err f → (o ≡ Some f) ⊎ ((o ≡ None) × (r ≡ Err f))
unless_err (Some x) r f e = inl cc
unless_err None r f e = inr (refl, e)

then_err : {A B : Type 0} (r : Result A Fault) (next : A → Result B Fault) (f : Fault) → and_then r next ≡ Err f → (r ≡ Err f) ⊎ ((x : A) × (r ≡ Ok x) × (next x ≡ Err f))
then_err (Ok x) next f e = inr (x, refl, e)
then_err (Err y) next f e = let same : y ≡ f = cc in inl (ap Err same)

placed_some : (layer : Layer) (o : Option Reason) (place : ℕ) (f : Fault) → placed layer o place ≡ Some f → (r : Reason) × (o ≡ Some r) × (fault_in layer r place ≡ f)
placed_some layer None place f e = absurd (true≢false (cc e))
placed_some layer (Some r) place f e = (r, refl, cc)

either_some : (layer : Layer) (o : Option Reason) (place : ℕ) (later : Option Fault) (f : Fault) → either_fault (placed layer o place) later ≡ Some f → (placed layer o place ≡ Some f) ⊎ ((o ≡ None) × (later ≡ Some f))
either_some layer (Some r) place later f e = inl e
either_some layer None place later f e = inr (refl, e)

-- the record at fault, how it stands with those before it, and why it is refused
record Found (layer : Layer) {S : Type 0} (Fine : List Placed → S → Type 0) (Refused : S → Placed → Reason → Type 0) (xs : List Placed) (fault : Fault) : Type 0 where
  before : List Placed
  x : Placed
  later : List Placed
  all : xs ≡ before ++ (x ∷ later)
  state : S
  fine : Fine before state
  reason : Reason
  refused : Refused state x reason
  is : fault_in layer reason x.place ≡ fault

module _ (layer : Layer) {S : Type 0} {Refused : S → Placed → Reason → Type 0} (x : Placed) (xs : List Placed) (fault : Fault) where
  found_here : {Fine : List Placed → S → Type 0} (state : S) (o : Option Reason) → placed layer o x.place ≡ Some fault → Fine [] state → ((r : Reason) → o ≡ Some r → Refused state x r) → Found layer Fine Refused (x ∷ xs) fault
  found_here state o some fine refused = let told = placed_some layer o x.place fault some in record { before = []; x = x; later = xs; all = refl; state = state; fine = fine; reason = told.0; refused = refused told.0 told.1; is = told.2 }

  found_behind : {Fine Fine' : List Placed → S → Type 0} → ((before : List Placed) (state : S) → Fine before state → Fine' (x ∷ before) state) → Found layer Fine Refused xs fault → Found layer Fine' Refused (x ∷ xs) fault
  found_behind more found = record { before = x ∷ found.before; x = found.x; later = found.later; all = ap (λ ys. x ∷ ys) found.all; state = found.state; fine = more found.before found.state found.fine; reason = found.reason; refused = found.refused; is = found.is }

module _ (layer : Layer) where
  -- the record that ends the checks
  abbrev Stop : Graph → List Placed → Fault → Type 0
  Stop g xs fault = Found layer (λ before h. gathered layer g before ≡ Ok h) (λ h x r. refusal h x ≡ Some r) xs fault

  stops : (g : Graph) (xs : List Placed) (fault : Fault) → gathered layer g xs ≡ Err fault → Stop g xs fault
  stops g [] fault e = absurd (true≢false (cc e))
  stops g (x ∷ xs) fault e = ⊎_elim
      (λ some. found_here layer x xs fault g (refusal g x) some refl (λ r refused. refused))
      (λ h. found_behind layer x xs fault (λ before k passed. ap (λ o. unless o (gathered layer (with_record g x) before)) h.0 ∙ passed) (stops (with_record g x) xs fault h.1))
      (unless_err (placed layer (refusal g x) x.place) _ fault e)

  -- the first record that aims wrongly
  abbrev Miss : Graph → List Placed → Fault → Type 0
  Miss g xs fault = Found layer (λ before e. AllByRecursion (AimsWell g) before) (λ e x r. (x.content ≡ Ok e) × (aim_refusal g e ≡ Some r)) xs fault

  misses : (g : Graph) (xs : List Placed) (fault : Fault) → aims layer g xs ≡ Some fault → Miss g xs fault
  misses g [] fault told = absurd (true≢false (cc told))
  misses g (x ∷ xs) fault told = by_content x.content refl told (misses g xs fault)
    where
      aims_well : (e : Entry) → x.content ≡ Ok e → aim_refusal g e ≡ None → AimsWell g x
      aims_well e content none other r same given = let eq : other ≡ e = cc in none_given (aim_cases g e) none r (subst (λ y. Given (aim_cases g y) r) eq given)

      by_content : (c : Result Entry Reason) → x.content ≡ c → content_aim layer g x.place c (aims layer g xs) ≡ Some fault → (aims layer g xs ≡ Some fault → Miss g xs fault) → Miss g (x ∷ xs) fault
      by_content (Err r) content told rest = absurd (true≢false (cc told))
      by_content (Ok e) content told rest = ⊎_elim
          (λ some. found_here layer x xs fault e (aim_refusal g e) some tt (λ r refused. (content, refused)))
          (λ h. found_behind layer x xs fault (λ before _ well. (aims_well e content h.0, well)) (rest h.1))
          (either_some layer (aim_refusal g e) x.place (aims layer g xs) fault told)

  -- past records that pass, and past records that aim well
  pub gathered_past : (g h : Graph) (before xs : List Placed) → gathered layer g before ≡ Ok h → gathered layer g (before ++ xs) ≡ gathered layer h xs
  gathered_past g h [] xs passed = let same : g ≡ h = cc in ap (λ k. gathered layer k xs) same
  gathered_past g h (x ∷ before) xs passed =
      let ok = unless_ok layer (refusal g x) x.place (gathered layer (with_record g x) before) h passed in
      ap (λ r. unless (placed layer r x.place) (gathered layer (with_record g x) (before ++ xs))) ok.0 ∙ gathered_past (with_record g x) h before xs ok.1

  -- what ends the checks ends them whatever comes behind
  pub gathered_ends : (g : Graph) (xs ys : List Placed) (fault : Fault) → gathered layer g xs ≡ Err fault → gathered layer g (xs ++ ys) ≡ Err fault
  gathered_ends g [] ys fault e = absurd (true≢false (cc e))
  gathered_ends g (x ∷ xs) ys fault e = ⊎_elim
      (λ some. ap (λ o. unless o (gathered layer (with_record g x) (xs ++ ys))) some)
      (λ h. ap (λ o. unless o (gathered layer (with_record g x) (xs ++ ys))) h.0 ∙ gathered_ends (with_record g x) xs ys fault h.1)
      (unless_err (placed layer (refusal g x) x.place) _ fault e)

  -- records that pass, in two parts
  pub gathered_split : (g k : Graph) (xs ys : List Placed) → gathered layer g (xs ++ ys) ≡ Ok k → (m : Graph) × (gathered layer g xs ≡ Ok m) × (gathered layer m ys ≡ Ok k)
  gathered_split g k xs ys passed = parts (gathered layer g xs) refl
    where
      parts : (r : Result Graph Fault) → gathered layer g xs ≡ r → (m : Graph) × (gathered layer g xs ≡ Ok m) × (gathered layer m ys ≡ Ok k)
      parts (Ok m) is = (m, is, sym (gathered_past g m xs ys is) ∙ passed)
      parts (Err f) is = absurd (ok_not_err (gathered layer g (xs ++ ys)) k f passed (gathered_ends g xs ys f is))

  pub aims_past : (g h k : Graph) (before xs : List Placed) → gathered layer h (before ++ xs) ≡ Ok k → AllByRecursion (AimsWell g) before → aims layer g (before ++ xs) ≡ aims layer g xs
  aims_past g h k [] xs passed well = refl
  aims_past g h k (x ∷ before) xs passed well =
      let ok = unless_ok layer (refusal h x) x.place (gathered layer (with_record h x) (before ++ xs)) k passed in
      past x.content refl ok.0 ∙ aims_past g (with_record h x) k before xs ok.1 well.1
    where
      past : (c : Result Entry Reason) → x.content ≡ c → content_refusal h x.owner c ≡ None → content_aim layer g x.place c (aims layer g (before ++ xs)) ≡ aims layer g (before ++ xs)
      past (Err r) is passed = absurd (true≢false (cc passed))
      past (Ok e) is passed = ap (λ r. either_fault (placed layer r x.place) (aims layer g (before ++ xs))) (given_none (aim_cases g e) (λ r. well.0 e r is))

  module _ (end : ℕ) (xs : List Placed) where
    first_of_record : {x : Placed} {g : Graph} {r : Reason} → Reached layer xs x g → (c : Result Entry Reason) → x.content ≡ c → content_refusal g x.owner c ≡ Some r → FirstFault layer end xs (fault_in layer r x.place)
    first_of_record {x} {g} {r} reached (Err s) is refused = let same : s ≡ r = cc in unreadable reached (is ∙ ap Err same)
    first_of_record {x} {g} {r} reached (Ok e) is refused = misfit reached is (first_smallest 0 (entry_cases g x.owner e) r (entry_ascends g x.owner e) refused)

    -- a refusal is a first fault
    pub first_from_err : (fault : Fault) → opened layer end xs ≡ Err fault → FirstFault layer end xs fault
    first_from_err fault e = ⊎_elim in_record (λ all. behind_records all.0 all.1 all.2) (then_err (gathered layer no_records xs) (finished layer end xs) fault e)
      where
        in_record : gathered layer no_records xs ≡ Err fault → FirstFault layer end xs fault
        in_record err =
            let s = stops no_records xs fault err in
            let reached : Reached layer xs s.x s.state = record { before = s.before; behind = record { later = s.later; all = s.all }; passed = s.fine } in
            subst (FirstFault layer end xs) s.is (first_of_record reached s.x.content refl s.refused)

        no_names : (g : Graph) → gathered layer no_records xs ≡ Ok g → no_name layer end g ≡ Some fault → FirstFault layer end xs fault
        no_names g passed some = let told = cond_some (eqb (length g.names) 0) _ fault some in subst (FirstFault layer end xs) told.1 (nameless passed (eqb-true (length g.names) 0 told.0))

        in_aim : (g : Graph) → gathered layer no_records xs ≡ Ok g → no_name layer end g ≡ None → aims layer g xs ≡ Some fault → FirstFault layer end xs fault
        in_aim g passed named some =
            let m = misses g xs fault some in
            subst (FirstFault layer end xs) m.is (misaimed passed (omega (arith, eqb-false (length g.names) 0 (cond_none _ _ _ named).0)) (record { later = m.later; all = m.all }) m.fine m.refused.0 (first_smallest 0 (aim_cases g m.state) m.reason (aim_ascends g m.state) m.refused.1))

        behind_records : (g : Graph) → gathered layer no_records xs ≡ Ok g → finished layer end xs g ≡ Err fault → FirstFault layer end xs fault
        behind_records g passed err = ⊎_elim (no_names g passed) (λ named. ⊎_elim (in_aim g passed named.0) (λ none. absurd (true≢false (cc none.1))) (unless_err (aims layer g xs) (Ok g) fault named.1)) (unless_err (no_name layer end g) _ fault err)

    stopped : {x : Placed} {g : Graph} {r : Reason} → Reached layer xs x g → refusal g x ≡ Some r → opened layer end xs ≡ Err (fault_in layer r x.place)
    stopped {x} {g} {r} reached refused =
        ap (λ ys. and_then (gathered layer no_records ys) (finished layer end xs)) reached.behind.all
        ∙ ap (λ y. and_then y (finished layer end xs)) (gathered_past no_records g reached.before (x ∷ reached.behind.later) reached.passed)
        ∙ ap (λ o. and_then (unless (placed layer o x.place) (gathered layer (with_record g x) reached.behind.later)) (finished layer end xs)) refused

    passed_on : {g : Graph} → gathered layer no_records xs ≡ Ok g → opened layer end xs ≡ finished layer end xs g
    passed_on passed = ap (λ y. and_then y (finished layer end xs)) passed

    -- a first fault is the refusal
    pub err_from_first : (fault : Fault) → FirstFault layer end xs fault → opened layer end xs ≡ Err fault
    err_from_first _ (unreadable {x = x} {g = g} reached content) = stopped reached (ap (content_refusal g x.owner) content)
    err_from_first _ (misfit {x = x} {g = g} {e = e} {r = r} reached content small) = stopped reached (ap (content_refusal g x.owner) content ∙ smallest_first 0 (entry_cases g x.owner e) r (entry_ascends g x.owner e) small)
    err_from_first _ (nameless {g = g} passed none) = passed_on passed ∙ ap (λ o. unless o (unless (aims layer g xs) (Ok g))) (cond-true _ _ _ (eq-eqb (length g.names) 0 none))
    err_from_first _ (misaimed {x = x} {g = g} {e = e} {r = r} {before = before} passed named behind well content small) =
        passed_on passed
        ∙ ap (λ o. unless o (unless (aims layer g xs) (Ok g))) (cond-false _ _ _ (ne_eqb (length g.names) 0 (λ none. omega arith)))
        ∙ ap (λ o. unless o (Ok g)) (ap (aims layer g) behind.all
        ∙ aims_past g no_records g before (x ∷ behind.later) (sym (ap (gathered layer no_records) behind.all) ∙ passed) well
        ∙ ap (λ c. content_aim layer g x.place c (aims layer g behind.later)) content
        ∙ ap (λ o. either_fault (placed layer o x.place) (aims layer g behind.later)) (smallest_first 0 (aim_cases g e) r (aim_ascends g e) small))

-- what opening answers, told by the first fault
pub first_from_opened : (First : Fault → Type 0) (o : Result Graph Fault) → ((f : Fault) → o ≡ Err f → First f) → ((f : Fault) → First f → o ≡ Err f) → (r : Result (Unit {0}) Fault) → MatchResult r (λ _. (g : Graph) × (o ≡ Ok g)) (λ f. o ≡ Err f) → MatchResult r (λ _. (f : Fault) → First f → ⊥) (λ f. First f × ((e : Fault) → First e → e ≡ f))
first_from_opened First o first err r told = MatchResult-weaker r told (λ _ p f is. ok_not_err o p.0 f p.1 (err f is)) (λ f e. (first f e, λ other is. let same = err other is in cc (same, e)))
