-- The names at the head of a sheet.
use Rattle.std.proofs.Common.{◌≡◌, ℕ, ◌+◌, ◌<◌, ◌≤◌, Bool, true, false, not, ◌&&◌, ◌||◌, eqb, List, [], ◌∷◌, ◌++◌, map, length, take, Some, Ok, Err, Result, Bor, sym, refl, ap, ◌∙◌, subst, append_assoc, add-one, arith, inl, inr}
use Rattle.std.specs.Str.{bytes_eq}
use Rattle.std.specs.List.{list_any}
use Rattle.std.proofs.lemmas.List.{map_push, length_push, length-map}
use Rattle.std.proofs.Math.Seq.{take-nil, take-append_seam}
use Rattle.std.proofs.lemmas.Bool.{cond-true, cond-false, le-leb, lt-leb, cases_lt}
use Rattle.graph.specs.declared.fault.Reason.{Reason}
use Rattle.graph.specs.declared.fault.Reason.TheVariants.{BadName, OverLimit}
use Rattle.graph.specs.Graphs.{no_records, default_name}
use Rattle.graph.specs.Entries.{Entry, a_name, a_module, a_star, an_import, an_export}
use Rattle.graph.specs.Opening.{Placed}
use Rattle.graph.specs.Rules.{listed, wrong_name}
use Rattle.graph.proofs.Naming.{wrong_first, wrong_by_first, wrong_by_list, not_wrong}
use Rattle.sheet.specs.Fields.{fault_at}
use Rattle.sheet.specs.Borrowed.{content_of, is_name}
use Rattle.sheet.specs.declared.field.Field.{Field}
use Rattle.sheet.specs.declared.field.Field.TheVariants.{Name, Module, Star, Import, Export}
use Rattle.sheet.specs.Opening.{gathered, field_refusal}
use Rattle.sheet.specs.Progressing.{named, AreNames}
use Rattle.sheet.proofs.Stepping.{field, gathered_on, gathered_stop}

-- what a field says is a name, and equal to this one
abbrev pub same_name : List ℕ → Result Entry Reason → Bool
same_name name (Ok (a_name other)) = bytes_eq name other
same_name name (Ok (a_module kind id)) = false
same_name name (Ok (a_star target)) = false
same_name name (Ok (an_import symbol target wanted)) = false
same_name name (Ok (an_export n symbol)) = false
same_name name (Err reason) = false

pub name_test : (content : Result Field Reason) (name : List ℕ) → is_name content name ≡ same_name name (content_of content)
name_test (Ok (Name bytes offset)) name = refl
name_test (Ok (Module k id offset)) name = refl
name_test (Ok (Star target)) name = refl
name_test (Ok (Import symbol target wanted)) name = refl
name_test (Ok (Export n symbol)) name = refl
name_test (Err reason) name = refl

-- the fields before what is left are names, as many as this, and opening goes on with what is left
pub record Gone (all fields : List Placed) (count : ℕ) (left : List Placed) : Type 0 where
  pub names : List (List ℕ)
  pub gone : List Placed
  pub split : fields ≡ gone ++ left
  pub counted : length names ≡ count
  pub are : AreNames gone names
  pub on : gathered (named names) left ≡ gathered no_records all

-- whether one of these fields is the name
abbrev pub repeated : List ℕ → List Placed → Bool
repeated name fields = list_any (λ (x : Placed). same_name name x.content) fields

-- where they are names
pub repeated_listed : (name : List ℕ) (fields : List Placed) (names : List (List ℕ)) → AreNames fields names → repeated name fields ≡ listed name names
repeated_listed name [] [] are = refl
repeated_listed name [] (n ∷ ns) are = absurd cc
repeated_listed name (x ∷ xs) [] are = absurd cc
repeated_listed name (x ∷ xs) (n ∷ ns) are =
    let first : x.content ≡ Ok (a_name n) = cc in
    let rest : AreNames xs ns = cc in
    ap (λ c. same_name name c || repeated name xs) first ∙ ap (λ b. bytes_eq name n || b) (repeated_listed name xs ns rest)

pub names_push : (fields : List Placed) (names : List (List ℕ)) (x : Placed) (name : List ℕ) → AreNames fields names → x.content ≡ Ok (a_name name) → AreNames (fields ++ (x ∷ [])) (names ++ (name ∷ []))
names_push fields names x name are is = map_push (λ (y : Placed). y.content) fields x ∙ ap (λ cs. cs ++ (x.content ∷ [])) are ∙ ap (λ c. map (λ n. Ok (a_name n)) names ++ (c ∷ [])) is ∙ sym (map_push (λ n. Ok (a_name n)) names name)

-- going through the first fields, as many as n, in search of the name
module _ (name : List ℕ) (n : ℕ) (left : List Placed) where
  module _ (m : ℕ) (x : Placed) (later : List Placed) (step : left ≡ x ∷ later) (fewer : m + 1 ≡ n) where
    repeated_step : repeated name (take n left) ≡ (same_name name x.content || repeated name (take m later))
    repeated_step = ap (repeated name) (ap (λ k. take k left) (sym fewer) ∙ ap (take (m + 1)) step ∙ take_first)
      where
        take_first : take (m + 1) (x ∷ later) ≡ x ∷ take m later
        take_first = rw add-one refl

    pub repeated_on : same_name name x.content ≡ false → repeated name (take m later) ≡ repeated name (take n left)
    repeated_on other = sym (repeated_step ∙ ap (λ b. b || repeated name (take m later)) other)

    pub repeated_here : same_name name x.content ≡ true → repeated name (take n left) ≡ true
    repeated_here same = repeated_step ∙ ap (λ b. b || repeated name (take m later)) same

  pub repeated_none : (0 < n → left ≡ []) → repeated name (take n left) ≡ false
  repeated_none done = elim (cases_lt 0 n) [
    | inl some ↦ ap (λ xs. repeated name (take n xs)) (done some) ∙ ap (repeated name) (take-nil n)
    | inr none ↦ ap (λ k. repeated name (take k left)) (le_zero none)
  ]
    where
      le_zero : n ≤ 0 → n ≡ 0
      le_zero h = omega arith

names_length : (fields : List Placed) (names : List (List ℕ)) → AreNames fields names → length fields ≡ length names
names_length fields names are = simp length-map at (ap length are)

module _ {all fields left : List Placed} {count : ℕ} (so : Gone all fields count left) where
  -- the names are the fields at the head
  pub gone_first : take count fields ≡ so.gone
  gone_first = ap (take count) so.split ∙ ap (λ n. take n (so.gone ++ left)) (sym (names_length so.gone so.names so.are ∙ so.counted)) ∙ take-append_seam so.gone left

  module _ (place : ℕ) (content : Result Field Reason) (later : List Placed) (steps : left ≡ field place (content_of content) ∷ later) where
    on_here : (c : Result Entry Reason) → content_of content ≡ c → gathered (named so.names) (field place c ∷ later) ≡ gathered no_records all
    on_here c is = sym (ap (gathered (named so.names)) (steps ∙ ap (λ x. field place x ∷ later) is)) ∙ so.on

    refused : (c : Result Entry Reason) → content_of content ≡ c → (reason : Reason) → field_refusal (named so.names) c ≡ Some reason → gathered no_records all ≡ Err (fault_at reason place)
    refused c is reason why = sym (on_here c is) ∙ gathered_stop (named so.names) place c later reason why

    pub unread : (reason : Reason) → content ≡ Err reason → gathered no_records all ≡ Err (fault_at reason place)
    unread reason is = refused (Err reason) (ap content_of is) reason refl

    module _ (name : Bor (List ℕ)) (offset : ℕ) (is : content ≡ Ok (Name name offset)) where
      bad_name : wrong_name so.names name.now ≡ true → gathered no_records all ≡ Err (fault_at BadName place)
      bad_name h = refused (Ok (a_name name.now)) (ap content_of is) BadName (cond-true _ _ _ h)

      first_is : (b : Bool) → (eqb count 0 && not (bytes_eq name.now default_name)) ≡ b → wrong_first so.names name.now ≡ b
      first_is b h = ap (λ n. eqb n 0 && not (bytes_eq name.now default_name)) so.counted ∙ h

      listed_is : (b : Bool) → repeated name.now (take count fields) ≡ b → listed name.now so.names ≡ b
      listed_is b h = sym (repeated_listed name.now so.gone so.names so.are) ∙ sym (ap (repeated name.now) gone_first) ∙ h

      pub first_refused : (eqb count 0 && not (bytes_eq name.now default_name)) ≡ true → gathered no_records all ≡ Err (fault_at BadName place)
      first_refused h = bad_name (wrong_by_first so.names name.now (first_is true h))

      pub repeated_refused : repeated name.now (take count fields) ≡ true → gathered no_records all ≡ Err (fault_at BadName place)
      repeated_refused h = bad_name (wrong_by_list so.names name.now (listed_is true h))

      module _ (first : (eqb count 0 && not (bytes_eq name.now default_name)) ≡ false) (once : repeated name.now (take count fields) ≡ false) where
        right : wrong_name so.names name.now ≡ false
        right = not_wrong so.names name.now (first_is false first) (listed_is false once)

        pub limit_refused : 1024 ≤ count → gathered no_records all ≡ Err (fault_at OverLimit place)
        limit_refused many = refused (Ok (a_name name.now)) (ap content_of is) OverLimit (cond-false _ _ _ right ∙ cond-true _ _ _ (le-leb _ _ (subst (λ n. 1024 ≤ n) (sym so.counted) many)))

        pub name_passes : count < 1024 → Gone all fields (count + 1) later
        name_passes few = record {
          names = so.names ++ (name.now ∷ []);
          gone = so.gone ++ (field place (Ok (a_name name.now)) ∷ []);
          split = so.split ∙ ap (λ xs. so.gone ++ xs) (steps ∙ ap (λ c. field place c ∷ later) (ap content_of is)) ∙ sym (append_assoc so.gone (field place (Ok (a_name name.now)) ∷ []) later);
          counted = length_push so.names name.now ∙ ap (λ n. n + 1) so.counted;
          are = names_push so.gone so.names (field place (Ok (a_name name.now))) name.now so.are refl;
          on = sym (gathered_on (named so.names) place (a_name name.now) later (cond-false _ _ _ right ∙ cond-false _ _ _ (lt-leb _ _ (subst (λ n. n < 1024) (sym so.counted) few)))) ∙ on_here (Ok (a_name name.now)) (ap content_of is);
        }

-- before the first name
pub none_gone : (all fields : List Placed) → gathered no_records fields ≡ gathered no_records all → Gone all fields 0 fields
none_gone all fields on = record { names = []; gone = []; split = refl; counted = refl; are = refl; on = on }
