-- The checks of the names, one by one.
use Rattle.std.proofs.Common.{◌≡◌, ℕ, ◌+◌, ◌<◌, ◌≤◌, Bool, true, false, not, ◌&&◌, ◌||◌, eqb, List, map, length, get_or, take, drop, Some, None, Ok, Err, Option, Result, sym, ap, ◌∙◌, arith, rules}
use Rattle.std.specs.Str.{bytes_eq}
use Rattle.std.proofs.lemmas.List.{length-map, length-take-le, get_or_default, at_drop_more, at_drop_all}
use Rattle.std.proofs.lemmas.Bool.{true≢false, cond-true, cond-false, le-leb, lt-leb}
use Rattle.graph.specs.declared.fault.Fault.{Fault}
use Rattle.graph.specs.declared.fault.Layer.TheVariants as layer
use Rattle.graph.specs.declared.fault.Reason.{Reason}
use Rattle.graph.specs.declared.fault.Reason.TheVariants.{Malformed, BadName, OverLimit}
use Rattle.graph.specs.Graphs.{Graph, default_name}
use Rattle.graph.specs.Entries.{a_name}
use Rattle.graph.specs.Rules.{listed, wrong_name}
use Rattle.graph.specs.Opening.{content_refusal, fault_in}
use Rattle.graph.proofs.Naming.{wrong_by_first, wrong_by_list, not_wrong}
use Rattle.tables.specs.declared.lists.Span.{Span}
use Rattle.tables.specs.Spans.{bytes_in, is_read}
use Rattle.tables.specs.Rows.{Held, no_owner, name_content, with_names}
use Rattle.tables.specs.Staging.{checked, Passed}
use Rattle.tables.proofs.Staged.{stop_at, pass_at}
use Rattle.tables.specs.Growing.{names_grow}

-- a first name that is not `default`
abbrev wrong_test : ℕ → List ℕ → Bool
wrong_test count name = eqb count 0 && not (bytes_eq name default_name)

abbrev pub names_checked : Held → List Span → Result Graph Fault
names_checked h names = checked no_owner (name_content h.bytes) (with_names h) 0 names

abbrev pub NamesPass : Held → List Span → Type 0
NamesPass h names = Passed no_owner (name_content h.bytes) (with_names h) 0 names

-- what a name says that was read, or not
read_says : (run : List ℕ) (s : Span) {name : List ℕ} → is_read 255 run s ≡ true → name ≡ bytes_in run s → name_content run s ≡ Ok (a_name name)
read_says run s read is = search rules

unread_says : (run : List ℕ) (s : Span) → is_read 255 run s ≡ false → name_content run s ≡ Err Malformed
unread_says run s unread = search rules

-- name i, behind names that pass; n is i as the code has it
module _ (h : Held) (i : ℕ) (d : Span) (inside : i < length h.names) (passed : NamesPass h (take i h.names)) where
  refused : (reason : Reason) → content_refusal (with_names h (take i h.names)) None (name_content h.bytes (get_or h.names i d)) ≡ Some reason → names_checked h h.names ≡ Err (fault_in layer.Tables reason i)
  refused reason e = stop_at no_owner (name_content h.bytes) (with_names h) 0 h.names i inside (get_or h.names i d) (get_or_default h.names i d (get_or h.names i d) inside) passed reason e ∙ ap (λ p. Err (fault_in layer.Tables reason p)) (omega arith)

  pub unread : is_read 255 h.bytes (get_or h.names i d) ≡ false → names_checked h h.names ≡ Err (fault_in layer.Tables Malformed i)
  unread fails = refused Malformed (ap (content_refusal (with_names h (take i h.names)) None) (unread_says h.bytes (get_or h.names i d) fails))

  module _ {name : List ℕ} (read : is_read 255 h.bytes (get_or h.names i d) ≡ true) (is : name ≡ bytes_in h.bytes (get_or h.names i d)) where
    counted : length (map (bytes_in h.bytes) (take i h.names)) ≡ i
    counted = length-map (take i h.names) (bytes_in h.bytes) ∙ length-take-le i h.names (omega arith)

    as_name : content_refusal (with_names h (take i h.names)) None (name_content h.bytes (get_or h.names i d)) ≡ content_refusal (with_names h (take i h.names)) None (Ok (a_name name))
    as_name = ap (content_refusal (with_names h (take i h.names)) None) (read_says h.bytes (get_or h.names i d) read is)

    bad_name : wrong_name (map (bytes_in h.bytes) (take i h.names)) name ≡ true → names_checked h h.names ≡ Err (fault_in layer.Tables BadName i)
    bad_name wrong = refused BadName (as_name ∙ cond-true _ _ _ wrong)

    pub first_refused : wrong_test i name ≡ true → names_checked h h.names ≡ Err (fault_in layer.Tables BadName i)
    first_refused wrong = bad_name (wrong_by_first _ name (ap (λ n. wrong_test n name) counted ∙ wrong))

    module _ (n : ℕ) (n_is : n ≡ i) where
      earlier_are : listed name (map (bytes_in h.bytes) (take n h.names)) ≡ listed name (map (bytes_in h.bytes) (take i h.names))
      earlier_are = ap (λ k. listed name (map (bytes_in h.bytes) (take k h.names))) n_is

      pub repeated_refused : listed name (map (bytes_in h.bytes) (take n h.names)) ≡ true → names_checked h h.names ≡ Err (fault_in layer.Tables BadName i)
      repeated_refused there = bad_name (wrong_by_list _ name (sym earlier_are ∙ there))

      module _ (right : wrong_test i name ≡ false) (other : listed name (map (bytes_in h.bytes) (take n h.names)) ≡ false) where
        fine : wrong_name (map (bytes_in h.bytes) (take i h.names)) name ≡ false
        fine = not_wrong _ name (ap (λ n. wrong_test n name) counted ∙ right) (sym earlier_are ∙ other)

        pub limit_refused : 1024 ≤ i → names_checked h h.names ≡ Err (fault_in layer.Tables OverLimit i)
        limit_refused many = refused OverLimit (as_name ∙ cond-false _ _ _ fine ∙ cond-true _ _ _ (le-leb 1024 (length (map (bytes_in h.bytes) (take i h.names))) (omega (arith, counted))))

        pub name_passes : i < 1024 → NamesPass h (take (i + 1) h.names)
        name_passes few = pass_at no_owner (name_content h.bytes) (with_names h) 0 h.names i inside (get_or h.names i d) (get_or_default h.names i d (get_or h.names i d) inside) passed (names_grow h) (as_name ∙ cond-false _ _ _ fine ∙ cond-false _ _ _ (lt-leb 1024 (length (map (bytes_in h.bytes) (take i h.names))) (omega (arith, counted))))

-- going through the earlier names, for one that is equal
module _ {X : Type 0} (f : X → List ℕ) (name : List ℕ) (xs : List X) (j : ℕ) where
  module _ (d : X) (inside : j < length xs) where
    pub listed_here : true ≡ bytes_eq name (f (get_or xs j d)) → listed name (map f (drop j xs)) ≡ true
    listed_here e = at_drop_more (λ l. listed name (map f l)) xs j d inside ∙ sym (ap (λ b. b || listed name (map f (drop (j + 1) xs))) e)

  pub listed_never : length xs ≤ j → listed name (map f (drop j xs)) ≡ false
  listed_never past = at_drop_all (λ l. listed name (map f l)) xs j past

-- what stands in an option
pub never_some : {X : Type 0} (o : Option X) (x : X) → o ≡ None → o ≡ Some x → ⊥
never_some o x none some = true≢false (cc)

pub same_some : {X : Type 0} (o : Option X) (x y : X) → o ≡ Some x → o ≡ Some y → x ≡ y
same_some o x y p q = cc
