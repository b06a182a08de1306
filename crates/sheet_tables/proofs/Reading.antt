-- Reading a sheet into tables, record by record.
use Rattle.std.specs.List.{AllByRecursion}
use Rattle.graph.specs.declared.fault.Reason.{Reason}
use Rattle.graph.specs.declared.fault.Reason.TheVariants.{BadLength}
use Rattle.std.proofs.Common.{◌≡◌, ℕ, zero, suc, ◌+◌, ◌-◌, ◌≤◌, Bool, true, false, cond, ltb, get_or, Err, Result, List, [], ◌∷◌, ◌++◌, map, length, take, drop, is_ok, Ok, unwrap_or, sym, refl, ap, ◌∙◌, subst, arith}
use Rattle.std.proofs.ByRecursion.{All-push}
use Rattle.std.proofs.lemmas.List.{map_push, length-map, length-take, length-drop, drop-drop}
use Rattle.std.proofs.lemmas.Bool.{cond-true, cond_both, ltb-false, and_from, le-leb}
use Rattle.graph.specs.declared.records.Kind.{Kind}
use Rattle.graph.specs.declared.records.Kind.TheVariants as kind
use Rattle.graph.specs.declared.records.Import.{Import}
use Rattle.graph.specs.Graphs.{Graph, Module, no_records}
use Rattle.graph.specs.Entries.{Entry, a_name, a_module, an_import, grown}
use Rattle.graph.specs.Rules.{name_entry, module_entry, of_kind, kind_number, wanted_number, wanted_numbered}
use Rattle.graph.specs.Opening.{Placed, latest, or_only_default}
use Rattle.graph.specs.Soundness.{Sized, Sound}
use Rattle.graph.proofs.Numbering.{kind_again}
use Rattle.graph.proofs.Pushing.{Formed}
use Rattle.graph.proofs.Soundly.{FormedContent}
use Rattle.sheet.specs.declared.field.Field.{Field}
use Rattle.sheet.specs.declared.field.Field.TheVariants as field
use Rattle.sheet.specs.Fields.{two, next_at, payload_at, field_at, content}
use Rattle.sheet.specs.declared.records.Records.{Records}
use Rattle.sheet.specs.Borrowed.{entry_of, Begins}
use Rattle.sheet.specs.Opening.{entries, entries_of, fields_from, fields_at}
use Rattle.sheet.specs.Opening as sheets
use Rattle.sheet.specs.Owning.{Owned, modules_after, owned, records_left}
use Rattle.sheet.specs.Reading.{readable, fields_left}
use Rattle.sheet.proofs.Reaching.{entries_readable}
use Rattle.sheet.proofs.Stepping.{field as field_here}
use Rattle.sheet.proofs.Soundly.{formed_at, graph_sound}
use Rattle.sheet_source.proofs.Answering.{built, modules_grown, built_no_fewer, sheet_built, few_modules}
use Rattle.tables.specs.declared.lists.Span.{Span}
use Rattle.tables.specs.Spans.{bytes_in}
use Rattle.tables.specs.Rows.{Held, name_content, module_content, module_of, import_of, meant}
use Rattle.tables.specs.Readable.{Readable}
use Rattle.tables.specs.Opening as tables
use Rattle.tables.proofs.Complete.{sound_opens}
use Rattle.sheet_tables.specs.Adding.{added}
use Rattle.sheet_tables.proofs.Fields.{Says, SaysContent, field_says, part_own}

-- a field that is left stands in the sheet at its place
abbrev StandsAt : List ℕ → Placed → Type 0
StandsAt bytes f = f.content ≡ field_at bytes f.place

-- the records gone through stand in the lists, whose byte run is the sheet, and those that are left make up its graph. Their owners count on from the modules in the lists
pub record SoFar (bytes : List ℕ) (h : Held) (s : Records) : Type 0 where
  pub run : h.bytes ≡ bytes
  pub readable : Readable h
  pub on : built (meant h) (entries_of (fields_left s.fields)) ≡ built no_records (entries bytes)
  pub placed : AllByRecursion (StandsAt bytes) (fields_left s.fields)
  pub owners : records_left s ≡ owned (length h.modules) (entries_of (fields_left s.fields))

-- a name or a module can be read that has its bytes in the run
name_readable : (run : List ℕ) (s : Span) (name : List ℕ) → s.offset + s.len ≤ length run → bytes_in run s ≡ name → Sized 1 255 name → is_ok (name_content run s) ≡ true
name_readable run s name within is sized = ap is_ok (cond-true _ _ _ (le-leb (s.offset + s.len) (length run) within) ∙ ap name_entry is ∙ cond-true _ _ _ (and_from _ _ (le-leb 1 (length name) sized.0) (le-leb (length name) 255 sized.1)))

module_readable : (run : List ℕ) (k : Kind) (s : Span) (id : List ℕ) → s.offset + s.len ≤ length run → bytes_in run s ≡ id → Sized 1 64 id → is_ok (module_content run (record { kind = kind_number k; id = s })) ≡ true
module_readable run k s id within is sized = ap is_ok (
    cond-true _ _ _ (le-leb (s.offset + s.len) (length run) within)
    ∙ ap (module_entry (kind_number k)) is
    ∙ cond-true _ _ _ (and_from _ _ (le-leb 1 (length id) sized.0) (le-leb (length id) 64 sized.1))
    ∙ ap (λ o. of_kind o id) (kind_again k))

-- a field that can be read ends in the sheet
not_cut : (a b : Bool) (c : Result Entry Reason) (e : Entry) → cond a (Err BadLength) (cond b (Err BadLength) c) ≡ Ok e → b ≡ false
not_cut true b c e is = absurd cc
not_cut false true c e is = absurd cc
not_cut false false c e is = refl

ends_inside : (bytes : List ℕ) (p : ℕ) (e : Entry) → field_at bytes p ≡ Ok e → next_at bytes p ≤ length bytes
ends_inside bytes p e read = ltb-false (length bytes) (next_at bytes p) (not_cut (ltb (length bytes) (p + 3)) (ltb (length bytes) (next_at bytes p)) (content (get_or bytes p 0) (payload_at bytes p)) e read)

first_is : {x y : Owned} {xs ys : List Owned} → x ∷ xs ≡ y ∷ ys → x ≡ y
first_is same = cc

others_are : {x y : Owned} {xs ys : List Owned} → x ∷ xs ≡ y ∷ ys → xs ≡ ys
others_are same = cc

-- one record more
module _ (bytes : List ℕ) (opens : is_ok (sheets.opened bytes) ≡ true) (h : Held) (s t : Records) (so : SoFar bytes h s) (p : ℕ) where
  -- what a field says, by its payload
  module _ (e : Entry) (read : field_at bytes p ≡ Ok e) where
    formed : Formed e
    formed = subst FormedContent read (formed_at bytes p)

    says : Says (payload_at bytes p) e
    says = subst (SaysContent (payload_at bytes p)) read (field_says bytes p)

  -- the part of the run that a name or an id has: its payload from byte k on
  module _ (k offset : ℕ) (begins : offset ≡ p + 3 + k) (part : List ℕ) (is : part ≡ drop k (payload_at bytes p)) where
    part_there : take (length part) (drop offset h.bytes) ≡ part
    part_there =
        ap (λ run. take (length part) (drop offset run)) so.run
        ∙ ap (λ o. take (length part) (drop o bytes)) begins
        ∙ ap (take (length part)) (sym (drop-drop k (p + 3) bytes))
        ∙ ap (λ l. take (length l) (drop k (drop (p + 3) bytes))) is
        ∙ part_own k (two bytes (p + 1)) (drop (p + 3) bytes)
        ∙ sym is

    part_within : next_at bytes p ≤ length bytes → 1 ≤ length part → offset + length part ≤ length h.bytes
    part_within ends some = omega (arith, ap length so.run, ap length is, length-drop k (payload_at bytes p), length-take (two bytes (p + 1)) (drop (p + 3) bytes), length-drop (p + 3) bytes)

  module _ (owner : ℕ) (f : Field) (gives : records_left s ≡ record { owner = owner; entry = entry_of f } ∷ records_left t) (steps : fields_left s.fields ≡ field_here p (Ok (entry_of f)) ∷ fields_left t.fields) where
    read_here : field_at bytes p ≡ Ok (entry_of f)
    read_here = sym (subst (AllByRecursion (StandsAt bytes)) steps so.placed).0

    next_owned : record { owner = owner; entry = entry_of f } ∷ records_left t ≡ owned (length h.modules) (entry_of f ∷ entries_of (fields_left t.fields))
    next_owned = sym gives ∙ so.owners ∙ ap (λ fs. owned (length h.modules) (entries_of fs)) steps

    -- the owner is the latest module of the graph
    latest_is : owner ≡ latest (meant h)
    latest_is = ap (λ (r : Owned). r.owner) (first_is next_owned) ∙ ap (λ n. n - 1) (sym (length-map h.modules (module_of h.bytes)))

    grows_on : built (grown (meant h) (latest (meant h)) (entry_of f)) (entries_of (fields_left t.fields)) ≡ built no_records (entries bytes)
    grows_on = sym (ap (λ fs. built (meant h) (entries_of fs)) steps) ∙ so.on

    few : length (grown (meant h) (latest (meant h)) (entry_of f)).modules ≤ 65535
    few = omega (arith, built_no_fewer (grown (meant h) (latest (meant h)) (entry_of f)) (entries_of (fields_left t.fields)), ap (λ (g : Graph). length g.modules) grows_on, few_modules bytes opens)

    step_by : Readable (added h owner f) → meant (added h owner f) ≡ grown (meant h) (latest (meant h)) (entry_of f) → (added h owner f).bytes ≡ h.bytes → SoFar bytes (added h owner f) t
    step_by reads grows run =
        let counted : modules_after (length h.modules) (entry_of f) ≡ length (added h owner f).modules =
        ap (λ n. modules_after n (entry_of f)) (sym (length-map h.modules (module_of h.bytes)))
        ∙ sym (modules_grown (meant h) (entry_of f) few)
        ∙ sym (ap (λ (g : Graph). length g.modules) grows)
        ∙ length-map (added h owner f).modules (module_of (added h owner f).bytes) in
        record {
          run = run ∙ so.run;
          readable = reads;
          on = ap (λ g. built g (entries_of (fields_left t.fields))) grows ∙ grows_on;
          placed = (subst (AllByRecursion (StandsAt bytes)) steps so.placed).1;
          owners = others_are next_owned ∙ ap (λ n. owned n (entries_of (fields_left t.fields))) counted;
        }

  pub step : (owner : ℕ) (f : Field) → records_left s ≡ record { owner = owner; entry = entry_of f } ∷ records_left t → fields_left s.fields ≡ field_here p (Ok (entry_of f)) ∷ fields_left t.fields → Begins f (p + 3) → SoFar bytes (added h owner f) t
  step owner (field.Name text offset) gives steps begins =
      let read = read_here owner (field.Name text offset) gives steps in
      let sized = formed (a_name text.now) read in
      let is = says (a_name text.now) read in
      let there = part_there 0 offset (begins ∙ omega arith) text.now is in
      let within = part_within 0 offset (begins ∙ omega arith) text.now is (ends_inside bytes p (a_name text.now) read) sized.0 in
      step_by owner (field.Name text offset) gives steps
      (record {
        names = All-push _ h.names _ so.readable.names (name_readable h.bytes _ text.now within there sized);
        modules = so.readable.modules;
      })
      (ap (λ (l : List (List ℕ)). record { names = l; modules = (meant h).modules; stars = (meant h).stars; imports = (meant h).imports; exports = (meant h).exports }) (map_push (bytes_in h.bytes) h.names _ ∙ ap (λ b. map (bytes_in h.bytes) h.names ++ (b ∷ [])) there))
      refl
  step owner (field.Module k text offset) gives steps begins =
      let read = read_here owner (field.Module k text offset) gives steps in
      let sized = formed (a_module k text.now) read in
      let is = says (a_module k text.now) read in
      let there = part_there 1 offset begins text.now is in
      let within = part_within 1 offset begins text.now is (ends_inside bytes p (a_module k text.now) read) sized.0 in
      step_by owner (field.Module k text offset) gives steps
      (record {
        names = so.readable.names;
        modules = All-push _ h.modules _ so.readable.modules (module_readable h.bytes k _ text.now within there sized);
      })
      (ap (λ (l : List Module). record { names = (meant h).names; modules = l; stars = (meant h).stars; imports = (meant h).imports; exports = (meant h).exports }) (
      map_push (module_of h.bytes) h.modules _
      ∙ ap (λ o. map (module_of h.bytes) h.modules ++ (record { kind = unwrap_or o kind.Empty; id = take (length text.now) (drop offset h.bytes) } ∷ [])) (kind_again k)
      ∙ ap (λ b. map (module_of h.bytes) h.modules ++ (record { kind = k; id = b } ∷ [])) there))
      refl
  step owner (field.Star target) gives steps begins =
      step_by owner (field.Star target) gives steps (record { names = so.readable.names; modules = so.readable.modules })
      (ap (λ o. record { names = (meant h).names; modules = (meant h).modules; stars = h.stars ++ (record { owner = o; target = target } ∷ []); imports = (meant h).imports; exports = (meant h).exports }) (latest_is owner (field.Star target) gives steps))
      refl
  step owner (field.Import symbol target wanted) gives steps begins =
      step_by owner (field.Import symbol target wanted) gives steps (record { names = so.readable.names; modules = so.readable.modules })
      (ap (λ (l : List Import). record { names = (meant h).names; modules = (meant h).modules; stars = (meant h).stars; imports = l; exports = (meant h).exports }) (
      map_push import_of h.imports _
      ∙ ap (λ o. map import_of h.imports ++ (record { owner = o; symbol = symbol; target = target; wanted = wanted_numbered (wanted_number wanted) } ∷ [])) (latest_is owner (field.Import symbol target wanted) gives steps)
      ∙ ap (λ w. map import_of h.imports ++ (record { owner = latest (meant h); symbol = symbol; target = target; wanted = w } ∷ [])) (says (an_import symbol target wanted) (read_here owner (field.Import symbol target wanted) gives steps))))
      refl
  step owner (field.Export name symbol) gives steps begins =
      step_by owner (field.Export name symbol) gives steps (record { names = so.readable.names; modules = so.readable.modules })
      (ap (λ o. record { names = (meant h).names; modules = (meant h).modules; stars = (meant h).stars; imports = (meant h).imports; exports = h.exports ++ (record { owner = o; name = name; symbol = symbol } ∷ []) }) (latest_is owner (field.Export name symbol) gives steps))
      refl

-- the fields of a sheet are at their places
placed_from : (steps : ℕ) (bytes : List ℕ) (p : ℕ) → AllByRecursion (StandsAt bytes) (fields_from steps bytes p)
placed_from zero bytes p = tt
placed_from (suc steps) bytes p = cond_both (ltb p (length bytes)) _ _ (AllByRecursion (StandsAt bytes)) (λ _. (refl, placed_from steps bytes (next_at bytes p))) (λ _. tt)

placed_readable : (bytes : List ℕ) (fs : List Placed) → AllByRecursion (StandsAt bytes) fs → AllByRecursion (StandsAt bytes) (readable fs)
placed_readable bytes [] all = tt
placed_readable bytes (f ∷ fs) all = (all.0, cond_both (is_ok f.content) _ _ (AllByRecursion (StandsAt bytes)) (λ _. placed_readable bytes fs all.1) (λ _. tt))

-- before the first record
pub start : (bytes : List ℕ) (h : Held) (s : Records) → h ≡ record { bytes = bytes; names = []; modules = []; stars = []; imports = []; exports = [] } → (records_left s ≡ owned 0 (entries bytes)) × (fields_left s.fields ≡ readable (fields_at bytes 0)) → SoFar bytes h s
start bytes h s is all =
    let says : entries_of (fields_left s.fields) ≡ entries bytes = ap entries_of all.1 ∙ entries_readable (fields_at bytes 0) in
    rw is (record {
      run = refl;
      readable = record { names = tt; modules = tt };
      on = ap (built no_records) says;
      placed = subst (AllByRecursion (StandsAt bytes)) (sym all.1) (placed_readable bytes (fields_at bytes 0) (placed_from (length bytes) bytes 0));
      owners = all.0 ∙ ap (owned 0) (sym says);
    })

-- what has no record with an owner has no record
none_owned : (n : ℕ) (es : List Entry) → owned n es ≡ [] → es ≡ []
none_owned n [] none = refl
none_owned n (e ∷ es) none = absurd cc

-- behind the last: the lists open, and have the graph of the sheet
pub finish : (bytes : List ℕ) → is_ok (sheets.opened bytes) ≡ true → (h : Held) (s : Records) → SoFar bytes h s → records_left s ≡ [] → (is_ok (tables.opened h) ≡ true) × (tables.graph_of h ≡ sheets.graph_of bytes)
finish bytes opens h s so none =
    let last = none_owned (length h.modules) (entries_of (fields_left s.fields)) (sym so.owners ∙ none) in
    let same : meant h ≡ sheets.graph_of bytes = sym (ap (built (meant h)) last) ∙ so.on ∙ sym (sheet_built bytes opens) in
    let opened = sound_opens h so.readable (subst Sound (sym same) (graph_sound bytes)) in
    (ap is_ok opened, ap or_only_default opened ∙ same)
