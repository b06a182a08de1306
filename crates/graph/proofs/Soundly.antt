-- What opens is sound.
use Rattle.std.proofs.Common.{◌≡◌, ℕ, ◌<◌, ◌≤◌, Bool, false, cond, eqb, ltb, List, [], ◌∷◌, length, Some, None, Ok, Err, Option, Result, refl, subst, arith}
use Rattle.std.specs.List.{AllByRecursion}
use Rattle.std.proofs.ByRecursion.{All-weaker}
use Rattle.std.proofs.lemmas.Bool.{cond_both, or_parts, ltb-false}
use Rattle.std.proofs.lemmas.Bool.Decides.{nat_tests}
use Rattle.graph.specs.declared.fault.Fault.{Fault}
use Rattle.graph.specs.declared.fault.Layer.{Layer}
use Rattle.graph.specs.declared.fault.Reason.{Reason}
use Rattle.graph.specs.declared.fault.Reason.TheVariants.{Malformed}
use Rattle.graph.specs.declared.records.Kind.{Kind}
use Rattle.graph.specs.declared.records.Kind.TheVariants as kind
use Rattle.graph.specs.Graphs.{Graph, no_records}
use Rattle.graph.specs.Entries.{Entry, a_name, a_module, a_star, an_import, an_export, grown}
use Rattle.graph.specs.Lookups.{star_owner, import_owner, export_owner}
use Rattle.graph.specs.Rules.{name_sized, id_sized, kind_numbered, of_kind, name_entry, module_entry, misnamed, over_limit, unknown_name, given_twice, wrong_owner, aim_refusal, unless, and_then}
use Rattle.graph.specs.Opening.{Placed, latest, owner_behind, falls_behind, misplaced, unknown_owner, entry_refusal, content_refusal, with_content, refusal, with_record, gathered, content_aim, aims, no_name, finished, opened, or_only_default}
use Rattle.graph.specs.Soundness.{EsModule, Sized, Sound}
use Rattle.graph.proofs.Pushing.{all_by_steps, cond_none, either_none, unless_ok, sized_told, kind_inside, SoFar, Formed, Behind, nothing_so_far, so_far_push, so_far_sound, default_sound}

-- what was read, where it could be read, is well formed
abbrev pub FormedContent : Result Entry Reason → Type 0
FormedContent (Ok e) = Formed e
FormedContent (Err reason) = Unit {0}

abbrev pub FormedRecord : Placed → Type 0
FormedRecord x = FormedContent x.content

-- whichever of two a test takes
pub formed_either : (b : Bool) (x y : Result Entry Reason) → FormedContent x → FormedContent y → FormedContent (cond b x y)
formed_either b x y fx fy = cond_both b x y FormedContent (λ _. fx) (λ _. fy)

pub formed_name : (bytes : List ℕ) → FormedContent (name_entry bytes)
formed_name bytes = cond_both (name_sized bytes) (Ok (a_name bytes)) (Err Malformed) FormedContent (sized_told 1 255 bytes) (λ _. tt)

pub formed_module : (number : ℕ) (id : List ℕ) → FormedContent (module_entry number id)
formed_module number id = cond_both (id_sized id) (of_kind (kind_numbered number) id) (Err Malformed) FormedContent (λ h. of_either (kind_numbered number) (sized_told 1 64 id h)) (λ _. tt)
  where
    of_either : (k : Option Kind) → Sized 1 64 id → FormedContent (of_kind k id)
    of_either None sized = tt
    of_either (Some k) sized = sized

not_later : (g : Graph) (m : ℕ) → EsModule g m → m ≤ latest g
not_later g m es = omega (arith, kind_inside g.modules m kind.Es es)

-- where owners do not fall, no element has a later owner
pub none_later : {X : Type 0} (owner : X → ℕ) (m : ℕ) (xs : List X) → falls_behind owner xs m ≡ false → AllByRecursion (λ x. owner x ≤ m) xs
none_later owner m xs h = all_by_steps (λ ys. falls_behind owner ys m ≡ false) (λ x. owner x ≤ m) (λ x ys k. let parts = or_parts (ltb m (owner x)) (falls_behind owner ys m) k in (ltb-false m (owner x) parts.0, parts.1)) xs h

module _ {whole g : Graph} (so : SoFar whole g) where
  -- a record that is not misplaced stands behind the others of its list
  behind_others : (owner : Option ℕ) (e : Entry) → misplaced g owner e ≡ false → Behind g (owner_behind g owner) e
  behind_others owner (a_name bytes) h = tt
  behind_others owner (a_module k id) h = tt
  behind_others None (a_star target) h = All-weaker _ _ (λ s fits. not_later g s.owner fits.0) g.stars so.stars.each
  behind_others None (an_import symbol target wanted) h = All-weaker _ _ (λ i fits. not_later g i.owner fits.0) g.imports so.imports.each
  behind_others None (an_export name symbol) h = All-weaker _ _ (λ x fits. not_later g x.owner fits.0) g.exports so.exports.each
  behind_others (Some owner) (a_star target) h = none_later star_owner owner g.stars h
  behind_others (Some owner) (an_import symbol target wanted) h = none_later import_owner owner g.imports h
  behind_others (Some owner) (an_export name symbol) h = none_later export_owner owner g.exports h

  -- a record that is not refused
  entry_so_far : (owner : Option ℕ) (e : Entry) → Formed e → entry_refusal g owner e ≡ None → aim_refusal whole e ≡ None → SoFar whole (grown g (owner_behind g owner) e)
  entry_so_far owner e formed passed aimed =
      let order = cond_none (misplaced g owner e) _ _ passed in
      let well_named = cond_none (misnamed g e) _ _ order.1 in
      let room = cond_none (over_limit g e) _ _ well_named.1 in
      let known = cond_none _ _ _ room.1 in
      let once = cond_none (given_twice g (owner_behind g owner) e) _ _ known.1 in
      let owned = cond_none (wrong_owner g (owner_behind g owner) e) _ _ once.1 in
      so_far_push whole g (owner_behind g owner) e so (record {
        formed = formed;
        behind = behind_others owner e order.0;
        well_named = well_named.0;
        room = room.0;
        known = (or_parts (unknown_owner g owner) (unknown_name g e) known.0).1;
        once = once.0;
        owned = owned.0;
        aimed = aimed;
      })

  -- the same of what was read
  content_so_far : (layer : Layer) (owner : Option ℕ) (c : Result Entry Reason) (place : ℕ) (later : Option Fault) → FormedContent c → content_refusal g owner c ≡ None → content_aim layer whole place c later ≡ None → SoFar whole (with_content g owner c) × (later ≡ None)
  content_so_far layer owner (Err reason) place later formed passed aimed = let never : ◌≡◌ {A = ℕ} 0 1 = cc in absurd (omega arith)
  content_so_far layer owner (Ok e) place later formed passed aimed = let parts = either_none layer (aim_refusal whole e) place later aimed in (entry_so_far owner e formed passed parts.0, parts.1)

module _ (layer : Layer) where
  -- all records, where the whole graph has what they aim at
  gathered_so_far : (whole g h : Graph) (xs : List Placed) → AllByRecursion FormedRecord xs → gathered layer g xs ≡ Ok h → aims layer whole xs ≡ None → SoFar whole g → SoFar whole h
  gathered_so_far whole g h [] formed passed aimed so = let same : g ≡ h = cc in subst (SoFar whole) same so
  gathered_so_far whole g h (x ∷ xs) formed passed aimed so =
      let ok = unless_ok layer (refusal g x) x.place (gathered layer (with_record g x) xs) h passed in
      let next = content_so_far so layer x.owner x.content x.place (aims layer whole xs) formed.0 ok.0 aimed in
      gathered_so_far whole (with_record g x) h xs formed.1 ok.1 next.1 next.0

  -- what a fault ends is the graph with the name `default` alone
  pub sound_unless : (f : Option Fault) (r : Result Graph Fault) → (f ≡ None → Sound (or_only_default r)) → Sound (or_only_default (unless f r))
  sound_unless (Some f) r sound = default_sound
  sound_unless None r sound = sound refl

  sound_then : (r : Result Graph Fault) (next : Graph → Result Graph Fault) → ((g : Graph) → r ≡ Ok g → Sound (or_only_default (next g))) → Sound (or_only_default (and_then r next))
  sound_then (Ok g) next sound = sound g refl
  sound_then (Err f) next sound = default_sound

  pub opened_sound : (end : ℕ) (xs : List Placed) → AllByRecursion FormedRecord xs → Sound (or_only_default (opened layer end xs))
  opened_sound end xs formed =
      sound_then (gathered layer no_records xs) (finished layer end xs) (λ g gathers.
      sound_unless (no_name layer end g) _ (λ named.
      sound_unless (aims layer g xs) (Ok g) (λ aimed.
      so_far_sound g (gathered_so_far g no_records g xs formed gathers aimed (nothing_so_far g)) (some_name (length g.names) (cond_none _ _ _ named).0))))
    where
      some_name : (n : ℕ) → eqb n 0 ≡ false → 0 < n
      some_name n h = grind (arith, nat_tests)
