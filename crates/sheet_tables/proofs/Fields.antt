-- Where the bytes of a name or an id stand in its sheet.
use Rattle.std.proofs.Common.{◌≡◌, ℕ, zero, suc, ◌+◌, Bool, cond, eqb, ltb, List, [], ◌∷◌, length, get_or, take, drop, Some, None, Ok, Err, Option, Result, refl, ap}
use Rattle.std.proofs.lemmas.Bool.{cond_both}
use Rattle.graph.specs.declared.fault.Reason.{Reason}
use Rattle.graph.specs.declared.records.Kind.{Kind}
use Rattle.graph.specs.Entries.{Entry, a_name, a_module, a_star, an_import, an_export}
use Rattle.graph.specs.Rules.{name_sized, id_sized, kind_numbered, of_kind, wanted_number, wanted_numbered}
use Rattle.graph.proofs.Numbering.{wanted_again}
use Rattle.sheet.specs.Fields.{two, next_at, payload_at, field_at, content}

-- the bytes of a record are those of its payload, for a module behind the kind; what an import wants has a number
abbrev pub Says : List ℕ → Entry → Type 0
Says payload (a_name bytes) = bytes ≡ payload
Says payload (a_module kind id) = id ≡ drop 1 payload
Says payload (a_star target) = Unit {0}
Says payload (an_import symbol target wanted) = wanted_numbered (wanted_number wanted) ≡ wanted
Says payload (an_export name symbol) = Unit {0}

abbrev pub SaysContent : List ℕ → Result Entry Reason → Type 0
SaysContent payload (Ok e) = Says payload e
SaysContent payload (Err reason) = Unit {0}

module _ (payload : List ℕ) where
  either : (b : Bool) (x y : Result Entry Reason) → SaysContent payload x → SaysContent payload y → SaysContent payload (cond b x y)
  either b x y sx sy = cond_both b x y (SaysContent payload) (λ _. sx) (λ _. sy)

  of_either : (k : Option Kind) → SaysContent payload (of_kind k (drop 1 payload))
  of_either None = tt
  of_either (Some k) = refl

  content_says : (tag : ℕ) → SaysContent payload (content tag payload)
  content_says tag =
      either (eqb tag 1) _ _ (either (name_sized payload) _ _ refl tt)
      (either (eqb tag 2) _ _ (either (id_sized (drop 1 payload)) _ _ (of_either (kind_numbered (get_or payload 0 0))) tt)
      (either (eqb tag 3) _ _ (either (eqb (length payload) 2) _ _ tt tt)
      (either (eqb tag 4) _ _ (either (eqb (length payload) 6) _ _ (wanted_again (two payload 4)) tt)
      (either (eqb tag 5) _ _ (either (eqb (length payload) 4) _ _ tt tt) tt))))

pub field_says : (bytes : List ℕ) (p : ℕ) → SaysContent (payload_at bytes p) (field_at bytes p)
field_says bytes p = either (payload_at bytes p) (ltb (length bytes) (p + 3)) _ _ tt (either (payload_at bytes p) (ltb (length bytes) (next_at bytes p)) _ _ tt (content_says (payload_at bytes p) (get_or bytes p 0)))

-- a part of a list, told by its own length
pub part_own : {X : Type 0} (k n : ℕ) (xs : List X) → take (length (drop k (take n xs))) (drop k xs) ≡ drop k (take n xs)
part_own zero zero xs = refl
part_own zero (suc n) [] = refl
part_own zero (suc n) (x ∷ xs) = ap (λ l. x ∷ l) (part_own zero n xs)
part_own (suc k) zero xs = refl
part_own (suc k) (suc n) [] = refl
part_own (suc k) (suc n) (x ∷ xs) = part_own k n xs
