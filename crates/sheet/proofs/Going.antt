-- The fields that are left, behind one more.
use Rattle.std.proofs.Common.{◌≡◌, ℕ, ◌<◌, cond, List, [], ◌∷◌, length, is_ok, Ok, Err, refl, sym, ap, ◌∙◌, arith}
use Rattle.graph.specs.declared.fault.Reason.{Reason}
use Rattle.graph.specs.Entries.{Entry}
use Rattle.graph.specs.Opening.{Placed}
use Rattle.sheet.specs.Fields.{next_at, field_at}
use Rattle.sheet.specs.Opening.{fields_at}
use Rattle.sheet.specs.Reading.{readable}
use Rattle.sheet.proofs.Stepping.{field, fields_more, fields_done}

module _ (bytes : List ℕ) (p q : ℕ) (inside : p < length bytes) where
  pub readable_more : (e : Entry) → field_at bytes p ≡ Ok e → q ≡ next_at bytes p → readable (fields_at bytes p) ≡ field p (Ok e) ∷ readable (fields_at bytes q)
  readable_more e read next = ap readable (fields_more bytes p inside) ∙ rw (read, next) refl

  pub readable_last : (r : Reason) → field_at bytes p ≡ Err r → readable (fields_at bytes p) ≡ field p (Err r) ∷ readable (fields_at bytes (length bytes))
  readable_last r read = ap readable (fields_more bytes p inside) ∙ rw (read, fields_done bytes (length bytes) (omega arith)) refl

-- behind a field that cannot be read nothing is left
pub nothing_behind : (fields : List Placed) (x : Placed) (later : List Placed) (r : Reason) → readable fields ≡ x ∷ later → x.content ≡ Err r → later ≡ []
nothing_behind [] x later r e is = absurd cc
nothing_behind (y ∷ ys) x later r e is =
    let first : y ≡ x = cc in
    let rest : cond (is_ok y.content) (readable ys) [] ≡ later = cc in
    sym rest ∙ ap (λ c. cond (is_ok c) (readable ys) []) (ap (λ (z : Placed). z.content) first ∙ is)
