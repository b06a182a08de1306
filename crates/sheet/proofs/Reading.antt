-- What reading one field comes to.
use Rattle.std.proofs.Common.{◌≡◌, ℕ, ◌+◌, ◌-◌, ◌≤◌, List, length, get_or, take, drop, sym, ap, ◌∙◌, arith}
use Rattle.std.proofs.lemmas.Bool.{cond-false, le-ltb}
use Rattle.sheet.specs.Fields.{two, next_at, content, field_at}

-- a field whose header and payload are there
pub field_there : (bytes : List ℕ) (p size : ℕ) → size ≡ two bytes (p + 1) → (p + 3) + size ≤ length bytes → field_at bytes p ≡ content (get_or bytes p 0) (take ((p + 3) + size - (p + 3)) (drop (p + 3) bytes))
field_there bytes p size e h =
    let same : two bytes (p + 1) ≡ (p + 3) + size - (p + 3) = sym e ∙ omega arith in
    cond-false _ _ _ (le-ltb (length bytes) (p + 3) (omega arith))
    ∙ cond-false _ _ _ (le-ltb (length bytes) (next_at bytes p) (omega arith))
    ∙ ap (λ n. content (get_or bytes p 0) (take n (drop (p + 3) bytes))) same
