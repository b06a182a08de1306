-- How a tally of a list grows, line by line.
use Rattle.std.proofs.Common.{◌≡◌, ℕ, suc, ◌+◌, ◌<◌, Bool, true, false, cond, List, [], ◌∷◌, length, All, Option, Some, None, is_some, Result, Ok, IfSome, IfNone, sym, ap, subst, ◌∙◌, arith}
use Rattle.graph.specs.declared.fault.Fault.{Fault}
use Rattle.std.specs.Io.KnownBytes.{IsAtEnd}
use Rattle.std.specs.Io.BufRead.{first_line, drop_through}
use Rattle.std.specs.Io.Iter.{YieldsKnownPiece}
use Rattle.std.specs.Str.Lines.{lines}
use Rattle.std.proofs.lemmas.Bool.{false≢true}
use Rattle.std.proofs.lemmas.List.Elements.{All-nil, All-cons}
use Rattle.case_list.specs.Replaying.{is_heading, IsRight, Tallied}
use Rattle.case_list.specs.Replaying.Tallied.{no_lines, a_heading, a_right_case, a_wrong_case}
use Rattle.case_list.proofs.Lines.{lines_first}

-- these bytes are left, and with a tally of their lines the tally so far is one of all lines
pub record Tallying (Gives : List ℕ → Result Unit Fault → Type 0) (all : List (List ℕ)) (left : Option (List ℕ)) (cases wrong : ℕ) : Type 0 where
  pub rest : List ℕ
  pub known : left ≡ Some rest
  pub adds : (c w : ℕ) → Tallied Gives (lines rest) c w → Tallied Gives all (c + cases) (w + wrong)

-- the same, where the bytes of the list are known
abbrev pub TallyingKnown : (List ℕ → Result Unit Fault → Type 0) → Option (List ℕ) → Option (List ℕ) → ℕ → ℕ → Type 0
TallyingKnown Gives list left cases wrong = IfSome list (λ bytes. Tallying Gives (lines bytes) left cases wrong)

-- one line more adds these to the cases and the wrong ones
abbrev pub Adds : (List ℕ → Result Unit Fault → Type 0) → List ℕ → ℕ → ℕ → Type 0
Adds Gives line k j = (ls : List (List ℕ)) (c w : ℕ) → Tallied Gives ls c w → Tallied Gives (line ∷ ls) (c + k) (w + j)

same_tally : {Gives : List ℕ → Result Unit Fault → Type 0} {ls : List (List ℕ)} (c w d v : ℕ) → c ≡ d → w ≡ v → Tallied Gives ls c w → Tallied Gives ls d v
same_tally {Gives} {ls} c w d v e f t = subst (λ x. Tallied Gives ls d x) f (subst (λ x. Tallied Gives ls x w) e t)

pub heading_adds : (Gives : List ℕ → Result Unit Fault → Type 0) (line : List ℕ) → is_heading line ≡ true → Adds Gives line 0 0
heading_adds Gives line h ls c w t = same_tally c w (c + 0) (w + 0) (omega arith) (omega arith) (a_heading h t)

pub case_adds : {C : Type 0} (Gives : List ℕ → Result Unit Fault → Type 0) (line : List ℕ) (complaint : Option C) (is_wrong : Bool) → is_heading line ≡ false → IfNone complaint (IsRight Gives line) → is_wrong ≡ is_some complaint → Adds Gives line 1 (cond is_wrong 1 0)
case_adds Gives line None is_wrong h r b ls c w t = same_tally (suc c) w (c + 1) (w + cond is_wrong 1 0) (omega arith) (let none : is_wrong ≡ false = b in rw none (omega arith)) (a_right_case h r t)
case_adds Gives line (Some complaint) is_wrong h r b ls c w t = same_tally (suc c) (suc w) (c + 1) (w + cond is_wrong 1 0) (omega arith) (let some : is_wrong ≡ true = b in rw some (omega arith)) (a_wrong_case h t)

piece_known : {X E : Type 0} (text : X → List ℕ) (old new : Option (List ℕ)) (item : Result X E) (x : X) (xs : List ℕ) → item ≡ Ok x → old ≡ Some xs → YieldsKnownPiece text first_line 10 old (Some item) new → (0 < length xs) × (text x ≡ first_line xs) × (new ≡ Some (drop_through 10 xs))
piece_known text old new item x xs e o y = let at_item = rw e at y in let at_bytes = rw o at at_item in (at_bytes.0.0, at_bytes.0.1, at_bytes.1)

pub tallying_goes_on : {X E : Type 0} (Gives : List ℕ → Result Unit Fault → Type 0) (text : X → List ℕ) (list old new : Option (List ℕ)) (item : Result X E) (x : X) (cases wrong k j cases' wrong' : ℕ) → item ≡ Ok x → YieldsKnownPiece text first_line 10 old (Some item) new → Adds Gives (text x) k j → cases' ≡ cases + k → wrong' ≡ wrong + j
    → TallyingKnown Gives list old cases wrong → TallyingKnown Gives list new cases' wrong'
tallying_goes_on Gives text None old new item x cases wrong k j cases' wrong' e y a ec ew t = tt
tallying_goes_on Gives text (Some bytes) old new item x cases wrong k j cases' wrong' e y a ec ew t =
    let p = piece_known text old new item x t.rest e t.known y in
    let rest = drop_through 10 t.rest in
    record {
      rest = rest;
      known = p.2;
      adds = λ c w left.
          let first : text x ∷ lines rest ≡ lines t.rest = ap (λ v. v ∷ lines rest) p.1 ∙ sym (lines_first t.rest p.0) in
          let line : Tallied Gives (lines t.rest) (c + k) (w + j) = subst (λ ls. Tallied Gives ls (c + k) (w + j)) first (a (lines rest) c w left) in
          same_tally (c + k + cases) (w + j + wrong) (c + cases') (w + wrong') (omega arith) (omega arith) (t.adds (c + k) (w + j) line);
    }

pub tallying_ends : (Gives : List ℕ → Result Unit Fault → Type 0) (list left : Option (List ℕ)) (cases wrong : ℕ) → IsAtEnd left → TallyingKnown Gives list left cases wrong → IfSome list (λ bytes. Tallied Gives (lines bytes) cases wrong)
tallying_ends Gives None left cases wrong e t = tt
tallying_ends Gives (Some bytes) left cases wrong e t =
    let none : t.rest ≡ [] = rw t.known at e in
    same_tally (0 + cases) (0 + wrong) cases wrong (omega arith) (omega arith) (t.adds 0 0 (subst (λ xs. Tallied Gives (lines xs) 0 0) (sym none) no_lines))

-- where none came out wrong, each case is right
pub none_wrong : {Gives : List ℕ → Result Unit Fault → Type 0} (ls : List (List ℕ)) (cases wrong : ℕ) → wrong ≡ 0 → Tallied Gives ls cases wrong → All (λ line. is_heading line ≡ false → IsRight Gives line) ls
none_wrong {Gives} [] cases wrong z no_lines = All-nil (λ line. is_heading line ≡ false → IsRight Gives line)
none_wrong {Gives} (line ∷ ls) cases wrong z (a_heading h t) = All-cons (λ l. is_heading l ≡ false → IsRight Gives l) line ls (λ f. absurd (false≢true (sym f ∙ h))) (none_wrong ls cases wrong z t)
none_wrong {Gives} (line ∷ ls) (suc cases) wrong z (a_right_case h r t) = All-cons (λ l. is_heading l ≡ false → IsRight Gives l) line ls (λ _. r) (none_wrong ls cases wrong z t)
none_wrong {Gives} (line ∷ ls) (suc cases) (suc wrong) z (a_wrong_case h t) = absurd (omega arith)
