-- What replaying a list tells.
use Rattle.std.specs.Prelude.{◌≡◌, ℕ, suc, ◌<◌, Bool, true, false, List, [], ◌∷◌, length, Result, ◌==◌, slice_index}
use Rattle.std.specs.List.{before_first, after_first, position_or_len}
use Rattle.std.specs.Str.{trim}
use Rattle.graph.specs.declared.fault.Fault.{Fault}
use Rattle.case_list.specs.Answers.{answer_text}

-- whether the line begins with `#`
abbrev pub is_heading : List ℕ → Bool
is_heading line = slice_index line 0 == 35

-- whether a byte is `=`
abbrev pub is_equals : ℕ → Bool
is_equals b = b == 61

-- what stands before the first `=` of a line, and what stands behind it between blanks
abbrev pub subject_of : List ℕ → List ℕ
subject_of line = before_first is_equals line

abbrev pub expected_of : List ℕ → List ℕ
expected_of line = trim (after_first is_equals line)

-- the line has a `=`, and opening its subject gave what it expects, where `Gives text answer` says that opening this
-- text may give this answer
pub record IsRight (Gives : List ℕ → Result Unit Fault → Type 0) (line : List ℕ) : Type 0 where
  pub answer : Result Unit Fault
  pub divided : position_or_len is_equals line < length line
  pub given : Gives (subject_of line) answer
  pub expected : answer_text answer ≡ expected_of line

-- each of the lines is a heading or one of `cases` cases, and each case is right or one of the `wrong` wrong ones
pub data Tallied (Gives : List ℕ → Result Unit Fault → Type 0) : List (List ℕ) → ℕ → ℕ → Type 0 where
  no_lines : Tallied Gives [] 0 0
  a_heading : {line : List ℕ} {lines : List (List ℕ)} {cases wrong : ℕ} → is_heading line ≡ true → Tallied Gives lines cases wrong → Tallied Gives (line ∷ lines) cases wrong
  a_right_case : {line : List ℕ} {lines : List (List ℕ)} {cases wrong : ℕ} → is_heading line ≡ false → IsRight Gives line → Tallied Gives lines cases wrong → Tallied Gives (line ∷ lines) (suc cases) wrong
  a_wrong_case : {line : List ℕ} {lines : List (List ℕ)} {cases wrong : ℕ} → is_heading line ≡ false → Tallied Gives lines cases wrong → Tallied Gives (line ∷ lines) (suc cases) (suc wrong)
