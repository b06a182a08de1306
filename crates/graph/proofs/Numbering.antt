-- Kinds and what imports want, by their numbers.
use Rattle.std.proofs.Common.{◌≡◌, ℕ, eqb, Some, refl}
use Rattle.std.proofs.lemmas.Bool.{cond_both, cond-false}
use Rattle.graph.specs.declared.records.Kind.{Kind}
use Rattle.graph.specs.declared.records.Kind.TheVariants.{Es, External, Empty}
use Rattle.graph.specs.declared.records.Wanted.TheVariants.{Name, Whole}
use Rattle.graph.specs.Rules.{kind_number, kind_numbered, wanted_number, wanted_numbered}

-- a kind is that of its number
pub kind_again : (k : Kind) → kind_numbered (kind_number k) ≡ Some k
kind_again Es = refl
kind_again External = refl
kind_again Empty = refl

-- what was numbered has its number
pub wanted_again : (n : ℕ) → wanted_numbered (wanted_number (wanted_numbered n)) ≡ wanted_numbered n
wanted_again n = cond_both (eqb n 65535) Whole (Name n) (λ w. wanted_numbered (wanted_number w) ≡ w) (λ _. refl) (λ t. cond-false (eqb n 65535) Whole (Name n) t)
