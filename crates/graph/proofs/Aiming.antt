-- Where star records aim.
use Rattle.std.proofs.Common.{◌≡◌, ℕ, zero, suc, cond, leb, List, [], ◌∷◌, length, Some, None, sym, refl, ap, ◌∙◌, arith}
use Rattle.std.proofs.lemmas.Bool.{le-leb, lt-leb}
use Rattle.std.proofs.lemmas.Bool.Decides.{nat_tests}
use Rattle.graph.specs.declared.fault.Reason.TheVariants.{NoRecord, WrongKind}
use Rattle.graph.specs.declared.records.Kind.{Kind}
use Rattle.graph.specs.declared.records.Kind.TheVariants as kind
use Rattle.graph.specs.Graphs.{Module}
use Rattle.graph.specs.Lookups.{kind_in}
use Rattle.graph.specs.Rules.{is_external, star_aim}

kind_aim : (k : Kind) → star_aim (Some k) ≡ cond (is_external (Some k)) (Some WrongKind) None
kind_aim kind.Es = refl
kind_aim kind.External = refl
kind_aim kind.Empty = refl

-- the kind of the target tells both last checks
pub star_aims : (ms : List Module) (t : ℕ) → star_aim (kind_in ms t) ≡ cond (leb (length ms) t) (Some NoRecord) (cond (is_external (kind_in ms t)) (Some WrongKind) None)
star_aims [] t = sym (ap (λ b. cond b (Some NoRecord) None) (le-leb 0 t (omega arith)))
star_aims (m ∷ ms) zero = kind_aim m.kind ∙ sym (ap (λ b. cond b (Some NoRecord) (cond (is_external (Some m.kind)) (Some WrongKind) None)) (lt-leb (suc (length ms)) 0 (omega arith)))
star_aims (m ∷ ms) (suc t) = star_aims ms t ∙ sym (ap (λ b. cond b (Some NoRecord) (cond (is_external (kind_in ms t)) (Some WrongKind) None)) (leb_suc (length ms) t))
  where
    leb_suc : (a b : ℕ) → leb (suc a) (suc b) ≡ leb a b
    leb_suc a b = grind (arith, nat_tests)
