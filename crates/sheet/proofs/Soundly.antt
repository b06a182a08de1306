-- The graph of any bytes is sound.
use Rattle.std.proofs.Common.{◌≡◌, ℕ, zero, suc, ◌+◌, eqb, ltb, List, length, get_or, drop, Ok, subst}
use Rattle.std.specs.List.{AllByRecursion}
use Rattle.std.proofs.lemmas.Bool.{cond_both}
use Rattle.graph.specs.declared.fault.Layer.TheVariants as layer
use Rattle.graph.specs.Graphs.{Graph}
use Rattle.graph.specs.Opening.{or_only_default}
use Rattle.graph.specs.Soundness.{Sound}
use Rattle.graph.proofs.Soundly.{FormedContent, FormedRecord, formed_either, formed_name, formed_module, sound_unless}
use Rattle.graph.proofs.Soundly as records
use Rattle.sheet.specs.Fields.{next_at, payload_at, field_at, content}
use Rattle.sheet.specs.Opening.{fields_from, fields_at, too_long, opened, graph_of}

formed_content : (tag : ℕ) (payload : List ℕ) → FormedContent (content tag payload)
formed_content tag payload =
    formed_either (eqb tag 1) _ _ (formed_name payload)
    (formed_either (eqb tag 2) _ _ (formed_module (get_or payload 0 0) (drop 1 payload))
    (formed_either (eqb tag 3) _ _ (formed_either (eqb (length payload) 2) _ _ tt tt)
    (formed_either (eqb tag 4) _ _ (formed_either (eqb (length payload) 6) _ _ tt tt)
    (formed_either (eqb tag 5) _ _ (formed_either (eqb (length payload) 4) _ _ tt tt) tt))))

pub formed_at : (bytes : List ℕ) (p : ℕ) → FormedContent (field_at bytes p)
formed_at bytes p = formed_either (ltb (length bytes) (p + 3)) _ _ tt (formed_either (ltb (length bytes) (next_at bytes p)) _ _ tt (formed_content (get_or bytes p 0) (payload_at bytes p)))

formed_all : (steps : ℕ) (bytes : List ℕ) (p : ℕ) → AllByRecursion FormedRecord (fields_from steps bytes p)
formed_all zero bytes p = tt
formed_all (suc steps) bytes p = cond_both (ltb p (length bytes)) _ _ (AllByRecursion FormedRecord) (λ _. (formed_at bytes p, formed_all steps bytes (next_at bytes p))) (λ _. tt)

pub graph_sound : (bytes : List ℕ) → Sound (graph_of bytes)
graph_sound bytes = sound_unless layer.Sheet (too_long bytes) _ (λ _. records.opened_sound layer.Sheet (length bytes) (fields_at bytes 0) (formed_all (length bytes) bytes 0))

-- so is every graph that opens
pub opened_sound : (bytes : List ℕ) (g : Graph) → opened bytes ≡ Ok g → Sound g
opened_sound bytes g e = subst (λ r. Sound (or_only_default r)) e (graph_sound bytes)
