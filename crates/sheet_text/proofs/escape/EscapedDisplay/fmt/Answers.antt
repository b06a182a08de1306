use Rattle.std.proofs.Common.{◌≡◌, ℕ, ◌+◌, ◌<◌, List, [], ◌++◌, length, get_or, take, sym, ap, ◌∙◌, append_assoc, append-nil, true, refl}
use Rattle.std.proofs.Output.{has_written_append, has_written_of_eq}
use Rattle.std.proofs.lemmas.Fmt.{contents_after_writes}
use Rattle.std.proofs.lemmas.List.{take_more, flat_map_more, take_all}
use Rattle.arrayvec.specs.ArrayString.{ArrayString}
use Rattle.sheet_text.specs.Escaping.{escape_byte, escape}
use Rattle.sheet_text.proofs.escape.EscapedDisplay.fmt.Goals as goal
use Rattle.sheet_text.proofs.escape.EscapedDisplay.fmt.Goals.{then-remaining_capacity-lt4+in_ok-write_str, else-remaining_capacity-lt4}

-- one byte more, in the part that is not written yet
one_more : (done part bytes : List ℕ) (i : ℕ) → i < length bytes → done ++ part ≡ escape (take i bytes) → done ++ (part ++ escape_byte (get_or bytes i 0)) ≡ escape (take (i + 1) bytes)
one_more done part bytes i inside so_far =
    let byte = get_or bytes i 0 in
    rw (take_more bytes i 0 inside) (sym (append_assoc done part (escape_byte byte)) ∙ ap (λ t. t ++ escape_byte byte) so_far ∙ flat_map_more escape_byte [] (take i bytes) byte)

pub returns-clause-writes : goal.returns-clause-writes
returns-clause-writes g c = λ plain ok.
    let so_far = c.loop-byte.invariant plain in
    let bytes = c.args.self.now.0.now in
    has_written_of_eq _ _ _ _ _ (rw c.as_str-2.ensures.value (so_far.2 ∙ ap escape (take_all _ bytes c.loop-byte-test.false))) (has_written_append _ _ _ _ _ _ so_far.1 (c.write_str-2.ensures.writes so_far.1.plain ok))

pub loop-byte-preserved : goal.loop-byte-preserved
loop-byte-preserved g c = λ plain.
    let so_far = c.loop-byte.invariant plain in
    let bytes = c.args.self.now.0.now in
    let here = c.loop-byte.byte-index in
    let put = contents_after_writes _ (λ (s : ArrayString). s.bytes) (λ s text t appends. appends) _ _ _ c.in_ok-write.ensures.writes in
    elim c.if-remaining_capacity-lt4.branch [
      | then-remaining_capacity-lt4+in_ok-write_str w ↦
          let text = rw w.as_str.ensures.value at (w.in_ok-write_str.ensures.writes so_far.1.plain (refl {a = true})) in (
            so_far.0 ++ c.loop-byte.part.bytes,
            rw w.f-is (has_written_append _ _ _ _ _ _ so_far.1 text),
            rw (put, w.part-is, w.clear.ensures) (one_more _ [] bytes here c.loop-byte-test.true (append-nil _ ∙ so_far.2)),
          )
      | else-remaining_capacity-lt4 w ↦ (
        so_far.0,
        rw w.f-is so_far.1,
        rw (put, w.part-is) (one_more _ _ bytes here c.loop-byte-test.true so_far.2),
      )
    ]
