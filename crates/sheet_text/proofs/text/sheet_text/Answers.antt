use Rattle.std.proofs.Common.{◌∙◌, append_assoc}
use Rattle.std.proofs.lemmas.Result.{IfOk-weaker}
use Rattle.sheet_text.proofs.text.sheet_text.Goals as goal

pub returns : goal.returns
returns c = IfOk-weaker c.format.result _ _ (λ t text. text ∙ simp (c.count_records-counts.ensures, append_assoc)) c.format.ensures.ok
