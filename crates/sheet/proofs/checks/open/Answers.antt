use Rattle.std.proofs.Common.{◌≡◌, Ok, Err, rules, MatchResult}
use Rattle.std.proofs.lemmas.Result.{MatchResult-weaker}
use Rattle.graph.specs.Graphs.{Graph}
use Rattle.sheet.specs.Opening.{fields_at, opened}
use Rattle.sheet.proofs.Soundly.{opened_sound}
use Rattle.sheet.proofs.Firstly.{first_from_opened}
use Rattle.sheet.proofs.checks.open.Goals as goal

pub returns-in_err-check_length : goal.returns-in_err-check_length
returns-in_err-check_length c = record { opens = search rules; first = first_from_opened c.args.bytes.now _ (search rules) }

pub returns-in_err-names : goal.returns-in_err-names
returns-in_err-names c = record { opens = search rules; first = first_from_opened c.args.bytes.now _ (search rules) }

pub returns-in_err-progress : goal.returns-in_err-progress
returns-in_err-progress c =
    let failed = c.in_err-progress.ensures (fields_at c.args.bytes.now 0) c.in_ok-names.ensures in
    record { opens = search (rules, failed); first = first_from_opened c.args.bytes.now _ (search (rules, failed)) }

pub returns : goal.returns
returns c =
    let passed = c.in_ok-progress.ensures (fields_at c.args.bytes.now 0) c.in_ok-names.ensures in
    let told : MatchResult c.finish.result (λ _. (g : Graph) × (opened c.args.bytes.now ≡ Ok g)) (λ f. opened c.args.bytes.now ≡ Err f) = search (rules, passed) in
    record {
      opens = MatchResult-weaker c.finish.result told (λ _ p. (p.0, p.1, opened_sound c.args.bytes.now p.0 p.1)) (λ _ e. e);
      first = first_from_opened c.args.bytes.now c.finish.result told;
    }
