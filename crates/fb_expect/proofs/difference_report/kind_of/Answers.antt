use Rattle.std.proofs.Common.{◌≡◌, length, rules}
use Rattle.fb_expect.proofs.lemmas.traces.Differing.{other-line}
use Rattle.fb_expect.proofs.difference_report.kind_of.Goals as goal

pub returns-in-None-entry_in : goal.returns-in-None-entry_in
returns-in-None-entry_in c =
    let some : length c.args.line.now ≡ 0 → ⊥ = search rules in
    other-line c.args.line.now some c.in-None.ensures.only c.in-None-entry_in.ensures.none
