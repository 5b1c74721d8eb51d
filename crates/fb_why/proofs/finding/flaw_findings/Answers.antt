use Rattle.fb_types.proofs.Common.{Bor, List, ℕ, inl, rules, option_map}
use Rattle.fb_why.proofs.lemmas.FindingsOfNumbers.{nothing_placed, unread_inputs}
use Rattle.fb_why.proofs.finding.flaw_findings.Goals as goal

pub returns-in-Err-clause-found : goal.returns-in-Err-clause-found
returns-in-Err-clause-found c =
    unread_inputs c.args.flaw c.args.declaration.now (option_map (λ (b : Bor (List ℕ)). b.now) c.args.deploy) (option_map (λ (b : Bor (List ℕ)). b.now) c.args.stimuli) c.one.result c.one.ensures.shown
    c.one.ensures.more (inl (c.in-Err.ensures.none (search rules)))

pub returns-in-Err-clause-placed : goal.returns-in-Err-clause-placed
returns-in-Err-clause-placed c = nothing_placed c.args.declaration.now c.one.result c.one.ensures.shown
