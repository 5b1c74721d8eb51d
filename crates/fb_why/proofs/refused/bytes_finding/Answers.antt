use Rattle.fb_types.proofs.Common.{◌≡◌, Bor, List, ℕ, Option, None, subst, IfSome, option_map}
use Rattle.fb_why.specs.declared.place.PlacedFinding.{PlacedFinding}
use Rattle.fb_why.proofs.lemmas.TextRefusals.{deployment_found, stimuli_found}
use Rattle.fb_why.proofs.refused.bytes_finding.Goals as goal

pub returns-in-Some-clause-found : goal.returns-in-Some-clause-found
returns-in-Some-clause-found c =
    let plan = option_map (λ (b : Bor (List ℕ)). b.now) c.args.deploy in
    let rows = option_map (λ (b : Bor (List ℕ)). b.now) c.args.stimuli in
    deployment_found c.args.number plan rows c.in_ok-finding.field-0 c.in-Some.finding c.in-Some.is c.in_ok-finding.ensures.found

pub returns-in-Some-clause-elsewhere : goal.returns-in-Some-clause-elsewhere
returns-in-Some-clause-elsewhere c = subst (λ (o : Option PlacedFinding). IfSome o (λ r. r.place ≡ None)) c.in-Some.is c.in_ok-finding.ensures.elsewhere

pub returns-in-None-clause-found : goal.returns-in-None-clause-found
returns-in-None-clause-found c =
    let plan = option_map (λ (b : Bor (List ℕ)). b.now) c.args.deploy in
    let rows = option_map (λ (b : Bor (List ℕ)). b.now) c.args.stimuli in
    stimuli_found c.args.number plan rows c.in_ok-finding.field-0 c.stimuli_finding.result c.in-None.is c.in_ok-finding.ensures.found c.stimuli_finding.ensures.found

pub returns-in-None-clause-elsewhere : goal.returns-in-None-clause-elsewhere
returns-in-None-clause-elsewhere c = c.stimuli_finding.ensures.elsewhere
