use Rattle.fb_types.proofs.Common.{Bor, List, None, ℕ, option_map}
use Rattle.fb_why.specs.Findings.{IsSilentOfBytes}
use Rattle.fb_why.specs.declared.cause.Cause.TheVariants as cause
use Rattle.fb_why.proofs.lemmas.FindingsOfNumbers.{by_cause, nothing_placed, numbered, once_found, once_placed}
use Rattle.fb_why.proofs.lemmas.PlacedFindings.{is_elsewhere}
use Rattle.fb_why.proofs.finding.findings_of.Goals as goal

pub returns-in_ok-text_finding-in-Text-clause-found : goal.returns-in_ok-text_finding-in-Text-clause-found
returns-in_ok-text_finding-in-Text-clause-found c =
    let plan = option_map (λ (b : Bor (List ℕ)). b.now) c.args.deploy in
    let rows = option_map (λ (b : Bor (List ℕ)). b.now) c.args.stimuli in
    numbered c.cause_of-cause.result c.args.number c.args.declaration.now plan rows c.one.result c.cause_of-cause.ensures
    (by_cause c.cause_of-cause.result cause.Text c.args.number c.args.declaration.now plan rows c.one.result c.in-Text.is
    (once_found cause.Text c.args.number c.args.declaration.now plan rows c.in_ok-text_finding-in-Text.field-0 c.one.result c.in_ok-text_finding-in-Text.ensures.found c.one.ensures.shown c.one.ensures.more))

pub returns-in_ok-text_finding-in-Text-clause-placed : goal.returns-in_ok-text_finding-in-Text-clause-placed
returns-in_ok-text_finding-in-Text-clause-placed c = once_placed c.args.declaration.now c.in_ok-text_finding-in-Text.field-0 c.one.result c.in_ok-text_finding-in-Text.ensures.placed c.one.ensures.shown

pub returns-in_ok-bytes_finding-in-Bytes-clause-found : goal.returns-in_ok-bytes_finding-in-Bytes-clause-found
returns-in_ok-bytes_finding-in-Bytes-clause-found c =
    let plan = option_map (λ (b : Bor (List ℕ)). b.now) c.args.deploy in
    let rows = option_map (λ (b : Bor (List ℕ)). b.now) c.args.stimuli in
    numbered c.cause_of-cause.result c.args.number c.args.declaration.now plan rows c.one-in-Bytes.result c.cause_of-cause.ensures
    (by_cause c.cause_of-cause.result cause.Bytes c.args.number c.args.declaration.now plan rows c.one-in-Bytes.result c.in-Bytes.is
    (once_found cause.Bytes c.args.number c.args.declaration.now plan rows c.in_ok-bytes_finding-in-Bytes.field-0 c.one-in-Bytes.result c.in_ok-bytes_finding-in-Bytes.ensures.found c.one-in-Bytes.ensures.shown
    c.one-in-Bytes.ensures.more))

pub returns-in_ok-bytes_finding-in-Bytes-clause-placed : goal.returns-in_ok-bytes_finding-in-Bytes-clause-placed
returns-in_ok-bytes_finding-in-Bytes-clause-placed c =
    let plan = option_map (λ (b : Bor (List ℕ)). b.now) c.args.deploy in
    let rows = option_map (λ (b : Bor (List ℕ)). b.now) c.args.stimuli in
    let made = c.in_ok-bytes_finding-in-Bytes in
    once_placed c.args.declaration.now made.field-0 c.one-in-Bytes.result
    (is_elsewhere c.args.number c.args.declaration.now plan rows (IsSilentOfBytes c.args.number plan rows) made.field-0 made.ensures.elsewhere made.ensures.found) c.one-in-Bytes.ensures.shown

pub returns-in-Check-clause-found : goal.returns-in-Check-clause-found
returns-in-Check-clause-found c =
    let plan = option_map (λ (b : Bor (List ℕ)). b.now) c.args.deploy in
    let rows = option_map (λ (b : Bor (List ℕ)). b.now) c.args.stimuli in
    numbered c.cause_of-cause.result c.args.number c.args.declaration.now plan rows c.flaw_findings.result c.cause_of-cause.ensures
    (by_cause c.cause_of-cause.result (cause.Check c.in-Check.flaw) c.args.number c.args.declaration.now plan rows c.flaw_findings.result c.in-Check.is c.flaw_findings.ensures.found)

pub returns-in-Other-clause-found : goal.returns-in-Other-clause-found
returns-in-Other-clause-found c =
    let plan = option_map (λ (b : Bor (List ℕ)). b.now) c.args.deploy in
    let rows = option_map (λ (b : Bor (List ℕ)). b.now) c.args.stimuli in
    numbered c.cause_of-cause.result c.args.number c.args.declaration.now plan rows c.one-in-Other.result c.cause_of-cause.ensures
    (by_cause c.cause_of-cause.result cause.Other c.args.number c.args.declaration.now plan rows c.one-in-Other.result c.in-Other.is
    (once_found cause.Other c.args.number c.args.declaration.now plan rows None c.one-in-Other.result tt c.one-in-Other.ensures.shown c.one-in-Other.ensures.more))

pub returns-in-Other-clause-placed : goal.returns-in-Other-clause-placed
returns-in-Other-clause-placed c = nothing_placed c.args.declaration.now c.one-in-Other.result c.one-in-Other.ensures.shown
