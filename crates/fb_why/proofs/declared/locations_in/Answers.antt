use Rattle.fb_types.proofs.Common.{rules, ◌≡◌, arith, common_steps, inputs}
use Rattle.std.proofs.lemmas.Option.{MatchOption-at_some, MatchOption-at_none}
use Rattle.fb_types.specs.Accepted.{IsAccepted}
use Rattle.fb_check.specs.Faults.{number_of}
use Rattle.fb_check.specs.Refusals.{IsRefusal}
use Rattle.fb_why.proofs.lemmas.CheckedLocations.{accepted_answer, other_answer, refused_answer}
use Rattle.fb_why.proofs.declared.locations_in.Goals as goal

pub returns : goal.returns
returns c =
    let lib = c.args.case.now.library.now in
    let plan = c.args.case.now.plan.now in
    let stimuli = c.args.case.now.stimuli.now in
    let same : number_of c.in-Some.refusal.fault ≡ number_of c.args.fault = first_of (search rules, grind (arith, common_steps)) in
    refused_answer c.args.fault lib plan stimuli c.in-Some.refusal c.into_locations.result.items c.reported.result
    (MatchOption-at_some (IsAccepted lib plan stimuli) (IsRefusal (inputs lib plan stimuli)) c.in-Some.refusal c.in-Some.is c.in_ok-refusal.ensures) same c.into_locations.ensures c.reported.ensures

-- they are refused for another fault
pub returns-then-number : goal.returns-then-number
returns-then-number c =
    let lib = c.args.case.now.library.now in
    let plan = c.args.case.now.plan.now in
    let stimuli = c.args.case.now.stimuli.now in
    other_answer c.args.fault lib plan stimuli c.in-Some.refusal c.before.new-then-number.result.items
    (MatchOption-at_some (IsAccepted lib plan stimuli) (IsRefusal (inputs lib plan stimuli)) c.in-Some.refusal c.in-Some.is c.in_ok-refusal.ensures) (λ e. absurd (search rules)) c.before.new-then-number.ensures.items

-- they are accepted
pub returns-in_default : goal.returns-in_default
returns-in_default c =
    let lib = c.args.case.now.library.now in
    let plan = c.args.case.now.plan.now in
    let stimuli = c.args.case.now.stimuli.now in
    accepted_answer c.args.fault lib plan stimuli c.new.result.items
    (MatchOption-at_none (IsAccepted lib plan stimuli) (IsRefusal (inputs lib plan stimuli)) c.in_default.is c.in_ok-refusal.ensures) c.new.ensures.items
