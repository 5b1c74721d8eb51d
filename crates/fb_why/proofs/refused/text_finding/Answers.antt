use Rattle.fb_types.proofs.Common.{rules, ◌≡◌, inl, arith, common_steps}
use Rattle.fb_types.specs.declared.library.Library.{Library}
use Rattle.std.proofs.lemmas.Option.{MatchOption-at_some, MatchOption-at_none}
use Rattle.fb_read.specs.Errors.{fault_number}
use Rattle.fb_read.specs.Whole.{IsLibraryText}
use Rattle.fb_why.specs.Faults.{IsTextRefusal}
use Rattle.fb_why.proofs.lemmas.TextRefusals.{text_found, text_placed, text_unfound}
use Rattle.fb_why.proofs.refused.text_finding.Goals as goal

pub returns-clause-found : goal.returns-clause-found
returns-clause-found c =
    let text = c.args.declaration.now in
    let is = MatchOption-at_some ((library : Library) × IsLibraryText text library) (IsTextRefusal text) c.in-Some.refused c.in-Some.is c.in_ok-refused.ensures in
    let same : fault_number c.in-Some.refused.refusal.fault ≡ c.args.number = first_of (search rules, grind (arith, common_steps)) in
    text_found c.args.number text c.in-Some.refused c.found.result is same c.found.ensures

pub returns-clause-placed : goal.returns-clause-placed
returns-clause-placed c = text_placed c.args.declaration.now c.in-Some.refused.place c.found.result c.found.ensures

-- the text declares a library
pub returns-in_default-clause-found : goal.returns-in_default-clause-found
returns-in_default-clause-found c =
    let text = c.args.declaration.now in
    inl (MatchOption-at_none ((library : Library) × IsLibraryText text library) (IsTextRefusal text) c.in_default.is c.in_ok-refused.ensures)

-- its refusal has another number
pub returns-then-number-clause-found : goal.returns-then-number-clause-found
returns-then-number-clause-found c =
    let text = c.args.declaration.now in
    let is = MatchOption-at_some ((library : Library) × IsLibraryText text library) (IsTextRefusal text) c.in-Some.refused c.in-Some.is c.in_ok-refused.ensures in
    text_unfound c.args.number text c.in-Some.refused is (λ e. absurd (search rules))
