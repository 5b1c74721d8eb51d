use Rattle.fbsim_command.proofs.lemmas.Common.{inl, inr, subst, Declares, Given, given_of}
use Rattle.fb_types.proofs.Common.{MatchOption}
use Rattle.fbsim_command.specs.Expecting.{AreKnown}
use Rattle.fbsim_command.specs.Outcomes.{HasRefusal}
use Rattle.fbsim_command.proofs.lemmas.notes.Noting.{found-map, none-of, some-of}
use Rattle.fbsim_command.proofs.rules_notes.unknown_of.Goals as goal

pub returns-in_default : goal.returns-in_default
returns-in_default c =
    let given = given_of c.args.texts.now in
    let o = c.in_ok-system.field-0 in
    inl (none-of (HasRefusal given) (Declares given) o c.in_default.is (subst (λ (g : Given). MatchOption o (HasRefusal g) (Declares g)) c.inputs.ensures c.in_ok-system.ensures))

pub returns : goal.returns
returns c =
    let given = given_of c.args.texts.now in
    let o = c.in_ok-system.field-0 in
    let i = c.in-Some.system in
    let declared = some-of (HasRefusal given) (Declares given) o i c.in-Some.is (subst (λ (g : Given). MatchOption o (HasRefusal g) (Declares g)) c.inputs.ensures c.in_ok-system.ensures) in
    found-map _ (AreKnown given c.args.rules.now) _ _ c.why_unknown-found.result c.why_unknown-found.ensures (λ known. inr (i, declared, known)) (λ p unknown. (i, declared, unknown))
