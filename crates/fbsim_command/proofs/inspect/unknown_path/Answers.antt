use Rattle.fbsim_command.proofs.lemmas.Common.{inl, inr, map, noted_of, refl, Declares}
use Rattle.fbsim_command.specs.Inspecting.{SaysPaths, SaysPathsOf}
use Rattle.fbsim_command.specs.Outcomes.{HasRefusal}
use Rattle.fbsim_command.proofs.lemmas.notes.Noting.{none-of, ok-map, some-of}
use Rattle.fbsim_command.proofs.inspect.unknown_path.Goals as goal

pub returns-in_default : goal.returns-in_default
returns-in_default c =
    inr (none-of (HasRefusal c.args.inputs.now) (Declares c.args.inputs.now) c.in_ok-system.field-0 c.in_default.is c.in_ok-system.ensures, refl)

pub returns : goal.returns
returns c =
    let given = c.args.inputs.now in
    let texts = map (λ t. t.now) c.args.texts.now in
    let declared = some-of (HasRefusal given) (Declares given) c.in_ok-system.field-0 c.in-Some.system c.in-Some.is c.in_ok-system.ensures in
    ok-map (SaysPaths c.in-Some.system texts) (SaysPathsOf given texts) (noted_of c.first_line-line.result) c.first_line-line.ensures (λ n said. inl (c.in-Some.system, declared, said))
