use Rattle.fb_types.proofs.Common.{◌∙◌, ℕ, Bor, List, ap, length, nat_lt, sym, length-map}
use Rattle.fbsim_command.specs.Joining.{counts}
use Rattle.fbsim_command.specs.WarningLines.{is_of_types, naming_of}
use Rattle.fbsim_command.proofs.lemmas.LeftOut.{in-types}
use Rattle.fbsim_command.proofs.warning_lines.is_of_types.Goals as goal

pub returns-in-Some : goal.returns-in-Some
returns-in-Some c =
    let n = naming_of c.args.naming.now in
    let there = c.in-Some.there in
    ap (λ (k : ℕ). nat_lt there.file k) (sym (length-map c.args.naming.now.types.now (λ (t : Bor (List ℕ)). t.now)))
    ∙ in-types (counts c.args.naming.now.lines.now) (length n.types) c.in-UnusedType-Some.at.line there.file there.line c.in-Some.ensures.found
    ∙ (λ i. is_of_types n ((sym c.in-UnusedType-Some.is-0) i) ((sym c.in-UnusedType-Some.is-1) i))
