use Rattle.fbsim_command.proofs.lemmas.Common.{Bor, IfOk, List, None, Option, Some, ap, inl, inr, noted_of, option_map, refl, subst, sym, ℕ, Declares}
use Rattle.fbsim_command.specs.Drawing.{SaysType, SaysTypeOf}
use Rattle.fbsim_command.specs.Outcomes.{HasRefusal}
use Rattle.fbsim_command.proofs.lemmas.notes.Noting.{none-of, ok-map, some-of}
use Rattle.fbsim_command.proofs.draw.unknown_type.Goals.{in-None, in-Some-block_type}
use Rattle.fbsim_command.proofs.draw.unknown_type.Goals as goal

pub returns-in_default : goal.returns-in_default
returns-in_default c =
    inr (none-of (HasRefusal c.args.inputs.now) (Declares c.args.inputs.now) c.in_ok-system.field-0 c.in_default.is c.in_ok-system.ensures, refl)

abbrev text_of : Option (Bor (List ℕ)) → Option (List ℕ)
text_of o = option_map (λ t. t.now) o

pub returns : goal.returns
returns c =
    let given = c.args.inputs.now in
    let asked = text_of c.args.block_type in
    let i = c.in-Some.system in
    let declared = some-of (HasRefusal given) (Declares given) c.in_ok-system.field-0 i c.in-Some.is c.in_ok-system.ensures in
    elim c.match-block_type.branch [
      | in-Some-block_type w ↦
          rw w.line-is
          (ok-map (SaysType i asked) (SaysTypeOf given asked) (noted_of w.type_line-line.result)
          (subst (λ (a : Option (List ℕ)). IfOk (noted_of w.type_line-line.result) (SaysType i a)) (sym (ap text_of w.in-Some-block_type.is)) w.type_line-line.ensures) (λ n said. inl (i, declared, said)))
      | in-None w ↦ rw w.line-is (inl (i, declared, subst (λ (a : Option (List ℕ)). SaysType i a None) (sym (ap text_of w.in-None.is)) refl))
    ]
