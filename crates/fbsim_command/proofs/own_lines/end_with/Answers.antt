use Rattle.fbsim_command.proofs.lemmas.Common.{List, ℕ, map, subst, EndsIn}
use Rattle.fbsim_command.proofs.own_lines.end_with.Goals as goal
use Rattle.fbsim_command.specs.declared.join.FileLines.{FileLines}

pub returns : goal.returns
returns c =
    subst (λ (lines : List FileLines). EndsIn (map (λ t. t.now) c.args.types.now) c.args.own.now lines c.args.end c.end_in.result) c.as_slice.ensures.value c.end_in.ensures
