use Rattle.fb_types.proofs.Common.{◌∙◌, Bor, List, ap, map}
use Rattle.fb_types.specs.Names.{Name}
use Rattle.fbsim_command.proofs.lemmas.names.KnownNames.{both-said, now}
use Rattle.fbsim_command.proofs.selected_names.push_unknown.Goals as goal

pub returns : goal.returns
returns c =
    both-said c.push_lines-2.result c.args.library.now c.args.sorting.now (map now c.as_slice-names.result.now) c.as_slice.result.now c.as_slice-2.result.now c.args.lines.now.items c.push_lines.new.lines.items
    c.push_lines-2.new.lines.items _ (ap (λ (ns : List (Bor Name)). map now ns) c.as_slice-names.ensures.value ∙ c.in_ok-names.ensures) c.as_slice.ensures.value c.as_slice-2.ensures.value c.in_ok-push_lines.ensures
    c.push_lines-2.ensures
