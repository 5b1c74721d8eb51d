use Rattle.std.proofs.Common.{sym, ap, ◌∙◌}
use Rattle.fb_check_names.specs.declared.location.Side.{Side}
use Rattle.fb_check_names.specs.declared.location.UnknownName.TheVariants as unknown
use Rattle.fb_why.specs.InputPlaces.{unknown_position}
use Rattle.fb_why.proofs.input_place.unknown_position.Goals as goal

pub returns-in-From : goal.returns-in-From
returns-in-From c = sym (ap unknown_position (c.in-LinkEnd.is ∙ ap (λ (s : Side). unknown.LinkEnd c.in-LinkEnd.link s) c.in-From.is))

pub returns-in-To : goal.returns-in-To
returns-in-To c = sym (ap unknown_position (c.in-LinkEnd.is ∙ ap (λ (s : Side). unknown.LinkEnd c.in-LinkEnd.link s) c.in-To.is))
