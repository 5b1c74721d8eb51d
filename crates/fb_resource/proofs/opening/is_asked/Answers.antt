use Rattle.std.proofs.Common.{ap, sym}
use Rattle.fb_resource.specs.Openings.{is_of}
use Rattle.fb_resource.proofs.opening.is_asked.Goals as goal

pub returns-in-Some : goal.returns-in-Some
returns-in-Some c = sym (ap (λ o. is_of o c.args.resource) c.in-Some.is)
