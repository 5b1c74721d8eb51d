use Rattle.fb_types.specs.Headline.{system_of}
use Rattle.fb_inspect.proofs.lemmas.lines.OneLine.{line_once_by}
use Rattle.fb_inspect.proofs.lemmas.lines.OnePort.{one_port}
use Rattle.fb_inspect.proofs.laws.lines_are_determined.Goals as goal

pub returns : goal.returns
returns c = λ i accepted names. line_once_by (system_of i) names (one_port i accepted names)
