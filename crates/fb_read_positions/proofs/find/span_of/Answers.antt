use Rattle.fb_read_positions.specs.Spans.{DeclaresNothing}
use Rattle.fb_read_positions.proofs.lemmas.TokensLeft.{where_none}
use Rattle.fb_read_positions.proofs.find.span_of.Goals as goal

pub returns-in_default : goal.returns-in_default
returns-in_default c = λ declared span at.
    where_none (DeclaresNothing c.args.text.now) (λ _. Unit {0}) _ c.in_default.is c.in_ok-tokens.ensures.none c.args.library.now declared
