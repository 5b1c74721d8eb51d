use Rattle.fb_read_positions.specs.Spans.{DeclaresNothing}
use Rattle.fb_read_positions.proofs.lemmas.TokensLeft.{where_none}
use Rattle.fb_read_positions.proofs.position_places.places_of.Goals as goal

pub no_places-requires : goal.no_places-requires
no_places-requires c = where_none (DeclaresNothing c.args.declaration.now) (λ _. Unit {0}) _ c.in_default.is c.in_ok-tokens.ensures.none

pub returns-in_default : goal.returns-in_default
returns-in_default c = c.no_places.ensures c.args.library.now
