use Rattle.fb_read.specs.Tokens.{after_mark}
use Rattle.fb_read.proofs.lemmas.rules.NextLaws.{located-left, span-left}
use Rattle.fb_read.proofs.read.span_before.Goals as goal

pub span_at-requires : goal.span_at-requires
span_at-requires c = located-left c.args.text.now c.saturating_sub-index.result c.args.tokens.now (after_mark c.args.text.now) c.requires

pub returns : goal.returns
returns c = span-left c.args.text.now c.args.tokens.now c.saturating_sub-index.result _ c.span_at.result c.saturating_sub-index.ensures c.span_at.ensures
