use Rattle.std.proofs.Common.{length}
use Rattle.fb_why.proofs.lemmas.TextReadings.{ends-last, some-tokens}
use Rattle.fb_why.proofs.find.end_of_last.Goals as goal

pub returns-in-Ok : goal.returns-in-Ok
returns-in-Ok c =
    let some = some-tokens (length c.args.tokens.now) c.is_empty.result c.is_empty.ensures c.if-is_empty.false in
    ends-last c.args.text.now c.args.tokens.now c.in-Ok.span.start c.in-Ok.span.end c.requires some c.in-Ok.ensures
