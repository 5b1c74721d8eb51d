use Rattle.fb_types.proofs.Common.{Option, Name, sym, ◌∙◌, subst, false≢true}
use Rattle.fb_read_positions.specs.Resumed.{IsStop, Refuses}
use Rattle.fb_read_positions.specs.Spans.{IsNamed}
use Rattle.fb_read_positions.specs.Walks.{to_position}
use Rattle.fb_read_positions.proofs.lemmas.OneReading.{named_there, not_named, nowhere}
use Rattle.fb_read_positions.proofs.lemmas.TokensLeft.{where_none, where_some}
use Rattle.fb_read_positions.proofs.find.span_from.Goals as goal

pub returns-in_default-clause-found : goal.returns-in_default-clause-found
returns-in_default-clause-found c =
    let w = to_position c.args.position in
    let ps = c.args.tokens.now in
    nowhere c.args.text.now c.args.library.now c.args.position ps c.requires.located (where_none (Refuses w ps) (IsStop ps w) _ c.in_default.is c.in_ok-stop.ensures)

pub returns-then-is_there-clause-found : goal.returns-then-is_there-clause-found
returns-then-is_there-clause-found c =
    let w = to_position c.args.position in
    let ps = c.args.tokens.now in
    let stop = c.in-Some.stop in
    let ends : IsStop ps w stop = where_some (Refuses w ps) (IsStop ps w) _ stop c.in-Some.is c.in_ok-stop.ensures in
    let span = c.in_ok-span.span in
    named_there c.args.text.now c.args.library.now c.args.position ps c.requires.located stop.left span ends.at c.in_ok-span.ensures
    (subst (λ (o : Option Name). IsNamed c.args.text.now o span) c.name_at.ensures (c.in_ok-is_there.ensures.0 c.if-is_there.true))

pub returns-else-is_there-clause-found : goal.returns-else-is_there-clause-found
returns-else-is_there-clause-found c =
    let w = to_position c.args.position in
    let ps = c.args.tokens.now in
    let stop = c.in-Some.stop in
    let ends : IsStop ps w stop = where_some (Refuses w ps) (IsStop ps w) _ stop c.in-Some.is c.in_ok-stop.ensures in
    let span = c.in_ok-span.span in
    not_named c.args.text.now c.args.library.now c.args.position ps c.requires.located stop.left span ends.at c.in_ok-span.ensures
    (λ named. false≢true (sym c.if-is_there.false ∙ c.in_ok-is_there.ensures.1 (subst (λ (o : Option Name). IsNamed c.args.text.now o span) (sym c.name_at.ensures) named)))
