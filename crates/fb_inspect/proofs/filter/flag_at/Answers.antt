use Rattle.fb_types.proofs.Common.{Bool, Option, ap, false, sym, unwrap_or, slice_get_past}
use Rattle.fb_inspect.proofs.lemmas.reactions.Placed.{item_is}
use Rattle.fb_inspect.proofs.filter.flag_at.Goals as goal

pub returns-in-Some : goal.returns-in-Some
returns-in-Some c =
    sym (ap (λ (o : Option Bool). unwrap_or o false) (item_is c.args.flags.now c.args.instance c.in-Some.flag.now c.in-Some.ensures.lookup.3.0 c.in-Some.ensures.lookup.1))

pub returns-in-None : goal.returns-in-None
returns-in-None c = sym (ap (λ (o : Option Bool). unwrap_or o false) (slice_get_past c.args.flags.now c.args.instance c.in-None.ensures.lookup.3))
