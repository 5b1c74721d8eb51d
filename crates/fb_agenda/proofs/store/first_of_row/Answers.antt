use Rattle.std.proofs.Common.{refl, ap, arith}
use Rattle.fb_agenda.proofs.lemmas.Orders.{first_is}
use Rattle.fb_agenda.proofs.store.first_of_row.Goals as goal

pub returns-clause-some : goal.returns-clause-some
returns-clause-some c =
    let facts = c.in_ok-key.ensures in
    first_is c.args.row.now.items _ c.in_ok-key.field-0.now c.requires (omega (arith, facts.variant.0 refl)) (ap (λ e. e.0) facts.lookup)
