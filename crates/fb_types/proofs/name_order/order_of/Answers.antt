use Rattle.fb_types.proofs.Common.{sym, ◌∙◌, ap, tied_itself}
use Rattle.fb_types.specs.NameOrder.{name_cmp, name_cmp_total}
use Rattle.fb_types.proofs.lemmas.names.NameNumbers.{is_the_name}
use Rattle.fb_types.proofs.name_order.order_of.Goals as goal

pub returns-then-short_number-ne0 : goal.returns-then-short_number-ne0
returns-then-short_number-ne0 c =
    let n = c.args.name.now in
    let one = is_the_name n c.args.other.now c.short_number.result c.short_number-2.result c.short_number.ensures c.short_number-2.ensures (λ none. c.if-short_number-ne0.true (c.short_number-3.ensures ∙ sym c.short_number.ensures ∙ none)) c.if-short_number.false in
    sym (tied_itself name_cmp_total n) ∙ ap (name_cmp n) one
