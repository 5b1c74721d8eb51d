use Rattle.fb_types.proofs.Common.{◌≡◌, None, ap, lookup, nil_from_length, same_key}
use Rattle.fb_agenda.proofs.lemmas.Lists.{put_absent, put_both, put_split}
use Rattle.fb_agenda.proofs.store.Store.put.Goals as goal

pub invariant_of-self : goal.invariant_of-self
invariant_of-self c =
    let few = c.self.inside.row.items in
    let many = c.self.inside.map.entries in
    let none : lookup (same_key c.args.key) many ≡ None = ap (lookup (same_key c.args.key)) (nil_from_length many (c.is_empty.ensures.0 c.if-is_empty.true)) in
    let r = c.put_in_row.result in
    let new = c.put_in_row.new.row.items in
    put_split few many c.self.invariant c.args.key c.args.event r new none c.put_in_row.ensures.ok c.put_in_row.ensures.err

pub returns-then-fits_in-clause-put : goal.returns-then-fits_in-clause-put
returns-then-fits_in-clause-put c =
    let few = c.self.inside.row.items in
    let many = c.self.inside.map.entries in
    let none : lookup (same_key c.args.key) many ≡ None = ap (lookup (same_key c.args.key)) (nil_from_length many (c.is_empty.ensures.0 c.if-is_empty.true)) in
    rw (← c.self.view_is) (put_both few many c.self.invariant c.args.key c.args.event c.put_in_row.result c.put_in_row.new.row.items none c.put_in_row.ensures.ok)

pub returns-then-fits_in-clause-absent : goal.returns-then-fits_in-clause-absent
returns-then-fits_in-clause-absent c =
    let few = c.self.inside.row.items in
    let many = c.self.inside.map.entries in
    let none : lookup (same_key c.args.key) many ≡ None = ap (lookup (same_key c.args.key)) (nil_from_length many (c.is_empty.ensures.0 c.if-is_empty.true)) in
    rw (← c.self.view_is) (put_absent few many c.self.invariant c.args.key c.args.event c.put_in_row.result c.put_in_row.new.row.items none c.put_in_row.ensures.absent)
