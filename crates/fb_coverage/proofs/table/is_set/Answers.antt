use Rattle.fb_types.proofs.Common.{Bool, Option, false, length, refl, sym, ap, unwrap_or, slice_get_past, slice_get_read}
use Rattle.fb_coverage.proofs.table.is_set.Goals as goal

pub returns-in-Some : goal.returns-in-Some
returns-in-Some c =
    let flags = c.args.flags.now in
    let found = c.in-Some.ensures.lookup in
    sym (ap (λ (o : Option Bool). unwrap_or o false) (slice_get_read flags (length flags) c.args.index c.in-Some.flag.now refl found.3.0 found.1))

pub returns-in-None : goal.returns-in-None
returns-in-None c = sym (ap (λ (o : Option Bool). unwrap_or o false) (slice_get_past c.args.flags.now c.args.index c.in-None.ensures.lookup.3))
