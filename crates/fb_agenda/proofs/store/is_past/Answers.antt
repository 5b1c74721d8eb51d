use Rattle.fb_types.proofs.Common.{◌≡◌, ◌-◌, Bool, true, false, deque_len, refl, sym, ap, subst, ◌∙◌, arith, false≢true, OnTrue, is_lt, Ordering, Less, Equal, Greater, Precedes, key_cmp}
use Rattle.fb_agenda.proofs.lemmas.Orders.{all_before, all_before_none, less_is}
use Rattle.fb_agenda.proofs.store.is_past.Goals as goal

where_less : {P : Type 0} (b : Bool) (o : Ordering) → b ≡ is_lt o → (o ≡ Less → P) → OnTrue b P
where_less true Less e f = f refl
where_less true Equal e f = absurd cc
where_less true Greater e f = absurd cc
where_less false o e f = tt

-- the last key is the greatest of those that are there
pub returns-in-Some : goal.returns-in-Some
returns-in-Some c =
    let es = c.args.row.now.items in
    let last = c.in-Some.field-0.now in
    let facts = c.in-Some.ensures in
    where_less c.lt.result (key_cmp c.in-Some.last c.args.key.now) (c.lt.ensures ∙ less_is last.0 c.args.key.now ∙ ap (λ k. is_lt (key_cmp k c.args.key.now)) c.in-Some.last-is)
    (λ before. all_before c.args.key.now es (deque_len c.args.row.now - 1) last c.requires (omega (arith, facts.variant.0 refl))
    (subst (λ e. Precedes e.0 c.args.key.now) facts.lookup (subst (λ k. Precedes k c.args.key.now) (sym c.in-Some.last-is) before)))

pub returns-in-None : goal.returns-in-None
returns-in-None c =
    let facts = c.in-None.ensures in
    all_before_none c.args.key.now c.args.row.now.items (λ more. false≢true (facts.variant.1 (omega arith)))
