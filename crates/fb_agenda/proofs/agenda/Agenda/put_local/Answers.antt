use Rattle.fb_agenda.proofs.lemmas.Common.{◌≡◌, None, ap, refl, subst, OnOk, lookup, local_key, same_key, Key, IsPut, contents_of}
use Rattle.fb_types.specs.declared.run.Event.TheVariants.{Local}
use Rattle.fb_agenda.proofs.lemmas.Queueing.{put_now_apart, put_now_waits}
use Rattle.fb_agenda.proofs.agenda.Agenda.put_local.Goals as goal

-- ---- At the end of the queue

pub invariant_of-self : goal.invariant_of-self
invariant_of-self c =
    let v = contents_of c.self.inside in
    let k = local_key c.args.tick c.args.resource c.args.number in
    let alone : lookup (same_key k) v.later ≡ None = c.if-not-has_local.ensures k refl in
    put_now_apart c.self.inside.now c.push.new.self v.later v.due k c.args.target c.self.invariant refl c.if-follows.ensures.follows alone c.push.result c.push.ensures.ok c.push.ensures.err

pub returns-then-follows-clause-put : goal.returns-then-follows-clause-put
returns-then-follows-clause-put c =
    let v = contents_of c.self.inside in
    let k = local_key c.args.tick c.args.resource c.args.number in
    let alone : lookup (same_key k) v.later ≡ None = c.if-not-has_local.ensures k refl in
    rw (← c.self.view_is)
    (put_now_waits c.self.inside.now c.push.new.self v.later v.due k c.args.target c.self.invariant refl c.if-follows.ensures.follows alone c.push.result c.push.ensures.ok)

-- ---- Outside the queue

pub put_local_aside-requires : goal.put_local_aside-requires
put_local_aside-requires c = ap (λ (k : Key). k.class) c.local.ensures

pub returns-else-not-has_local-clause-put : goal.returns-else-not-has_local-clause-put
returns-else-not-has_local-clause-put c =
    subst (λ (k : Key). OnOk c.put_local_aside.result (IsPut c.args.self.now c.put_local_aside.new.self k (Local c.args.target))) c.local.ensures c.put_local_aside.ensures.put
