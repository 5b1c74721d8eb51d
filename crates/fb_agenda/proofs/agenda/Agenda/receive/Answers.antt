use Rattle.fb_agenda.proofs.lemmas.Common.{◌≡◌, false, Result, Ok, Err, sym, ◌∙◌, OnOk, HasKeys, KeepsOthers, LacksKeys, arrivals_at, contents_of}
use Rattle.fb_types.proofs.Common.{true≢false}
use Rattle.std.proofs.Common.{is_err}
use Rattle.fb_agenda.proofs.lemmas.MessagesPut.{filled_keeps, filled_waits, freed_keeps, freed_waits, kept_apart}
use Rattle.fb_agenda.proofs.agenda.Agenda.receive.Goals as goal

pub invariant_of-self : goal.invariant_of-self
invariant_of-self c =
    let v = contents_of c.self.inside in
    let r = c.args.receiver in
    let ms = c.args.messages.items in
    let held = c.reserve_keys.new.later.events in
    let new = c.release_keys.new.later.events in
    let kept : KeepsOthers (arrivals_at r ms) v.later held = rw c.deref.ensures.value at c.reserve_keys.ensures.kept in
    let left : KeepsOthers (arrivals_at r ms) held new = rw c.deref-then-is_err.ensures.value at c.release_keys.ensures.kept in
    kept_apart r ms v c.self.invariant new c.release_keys.new.later.due (freed_keeps r ms v c.self.invariant held new kept left)

pub returns-then-is_err-clause-err : goal.returns-then-is_err-clause-err
returns-then-is_err-clause-err c =
    let v = contents_of c.self.inside in
    let r = c.args.receiver in
    let ms = c.args.messages.items in
    let held = c.reserve_keys.new.later.events in
    let new = c.release_keys.new.later.events in
    let kept : KeepsOthers (arrivals_at r ms) v.later held = rw c.deref.ensures.value at c.reserve_keys.ensures.kept in
    let left : KeepsOthers (arrivals_at r ms) held new = rw c.deref-then-is_err.ensures.value at c.release_keys.ensures.kept in
    let freed : LacksKeys (arrivals_at r ms) new = rw c.deref-then-is_err.ensures.value at c.release_keys.ensures.freed in
    rw (← c.self.view_is) (λ are_new. freed_waits r ms v c.self.invariant are_new new (freed_keeps r ms v c.self.invariant held new kept left) freed)

pub invariant_of-self-2 : goal.invariant_of-self-2
invariant_of-self-2 c =
    let v = contents_of c.self.inside in
    let r = c.args.receiver in
    let ms = c.args.messages.items in
    let held = c.reserve_keys.new.later.events in
    let new = c.fill_keys.new.later.events in
    let kept : KeepsOthers (arrivals_at r ms) v.later held = rw c.deref.ensures.value at c.reserve_keys.ensures.kept in
    kept_apart r ms v c.self.invariant new c.fill_keys.new.later.due (filled_keeps r ms v c.self.invariant held new kept c.fill_keys.ensures.filled)

pub returns-clause-put : goal.returns-clause-put
returns-clause-put c =
    let v = contents_of c.self.inside in
    let r = c.args.receiver in
    let ms = c.args.messages.items in
    let held = c.reserve_keys.new.later.events in
    let new = c.fill_keys.new.later.events in
    let kept : KeepsOthers (arrivals_at r ms) v.later held = rw c.deref.ensures.value at c.reserve_keys.ensures.kept in
    rw (← c.self.view_is) (filled_waits r ms v c.self.invariant held new kept c.fill_keys.ensures.filled)

-- what holds of a result that is no error
when_ok : {T E P : Type 0} (r : Result T E) → OnOk r P → is_err r ≡ false → P
when_ok (Ok x) holds none = holds
when_ok (Err e) holds none = absurd (true≢false none)

pub fill_keys-requires : goal.fill_keys-requires
fill_keys-requires c =
    let held : HasKeys (arrivals_at c.args.receiver c.deref.result.now) c.reserve_keys.new.later.events =
    when_ok c.reserve_keys.result c.reserve_keys.ensures.held (sym c.is_err.ensures.value ∙ c.if-is_err.false) in
    rw c.deref.ensures.value at held
