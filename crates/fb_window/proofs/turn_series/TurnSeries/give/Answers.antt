use Rattle.fb_types.proofs.Common.{rules, ◌≡◌, ◌<◌, ◌++◌, All, List, [], ◌∷◌, Some, length, refl, sym, ap, subst, ◌∙◌, append_assoc, append-nil, arith, slice_get, into_iter_items, slice_get_read, Inputs, system_of, path_at}
use Rattle.fb_types.specs.declared.run.Message.{Message}
use Rattle.fb_types.proofs.lemmas.lists.ByIndex.{all_at}
use Rattle.fb_laws.proofs.lemmas.soundness.Accepting.{sound_of}
use Rattle.fb_link.proofs.lemmas.Lists.{next_of}
use Rattle.fb_window.specs.Mails.{AreGiven}
use Rattle.fb_window.specs.Noting.{IsHanded}
use Rattle.fb_window.specs.Turning.{HasGiven, HasHanded}
use Rattle.fb_window.proofs.lemmas.bounds.NextTicks.{given_handed, given_only, on_ok, only_of}
use Rattle.fb_window.proofs.lemmas.messages.Receives.{given_none}
use Rattle.fb_window.proofs.lemmas.turns.Turned.{same_then}
use Rattle.fb_window.proofs.turn_series.TurnSeries.give.Goals as goal
use Rattle.fb_window.proofs.turn_series.TurnSeries.give.Goals.{After-index}

-- ---- One message alone

one_of : (c : After-index) → length c.args.sent.items ≡ 1
one_of c =
    let a = c.len.ensures in
    let b = c.args.sent.ok.0 in
    let e = c.if-len-eq1.true in
    omega arith

first_of : (c : After-index) → slice_get c.args.sent.items 0 ≡ Some c.index.result.now
first_of c = let one = one_of c in slice_get_read c.args.sent.items (length c.args.sent.items) 0 c.index.result.now refl (omega arith) c.index.ensures

pub resource-receiver-requires : goal.resource-receiver-requires
resource-receiver-requires c =
    let d = (goal.at.resource-receiver-requires c).After-index in
    all_at (λ (m : Message). m.target.instance < length (system_of c.args.self.now.system.now).paths) c.args.sent.items 0 c.index.result.now c.requires.targets (first_of d)

pub hand-requires-clause-index : goal.hand-requires-clause-index
hand-requires-clause-index c =
    let w = c.args.self.now in
    let i = w.system.now in
    let named = (sound_of i w.good).counted (path_at (system_of i) c.index.result.now.target.instance) in
    let to = c.resource-receiver.ensures in
    let all = c.requires.may.counted in
    omega (arith, named, to, all)

pub returns-then-len-eq1-clause-given : goal.returns-then-len-eq1-clause-given
returns-then-len-eq1-clause-given c =
    let d = (goal.at.returns-then-len-eq1-clause-given c).After-index in
    let w = c.args.self.now in
    let m = c.index.result.now in
    let r = c.resource-receiver.result in
    let xs = w.core.now.resources.items in
    let zs = c.hand.new.self.core.now.resources.items in
    let one : c.args.sent.items ≡ m ∷ [] = only_of c.args.sent.items m (one_of d) (first_of d) in
    on_ok (HasHanded w r c.args.sent.items c.hand.new.self) (HasGiven w c.args.sent.items c.hand.new.self) c.hand.result
    (λ h. record {
      given = subst (λ (ms : List Message). AreGiven (system_of w.system.now) ms xs zs) (sym one)
          (given_only (system_of w.system.now) m xs zs r (sym c.resource-receiver.ensures) (subst (λ (ms : List Message). IsHanded r ms xs zs) one h.handed));
      pending = h.pending;
    })
    c.hand.ensures.handed

-- ---- Several

nil_of : (xs : List Message) → length xs ≡ 0 → xs ≡ []
nil_of [] e = refl
nil_of (x ∷ xs) e = absurd (omega arith)

pub loop-message-init : goal.loop-message-init
loop-message-init c = record {
  given = record { given = given_none (system_of c.args.self.now.system.now) c.args.self.now.core.now.resources.items; pending = refl };
  may = c.requires.may;
  same = record { system = refl; core = refl; nexts = refl; horizon = refl; inputs = refl; steps = refl };
  rest = search rules;
  len = search rules;
}

pub resource-receiver-requires-in-loop-message : goal.resource-receiver-requires-in-loop-message
resource-receiver-requires-in-loop-message c =
    let i = c.args.self.now.system.now in
    let inv = c.loop-message.invariant in
    let Within = λ (m : Message). m.target.instance < length (system_of i).paths in
    let done = c.loop-message.yielded in
    let whole = ap (λ z. done ++ z) (sym c.in-Some.ensures.steps.0) ∙ inv.rest in
    subst (λ (j : Inputs). c.in-Some.message.target.instance < length (system_of j).paths) (sym inv.same.system)
    (next_of Within done (into_iter_items c.next.new.self) c.in-Some.message (subst (All Within) (sym whole) c.requires.targets))

pub hand-requires-in-loop-message-clause-may : goal.hand-requires-in-loop-message-clause-may
hand-requires-in-loop-message-clause-may c = c.loop-message.invariant.may

pub hand-requires-in-loop-message-clause-index : goal.hand-requires-in-loop-message-clause-index
hand-requires-in-loop-message-clause-index c =
    let w = c.loop-message.self in
    let i = w.system.now in
    let named = (sound_of i w.good).counted (path_at (system_of i) c.in-Some.message.target.instance) in
    let to = c.resource-receiver-in-loop-message.ensures in
    let counted = c.loop-message.invariant.may.counted in
    omega (arith, named, to, counted)

pub loop-message-preserved : goal.loop-message-preserved
loop-message-preserved c =
    let w = c.args.self.now in
    let i = w.system.now in
    let inv = c.loop-message.invariant in
    let step = c.in-Some.ensures.steps in
    let xs = c.loop-message.self.core.now.resources.items in
    let zs = c.hand-in-loop-message.new.self.core.now.resources.items in
    let r = c.resource-receiver-in-loop-message.result in
    let m = c.in-Some.message in
    let rest = ap (λ z. c.loop-message.yielded ++ z) (sym step.0) ∙ inv.rest in
    let handed = c.in_ok-hand.ensures.handed in
    let one = c.in_ok-push.ensures.items ∙ ap (λ z. z ++ m ∷ []) c.new-one.ensures.items in
    let receiver : r ≡ (system_of i).resource (path_at (system_of i) m.target.instance) =
    subst (λ (j : Inputs). r ≡ (system_of j).resource (path_at (system_of j) m.target.instance)) inv.same.system c.resource-receiver-in-loop-message.ensures in
    record {
      given = record {
        given = given_handed (system_of i) c.loop-message.yielded m _ xs zs r inv.given.given (sym receiver) (subst (λ (ms : List Message). IsHanded r ms xs zs) one handed.handed);
        pending = handed.pending ∙ inv.given.pending;
      };
      may = c.in_ok-hand.ensures.may;
      same = same_then w c.loop-message.self c.hand-in-loop-message.new.self inv.same c.hand-in-loop-message.ensures.same;
      rest = append_assoc c.loop-message.yielded (m ∷ []) (into_iter_items c.next.new.self) ∙ rest;
      len = let same = ap length step.0 in omega (arith, inv.len, step.1, same);
    }

pub returns-in_err-hand-clause-same : goal.returns-in_err-hand-clause-same
returns-in_err-hand-clause-same c = same_then c.args.self.now c.loop-message.self c.hand-in-loop-message.new.self c.loop-message.invariant.same c.hand-in-loop-message.ensures.same

pub returns-clause-given : goal.returns-clause-given
returns-clause-given c =
    let inv = c.loop-message.invariant in
    let end = c.in-None.ensures.steps in
    let done = c.loop-message.yielded in
    let none : into_iter_items c.loop-message.message-iterator ≡ [] = nil_of (into_iter_items c.loop-message.message-iterator) (omega (arith, inv.len, end.0)) in
    let all : done ≡ c.args.sent.items = sym (append-nil done) ∙ ap (λ z. done ++ z) (sym none) ∙ inv.rest in
    subst (λ (ms : List Message). HasGiven c.args.self.now ms c.loop-message.self) all inv.given
