use Rattle.fb_types.proofs.Common.{◌≡◌, ◌++◌, ◌∷◌, [], length, sym, ap, subst, ◌∙◌, append_assoc, append-nil, arith, lookup, IsSome, into_iter_items, map-append, nil_from_length, found, or_else, same_key}
use Rattle.fb_agenda.specs.Arrivals.{arrival_at, arrivals_at}
use Rattle.fb_agenda.proofs.lemmas.Orders.{either_some}
use Rattle.fb_agenda.proofs.lemmas.MessagesPut.{filled_more, found_there}
use Rattle.fb_agenda.proofs.arrivals.fill_keys.Goals as goal

pub fill_key-requires : goal.fill_key-requires
fill_key-requires c =
    let r = c.args.receiver in
    let m = c.in-Some.message in
    let ys = c.loop-message.yielded in
    let inv = c.loop-message.invariant in
    let step = c.in-Some.ensures.steps in
    let k = (arrival_at r m).0 in
    let old = c.args.later.now.events in
    let rest = ap (λ z. ys ++ z) (sym step.0) ∙ inv.rest in
    let all = sym (map-append (arrival_at r) ys (m ∷ into_iter_items c.next.new.self)) ∙ ap (arrivals_at r) rest in
    let there : IsSome (found k (arrivals_at r c.args.messages.items)) =
    subst (λ es. IsSome (found k es)) all (found_there k (arrival_at r m).1 (arrivals_at r ys) (arrivals_at r (into_iter_items c.next.new.self))) in
    subst (λ o. IsSome o) (sym (inv.filled k)) (either_some (found k (arrivals_at r ys)) (lookup (same_key k) old) (c.requires k there))

pub loop-message-preserved : goal.loop-message-preserved
loop-message-preserved c =
    let r = c.args.receiver in
    let m = c.in-Some.message in
    let ys = c.loop-message.yielded in
    let inv = c.loop-message.invariant in
    let step = c.in-Some.ensures.steps in
    let old = c.args.later.now.events in
    let new = c.fill_key.new.later.events in
    let rest = ap (λ z. ys ++ z) (sym step.0) ∙ inv.rest in
    record {
      filled = λ j. filled_more (arrivals_at r ys) (arrival_at r m).0 (arrival_at r m).1 old c.loop-message.later.events new inv.filled c.fill_key.ensures.filled j
          ∙ ap (λ es. or_else (found j es) (lookup (same_key j) old)) (sym (map-append (arrival_at r) ys (m ∷ [])));
      due = c.fill_key.ensures.due ∙ inv.due;
      rest = append_assoc ys (m ∷ []) (into_iter_items c.next.new.self) ∙ rest;
      len = let same = ap length step.0 in omega (arith, inv.len, step.1, same);
    }

pub returns-clause-filled : goal.returns-clause-filled
returns-clause-filled c =
    let inv = c.loop-message.invariant in
    let none : into_iter_items c.loop-message.message-iterator ≡ [] = nil_from_length _ (let done = c.in-None.ensures.steps.0 in omega (arith, inv.len, done)) in
    let all = sym (append-nil c.loop-message.yielded) ∙ ap (λ z. c.loop-message.yielded ++ z) (sym none) ∙ inv.rest in
    λ j. inv.filled j ∙ ap (λ ms. or_else (found j (arrivals_at c.args.receiver ms)) (lookup (same_key j) c.args.later.now.events)) all
