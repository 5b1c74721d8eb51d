use Rattle.fb_types.proofs.Common.{slice_get, ◌≡◌, Some, ◌++◌, ◌∷◌, [], length, ap, subst, sym, ◌∙◌, append_assoc, append-nil, arith, into_iter_items, length_push, nil_from_length}
use Rattle.fb_resource.specs.Openings.{AreOpenedApart, IsOpened}
use Rattle.fb_resource.specs.Resources.{IsFresh}
use Rattle.fb_resource.proofs.lemmas.Fresh.{AreFresh, all_opened, at_middle, fresh_more}
use Rattle.fb_resource.proofs.resource.Resource.open_all.Goals as goal

pub of_agenda-requires-clause-agenda : goal.of_agenda-requires-clause-agenda
of_agenda-requires-clause-agenda c =
    let inv = c.loop-agenda.invariant in
    let ys = c.loop-agenda.yielded in
    let a = c.in-Some.agenda in
    let there : slice_get (ys ++ into_iter_items c.loop-agenda.agenda-iterator) (length ys) ≡ Some a =
    ap (λ z. slice_get (ys ++ z) (length ys)) c.in-Some.ensures.steps.0 ∙ at_middle ys a (into_iter_items c.next.new.self) in
    subst (λ n. IsOpened c.args.system.now (Some n) a) (sym inv.number) (inv.opened.each (length ys) a there)

pub loop-agenda-preserved : goal.loop-agenda-preserved
loop-agenda-preserved c =
    let i = c.args.system.now in
    let inv = c.loop-agenda.invariant in
    let step = c.in-Some.ensures.steps in
    let xs = c.loop-agenda.resources.items in
    let ys = c.loop-agenda.yielded in
    let a = c.in-Some.agenda in
    let x = c.in_ok-of_agenda.field-0 in
    let items = c.in_ok-push.ensures.items in
    let left = into_iter_items c.next.new.self in
    let more : AreFresh i (xs ++ x ∷ []) = fresh_more i xs x inv.fresh (subst (λ k. IsFresh i k x) (inv.number ∙ sym inv.counted) c.in_ok-of_agenda.ensures) in
    record {
      fresh = subst (AreFresh i) (sym items) more;
      counted = ap length items ∙ omega (arith, length_push xs x, length_push ys a, inv.counted);
      number = omega (arith, inv.number, length_push ys a);
      opened = subst (AreOpenedApart i) (sym (append_assoc ys (a ∷ []) left ∙ ap (λ z. ys ++ z) (sym step.0))) inv.opened;
      len = let same = ap length step.0 in omega (arith, inv.len, step.1, same);
    }

pub returns : goal.returns
returns c =
    let inv = c.loop-agenda.invariant in
    let ys = c.loop-agenda.yielded in
    let none : into_iter_items c.loop-agenda.agenda-iterator ≡ [] = nil_from_length _ (let done = c.in-None.ensures.steps.0 in omega (arith, inv.len, done)) in
    all_opened c.args.system.now c.loop-agenda.resources.items
    (inv.counted ∙ ap length (sym (append-nil ys) ∙ ap (λ z. ys ++ z) (sym none)) ∙ inv.opened.counted) inv.fresh
