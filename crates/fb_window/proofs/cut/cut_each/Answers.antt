use Rattle.fb_window.proofs.lemmas.Common.{◌≡◌, ◌++◌, ℕ, [], ◌∷◌, length, refl, sym, ap, ◌∙◌, subst, append_assoc, arith, into_iter_items, until, edge_of}
use Rattle.fb_window.specs.Frontiers.{IsSplit}
use Rattle.fb_window.proofs.lemmas.phases.Leaves.{length_join}
use Rattle.fb_laws.proofs.lemmas.lists.Indexes.{middle_at, push_counted}
use Rattle.fb_window.proofs.lemmas.lines.FoundLines.{AreCutTo, cut_every, cut_more}
use Rattle.fb_window.proofs.cut.cut_each.Goals as goal

pub loop-lines-preserved : goal.loop-lines-preserved
loop-lines-preserved c =
    let e = edge_of c.args.frontier.now in
    let inv = c.loop-lines.invariant in
    let done = c.loop-lines.yielded in
    let n = length done in
    let step = c.in-Some.ensures.steps in
    let rest = ap (λ z. done ++ z) (sym step.0) ∙ inv.rest in
    let at = middle_at done (into_iter_items c.next.new.self) c.args.lists.items c.in-Some.lines rest in
    let long : c.len.result ≡ n = c.len.ensures ∙ c.loop-lines.fronts.ok.0 ∙ inv.cut.fronts in
    let split = subst (λ (k : ℕ). IsSplit (until e k) c.in-Some.lines.items c.in_ok-front.front.items c.in_ok-front.rest.items) long c.in_ok-front.ensures in
    record {
      cut = subst (λ (k : ℕ). AreCutTo e c.args.lists.items k c.push.new.self.items c.push-in-loop-lines.new.self.items) (sym (push_counted done c.in-Some.lines n refl))
          (cut_more e c.args.lists.items n c.loop-lines.fronts.items c.loop-lines.rests.items c.push.new.self.items c.push-in-loop-lines.new.self.items c.in-Some.lines _ _ inv.cut at split c.in_ok-push.ensures.items c.in_ok-push-2.ensures.items);
      rest = append_assoc done (c.in-Some.lines ∷ []) (into_iter_items c.next.new.self) ∙ rest;
      len = let same = ap length step.0 in omega (arith, inv.len, step.1, same);
    }

pub returns : goal.returns
returns c =
    let inv = c.loop-lines.invariant in
    let done = c.loop-lines.yielded in
    let end = c.in-None.ensures.steps in
    let whole = ap length inv.rest in
    let joined = length_join done (into_iter_items c.loop-lines.lines-iterator) in
    cut_every (edge_of c.args.frontier.now) c.args.lists.items (length done) c.loop-lines.fronts.items c.loop-lines.rests.items inv.cut (omega (arith, inv.len, end.0, whole, joined))
