use Rattle.fb_resource.proofs.lemmas.Common.{◌≡◌, ◌++◌, ◌∷◌, [], All, List, length, refl, sym, ap, subst, ◌∙◌, append-nil, arith, Out, IsPostable}
use Rattle.fb_types.proofs.Common.{length-append, vec_len, append_assoc, eqb-true, length_push, nil_from_length}
use Rattle.std.specs.Vec.Iter.{drain_items}
use Rattle.fb_resource.specs.Postings.{HasGrown, HasPosted, system_in}
use Rattle.fb_resource.proofs.lemmas.Lists.{slice_all}
use Rattle.fb_resource.proofs.lemmas.PostLaws.{next_of}
use Rattle.fb_resource.proofs.lemmas.Posted.{grown_nothing, grown_then, one_still_postable, posted_nothing, posted_then, same_then}
use Rattle.fb_resource.proofs.posting.Posting.post_all.Goals as goal

pub returns-then-is_empty-clause-none : goal.returns-then-is_empty-clause-none
returns-then-is_empty-clause-none c =
    let outs = c.args.outs.now in
    nil_from_length outs.items (sym outs.ok.0 ∙ eqb-true (vec_len outs) 0 (sym c.is_empty.ensures ∙ c.if-is_empty.true))

pub returns-then-is_empty-clause-posted : goal.returns-then-is_empty-clause-posted
returns-then-is_empty-clause-posted c =
    let outs = c.args.outs.now in
    let p = c.args.self.now in
    let none = nil_from_length outs.items (sym outs.ok.0 ∙ eqb-true (vec_len outs) 0 (sym c.is_empty.ensures ∙ c.if-is_empty.true)) in
    subst (λ (os : List Out). HasPosted p os p) (sym none) (posted_nothing p)

pub returns-then-is_empty-clause-grown : goal.returns-then-is_empty-clause-grown
returns-then-is_empty-clause-grown c = grown_nothing c.args.self.now (length c.args.outs.now.items) c.requires.may

pub loop-out-init : goal.loop-out-init
loop-out-init c = record {
  posted = posted_nothing c.args.self.now;
  grown = grown_nothing c.args.self.now 0 c.requires.may;
  same = record { system = refl; key = refl; agenda = refl; mail = refl; sent = refl; locals = refl };
  rest = refl;
  keeps = (refl, refl, refl);
}

pub post_one-requires-clause-may : goal.post_one-requires-clause-may
post_one-requires-clause-may c = c.loop-out.invariant.grown.may

pub post_one-requires-clause-out : goal.post_one-requires-clause-out
post_one-requires-clause-out c =
    let p = c.args.self.now in
    let postable = IsPostable (system_in p) p.key.now.resource in
    let ys = c.loop-out.yielded in
    let drained : drain_items c.into_iter-out-iterator.result ≡ c.args.outs.now.items =
    rw c.into_iter-out-iterator.ensures.into_iter_gives (c.drain-out-items.ensures.rest ∙ slice_all c.args.outs.now.items c.args.outs.now.len c.args.outs.now.ok.0) in
    let whole = ap (λ z. ys ++ z) (sym c.in-Some.ensures.steps.0) ∙ c.loop-out.invariant.rest ∙ drained in
    one_still_postable p c.loop-out.self c.in-Some.out c.loop-out.invariant.same
    (next_of postable ys (drain_items c.next.new.self) c.in-Some.out (subst (All postable) (sym whole) c.requires.outs))

pub post_one-requires-clause-room : goal.post_one-requires-clause-room
post_one-requires-clause-room c =
    let ys = c.loop-out.yielded in
    let rest = drain_items c.next.new.self in
    let drained : drain_items c.into_iter-out-iterator.result ≡ c.args.outs.now.items =
    rw c.into_iter-out-iterator.ensures.into_iter_gives (c.drain-out-items.ensures.rest ∙ slice_all c.args.outs.now.items c.args.outs.now.len c.args.outs.now.ok.0) in
    let count = sym (length-append ys (c.in-Some.out ∷ rest)) ∙ ap length (ap (λ z. ys ++ z) (sym c.in-Some.ensures.steps.0) ∙ c.loop-out.invariant.rest ∙ drained) in
    let few = c.loop-out.invariant.grown.few in
    omega (arith, few, c.requires.room, count)

pub loop-out-preserved : goal.loop-out-preserved
loop-out-preserved c =
    let inv = c.loop-out.invariant in
    let step = c.in-Some.ensures.steps in
    let a = c.args.self.now in
    let b = c.loop-out.self in
    let d = c.post_one.new.self in
    let ys = c.loop-out.yielded in
    let out = c.in-Some.out in
    let count = length_push ys out in
    record {
      posted = posted_then a b d ys (out ∷ []) inv.same inv.posted c.in_ok-post_one.ensures.posted;
      grown = grown_then a b d (length ys) 1 (length (ys ++ out ∷ [])) inv.same (omega (arith, count)) inv.grown c.in_ok-post_one.ensures.grown;
      same = same_then a b d inv.same c.post_one.ensures.same;
      rest = append_assoc ys (out ∷ []) (drain_items c.next.new.self) ∙ ap (λ z. ys ++ z) (sym step.0) ∙ inv.rest;
      keeps = (step.2.0 ∙ inv.keeps.0, step.2.1 ∙ inv.keeps.1, step.2.2 ∙ inv.keeps.2);
    }

pub returns-in_err-post_one-clause-same : goal.returns-in_err-post_one-clause-same
returns-in_err-post_one-clause-same c = same_then c.args.self.now c.loop-out.self c.post_one.new.self c.loop-out.invariant.same c.post_one.ensures.same

pub returns-clause-posted : goal.returns-clause-posted
returns-clause-posted c =
    let inv = c.loop-out.invariant in
    let none : drain_items c.loop-out.out-iterator ≡ [] = c.in-None.ensures.steps.0 in
    let whole : drain_items c.into_iter-out-iterator.result ≡ c.args.outs.now.items =
    rw c.into_iter-out-iterator.ensures.into_iter_gives (c.drain-out-items.ensures.rest ∙ slice_all c.args.outs.now.items c.args.outs.now.len c.args.outs.now.ok.0) in
    let all = sym (append-nil c.loop-out.yielded) ∙ ap (λ z. c.loop-out.yielded ++ z) (sym none) ∙ inv.rest ∙ whole in
    subst (λ (os : List Out). HasPosted c.args.self.now os c.loop-out.self) all inv.posted

pub returns-clause-grown : goal.returns-clause-grown
returns-clause-grown c =
    let inv = c.loop-out.invariant in
    let none : drain_items c.loop-out.out-iterator ≡ [] = c.in-None.ensures.steps.0 in
    let whole : drain_items c.into_iter-out-iterator.result ≡ c.args.outs.now.items =
    rw c.into_iter-out-iterator.ensures.into_iter_gives (c.drain-out-items.ensures.rest ∙ slice_all c.args.outs.now.items c.args.outs.now.len c.args.outs.now.ok.0) in
    let all = sym (append-nil c.loop-out.yielded) ∙ ap (λ z. c.loop-out.yielded ++ z) (sym none) ∙ inv.rest ∙ whole in
    subst (λ (os : List Out). HasGrown c.args.self.now (length os) c.loop-out.self) all inv.grown
