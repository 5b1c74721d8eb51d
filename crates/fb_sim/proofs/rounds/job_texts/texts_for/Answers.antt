use Rattle.fb_types.proofs.Common.{◌≡◌, ℕ, List, Option, Some, ◌∷◌, length, refl, ap, subst, sym, ◌∙◌, arith, IfSome, slice_get, into_iter_items, slice_get_read}
use Rattle.fb_types.specs.declared.run.Line.{Line}
use Rattle.fb_trace.specs.Marks.{IsMarkedText}
use Rattle.fb_trace.specs.declared.marks.MarkedText.{MarkedText}
use Rattle.fb_sim.proofs.lemmas.text.TextsAre.{AreMade, one_made}
use Rattle.fb_sim.proofs.rounds.job_texts.texts_for.Goals as goal

pub push_reserved-requires : goal.push_reserved-requires
push_reserved-requires c =
    let room = c.loop-text.invariant.room in
    let l = c.in-Some-get.ensures.lookup in
    omega (arith, room, c.len.ensures, l.1)

-- one text more
pub loop-text-preserved : goal.loop-text-preserved
loop-text-preserved c =
    let i = c.args.system.now in
    let form = c.args.form in
    let finals = c.args.finals.now in
    let all = c.loop-text.all in
    let left = into_iter_items c.next.new.self in
    let step = c.in-Some.ensures.steps in
    let l = c.in-Some-get.ensures.lookup in
    let p = c.in-Some-get.lines.now in
    let m = c.in-Some-2.text in
    let it : AreMade i form finals all.items (c.in-Some.text ∷ left) = subst (AreMade i form finals all.items) step.0 c.loop-text.invariant.made in
    let at : slice_get finals (length all.items) ≡ Some p =
    subst (λ (n : ℕ). slice_get finals n ≡ Some p) (c.len.ensures ∙ all.ok.0) (slice_get_read finals (length finals) c.len.result p refl l.3.0 l.1) in
    let is : IsMarkedText i form c.deref.result.now m = subst (λ (o : Option MarkedText). IfSome o (IsMarkedText i form c.deref.result.now)) c.in-Some-2.is c.in_ok-text.ensures in
    record {
      made = subst (λ (ms : List MarkedText). AreMade i form finals ms left) (sym c.push_reserved.ensures.items)
          (one_made i form finals all.items c.in-Some.text left it p at m (subst (λ (xs : List Line). IsMarkedText i form xs m) c.deref.ensures.value is));
      len = let same = ap length step.0 in omega (arith, c.loop-text.invariant.len, step.1, same);
      room = omega (arith, c.loop-text.invariant.room, c.push_reserved.ensures.capacity);
    }
