use Rattle.fb_types.proofs.Common.{◌≡◌, ◌+◌, ◌++◌, List, [], ◌∷◌, take, sym, ap, ◌∙◌, subst, arith, AllZip, take_all, take_more}
use Rattle.fb_sim.specs.declared.rounds.join_texts.Rest.{Rest}
use Rattle.fb_sim.proofs.lemmas.text.Cutting.{IsWhole, whole_rests, zip_more}
use Rattle.fb_sim.proofs.rounds.join_texts.all_whole.Goals as goal

pub push_reserved-requires : goal.push_reserved-requires
push_reserved-requires c =
    let inv = c.loop-text.invariant in
    let within = c.loop-text-test.true in
    omega (arith, inv.len, inv.room, within)

pub loop-text-preserved : goal.loop-text-preserved
loop-text-preserved c =
    let xs = c.args.texts.now in
    let k = c.loop-text.text-index in
    let x = c.text-item.result in
    let more : take (k + 1) xs ≡ take k xs ++ x ∷ [] = take_more xs k x c.loop-text-test.true ∙ ap (λ z. take k xs ++ z ∷ []) (sym c.text-item.is) in
    let inv = c.loop-text.invariant in
    let one = c.push_reserved.ensures in
    record {
      all = subst (λ z. AllZip IsWhole z c.push_reserved.new.self.items) (sym more)
          (subst (AllZip IsWhole (take k xs ++ x ∷ [])) (sym {A = List Rest} one.items) (zip_more IsWhole (take k xs) c.loop-text.rests.items x c.whole.result inv.all c.whole.ensures));
      len = omega (arith, inv.len, one.len);
      room = omega (arith, inv.room, one.capacity);
    }

pub returns : goal.returns
returns c = λ i form lists h.
    let xs = c.args.texts.now in
    let k = c.loop-text.text-index in
    let all : take k xs ≡ xs = take_all k xs (let f = c.loop-text-test.false in omega (arith, f)) in
    whole_rests i form lists xs c.loop-text.rests.items h (subst (λ z. AllZip IsWhole z c.loop-text.rests.items) all c.loop-text.invariant.all)
