use Rattle.fb_types.proofs.Common.{List, ◌++◌, [], ◌∷◌, take, sym, ap, subst, ◌∙◌, arith, map_push, take_all, take_more, IfOk, MatchOption, Name, Twice}
use Rattle.fb_check_names.specs.Indexes.{IsIndex, names_in}
use Rattle.fb_wave.proofs.table.indexes_in.Goals as goal

pub loop-text-preserved : goal.loop-text-preserved
loop-text-preserved c =
    let texts = c.args.texts.now in
    let i = c.loop-text.text-index in
    let text = c.text-item.result in
    ap names_in c.in_ok-push.ensures.items ∙ map_push (λ n. n.now) c.loop-text.names.items _
    ∙ ap (λ (l : List Name). l ++ text ∷ []) c.loop-text.invariant ∙ ap (λ (n : Name). take i texts ++ n ∷ []) c.text-item.is
    ∙ sym (take_more texts i text c.loop-text-test.true)

pub returns : goal.returns
returns c =
    let all = ap names_in c.as_slice.ensures.value ∙ c.loop-text.invariant ∙ take_all c.loop-text.text-index c.args.texts.now (omega (arith, c.loop-text-test.false)) in
    subst (λ (ns : List Name). IfOk c.indexes_of.result (λ o. MatchOption o (Twice ns) (IsIndex ns))) all c.indexes_of.ensures
