use Rattle.fb_types.proofs.Common.{List, map, sym, ◌∙◌, ap, subst, Name, variables_of, Twice}
use Rattle.fb_ecc.proofs.lemmas.Programs.{all_declared, declared_names}
use Rattle.fb_ecc.proofs.program.layout_of.Goals as goal

pub of-requires : goal.of-requires
of-requires c =
    let shown =
    all_declared c.args.block.now _ _ _ _ _ _ _ c.new-slots.ensures.items c.as_slice.ensures c.as_slice-2.ensures c.as_slice-3.ensures
    c.in_ok-add_all.ensures c.in_ok-add_all-2.ensures c.in_ok-add_all-3.ensures in
    let P : List Name → Type 0 = λ ns. ¬ (Twice ns) in
    subst P (sym (ap (map (λ d. d.0)) shown ∙ declared_names (variables_of c.args.block.now))) c.requires

pub returns : goal.returns
returns c =
    c.of.ensures
    ∙ all_declared c.args.block.now _ _ _ _ _ _ _ c.new-slots.ensures.items c.as_slice.ensures c.as_slice-2.ensures c.as_slice-3.ensures
    c.in_ok-add_all.ensures c.in_ok-add_all-2.ensures c.in_ok-add_all-3.ensures
