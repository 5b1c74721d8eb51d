use Rattle.fb_types.proofs.Common.{List, sym, ◌∙◌, ap, subst, Name, variables_of, Twice}
use Rattle.fb_st.specs.Frames.{declared_in, names_of, values_of}
use Rattle.fb_stop.proofs.lemmas.copies.CopiedSlots.{all_copied, declared_copied, names_copied, values_copied}
use Rattle.fb_stop.proofs.before.copy_of.Goals as goal

pub of-requires : goal.of-requires
of-requires c =
    let f = c.args.frame.now in
    let shown =
    all_copied f c.args.block.now _ _ _ _ _ _ _ c.new-slots.ensures c.as_slice.ensures c.as_slice-2.ensures c.as_slice-3.ensures
    c.in_ok-add_all.ensures c.in_ok-add_all-2.ensures c.in_ok-add_all-3.ensures in
    let P : List Name → Type 0 = λ ns. ¬ (Twice ns) in
    subst P (sym (ap names_of shown ∙ names_copied f (variables_of c.args.block.now))) c.requires.sound.variables

pub returns-clause-values : goal.returns-clause-values
returns-clause-values c =
    let f = c.args.frame.now in
    let shown =
    all_copied f c.args.block.now _ _ _ _ _ _ _ c.new-slots.ensures c.as_slice.ensures c.as_slice-2.ensures c.as_slice-3.ensures
    c.in_ok-add_all.ensures c.in_ok-add_all-2.ensures c.in_ok-add_all-3.ensures in
    ap values_of (c.of.ensures ∙ shown) ∙ values_copied f (variables_of c.args.block.now) c.requires.declared

pub returns-clause-declared : goal.returns-clause-declared
returns-clause-declared c =
    let f = c.args.frame.now in
    let shown =
    all_copied f c.args.block.now _ _ _ _ _ _ _ c.new-slots.ensures c.as_slice.ensures c.as_slice-2.ensures c.as_slice-3.ensures
    c.in_ok-add_all.ensures c.in_ok-add_all-2.ensures c.in_ok-add_all-3.ensures in
    ap declared_in (c.of.ensures ∙ shown) ∙ declared_copied f (variables_of c.args.block.now)
