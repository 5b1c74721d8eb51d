use Rattle.fb_types.proofs.Common.{◌∙◌, ap, list_any, same_name}
use Rattle.fb_st.proofs.lemmas.KeptAs.{kept_any}
use Rattle.fb_st.proofs.slot_list.SlotList.has.Goals as goal

pub returns : goal.returns
returns c =
    c.has_name.ensures
    ∙ ap (list_any (λ k. same_name c.args.name.now k.name)) c.as_slice.ensures.value
    ∙ kept_any c.args.name.now c.self.inside.kept.items c.self.inside.words.items c.self.invariant.0
    ∙ ap (list_any (λ s. same_name c.args.name.now s.name)) c.self.view_is
