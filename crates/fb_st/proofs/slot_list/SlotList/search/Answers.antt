use Rattle.fb_types.proofs.Common.{◌∙◌, ap, position, same_name}
use Rattle.fb_st.specs.Frames.{index_of}
use Rattle.fb_st.proofs.lemmas.KeptAs.{kept_index}
use Rattle.fb_st.proofs.slot_list.SlotList.search.Goals as goal

pub returns : goal.returns
returns c =
    c.place_of-index.ensures
    ∙ ap (position (λ k. same_name c.name.result.now k.name)) c.as_slice.ensures.value
    ∙ ap (λ n. position (λ k. same_name n k.name) c.self.inside.kept.items) c.name.ensures
    ∙ kept_index c.args.variable.now c.self.inside.kept.items c.self.inside.words.items c.self.invariant.0
    ∙ ap (index_of c.args.variable.now) c.self.view_is
