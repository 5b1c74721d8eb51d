use Rattle.fb_st.proofs.lemmas.Common.{List, sym, ◌∙◌, ap, Slot, values_of}
use Rattle.fb_st.proofs.lemmas.Slots.{index_within, slot_there, value_here, value_nowhere}
use Rattle.fb_st.proofs.frame.Frame.value.Goals as goal

pub returns-in-Some : goal.returns-in-Some
returns-in-Some c =
    let xs : List Slot = c.self.inside.slots in
    let at = sym c.index.ensures ∙ c.in-Some.is in
    let s = slot_there xs c.in-Some.index (index_within xs c.args.variable.now c.in-Some.index at) in
    c.value.ensures.there s.0 s.1 ∙ value_here xs c.args.variable.now c.in-Some.index s.0 at s.1 ∙ ap (λ l. values_of l c.args.variable.now) c.self.view_is

pub returns-in-None : goal.returns-in-None
returns-in-None c = value_nowhere c.self.inside.slots c.args.variable.now (sym c.index.ensures ∙ c.in-None.is) ∙ ap (λ l. values_of l c.args.variable.now) c.self.view_is
