use Rattle.fb_st.proofs.lemmas.Common.{sym, ◌∙◌, ap, subst, List, Name, with_value, Twice, Slot, values_of, index_of, declared_in}
use Rattle.fb_st.proofs.lemmas.Slots.{declared_somewhere, index_within, set_declared, set_names, slot_there, written}
use Rattle.fb_st.proofs.frame.Frame.put.Goals as goal

pub unreachable-requires : goal.unreachable-requires
unreachable-requires c = declared_somewhere c.args.self.now c.args.variable.now c.requires (ap (index_of c.args.variable.now) (sym c.self.view_is) ∙ sym c.index.ensures ∙ c.in-None.is)

pub invariant_of-self : goal.invariant_of-self
invariant_of-self c =
    let xs : List Slot = c.self.inside.slots in
    let at = sym c.index.ensures ∙ c.in-Some.is in
    let s = slot_there xs c.in-Some.index (index_within xs c.args.variable.now c.in-Some.index at) in
    let P : List Name → Type 0 = λ ns. ¬ (Twice ns) in
    rw (c.set.ensures.there s.0 s.1) (subst P (sym (set_names xs c.in-Some.index s.0 c.args.value s.1)) c.self.invariant)

pub returns-clause-value : goal.returns-clause-value
returns-clause-value c =
    let xs : List Slot = c.self.inside.slots in
    let at = sym c.index.ensures ∙ c.in-Some.is in
    let s = slot_there xs c.in-Some.index (index_within xs c.args.variable.now c.in-Some.index at) in
    rw (c.set.ensures.there s.0 s.1)
    (written xs c.args.variable.now c.in-Some.index s.0 c.args.value at s.1 ∙ ap (λ l. with_value c.args.variable.now c.args.value (values_of l)) c.self.view_is)

pub returns-clause-declared : goal.returns-clause-declared
returns-clause-declared c =
    let xs : List Slot = c.self.inside.slots in
    let at = sym c.index.ensures ∙ c.in-Some.is in
    let s = slot_there xs c.in-Some.index (index_within xs c.args.variable.now c.in-Some.index at) in
    rw (c.set.ensures.there s.0 s.1) (set_declared xs c.in-Some.index s.0 c.args.value s.1 ∙ ap declared_in c.self.view_is)
