use Rattle.fb_st.proofs.lemmas.Common.{sym, ◌∙◌, refl, ap, subst, List, Name, with_value, fits, Twice, Slot, values_of, index_of, types_in, declared_in}
use Rattle.fb_st.proofs.lemmas.Slots.{declared_somewhere, index_within, set_declared, set_names, slot_there, type_here, written}
use Rattle.fb_st.proofs.frame.Frame.assign.Goals as goal

pub unreachable-requires : goal.unreachable-requires
unreachable-requires c = declared_somewhere c.args.self.now c.args.variable.now c.requires (ap (index_of c.args.variable.now) (sym c.self.view_is) ∙ sym c.index.ensures ∙ c.in-None.is)

pub holds-requires : goal.holds-requires
holds-requires c = index_within c.self.inside.slots c.args.variable.now c.in-Some.index (sym c.index.ensures ∙ c.in-Some.is)

pub returns-then-not-holds-clause-err : goal.returns-then-not-holds-clause-err
returns-then-not-holds-clause-err c =
    let xs : List Slot = c.self.inside.slots in
    let at = sym c.index.ensures ∙ c.in-Some.is in
    let s = slot_there xs c.in-Some.index (index_within xs c.args.variable.now c.in-Some.index at) in
    let ty = type_here xs c.args.variable.now c.in-Some.index s.0 at s.1 in (
      refl,
      ap (λ l. fits (types_in (declared_in l) c.args.variable.now) c.args.value) (sym c.self.view_is)
          ∙ ap (λ t. fits t c.args.value) ty ∙ sym (c.holds.ensures s.0 s.1) ∙ c.if-not-holds.true,
      refl,
    )

pub invariant_of-self : goal.invariant_of-self
invariant_of-self c =
    let xs : List Slot = c.self.inside.slots in
    let at = sym c.index.ensures ∙ c.in-Some.is in
    let s = slot_there xs c.in-Some.index (index_within xs c.args.variable.now c.in-Some.index at) in
    let P : List Name → Type 0 = λ ns. ¬ (Twice ns) in
    rw (c.set.ensures.there s.0 s.1) (subst P (sym (set_names xs c.in-Some.index s.0 c.args.value s.1)) c.self.invariant)

pub returns-clause-ok : goal.returns-clause-ok
returns-clause-ok c =
    let xs : List Slot = c.self.inside.slots in
    let at = sym c.index.ensures ∙ c.in-Some.is in
    let s = slot_there xs c.in-Some.index (index_within xs c.args.variable.now c.in-Some.index at) in
    let ty = type_here xs c.args.variable.now c.in-Some.index s.0 at s.1 in (
      ap (λ l. fits (types_in (declared_in l) c.args.variable.now) c.args.value) (sym c.self.view_is)
          ∙ ap (λ t. fits t c.args.value) ty ∙ sym (c.holds.ensures s.0 s.1) ∙ c.if-not-holds.false,
      rw (c.set.ensures.there s.0 s.1)
          (written xs c.args.variable.now c.in-Some.index s.0 c.args.value at s.1
          ∙ ap (λ l. with_value c.args.variable.now c.args.value (values_of l)) c.self.view_is),
    )

pub returns-clause-declared : goal.returns-clause-declared
returns-clause-declared c =
    let xs : List Slot = c.self.inside.slots in
    let at = sym c.index.ensures ∙ c.in-Some.is in
    let s = slot_there xs c.in-Some.index (index_within xs c.args.variable.now c.in-Some.index at) in
    rw (c.set.ensures.there s.0 s.1) (set_declared xs c.in-Some.index s.0 c.args.value s.1 ∙ ap declared_in c.self.view_is)
