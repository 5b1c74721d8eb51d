use Rattle.fb_st.proofs.lemmas.Common.{◌≡◌, List, sym, ◌∙◌, ap, subst, slice_get, Name, with_value, Twice, Slot, declared_in, values_of}
use Rattle.fb_types.proofs.Common.{MatchOption}
use Rattle.fb_st.proofs.lemmas.Slots.{write_at, write_declared, write_names}
use Rattle.fb_st.proofs.frame.Frame.put_at.Goals as goal

pub invariant_of-self : goal.invariant_of-self
invariant_of-self c =
    let P : List Name → Type 0 = λ ns. ¬ (Twice ns) in
    subst P (sym (write_names c.self.inside.slots c.set.new.self c.args.slot c.args.value.now (record { there = c.set.ensures.there; past = c.set.ensures.past }))) c.self.invariant

pub returns-clause-value : goal.returns-clause-value
returns-clause-value c =
    let ys : List Slot = c.set.new.self in
    let P : List Slot → Type 0 = λ l. MatchOption (slice_get (declared_in l) c.args.slot) (ys ≡ l) (λ d. values_of ys ≡ with_value d.0 c.args.value.now (values_of l)) in
    subst P c.self.view_is (write_at c.self.inside.slots ys c.args.slot c.args.value.now (record { there = c.set.ensures.there; past = c.set.ensures.past }) c.self.invariant)

pub returns-clause-declared : goal.returns-clause-declared
returns-clause-declared c =
    write_declared c.self.inside.slots c.set.new.self c.args.slot c.args.value.now (record { there = c.set.ensures.there; past = c.set.ensures.past }) ∙ ap declared_in c.self.view_is
