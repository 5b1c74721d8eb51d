use Rattle.fb_st.proofs.lemmas.Common.{◌≡◌, List, subst, slice_get, Value, Slot, declared_in, values_of}
use Rattle.fb_types.proofs.Common.{MatchOption, zero_value}
use Rattle.fb_st.proofs.lemmas.Slots.{read_at}
use Rattle.fb_st.proofs.frame.Frame.value_at.Goals as goal

pub returns : goal.returns
returns c =
    let r : Value = c.value.result in
    let P : List Slot → Type 0 = λ l. MatchOption (slice_get (declared_in l) c.args.slot) (r ≡ zero_value) (λ d. r ≡ values_of l d.0) in
    subst P c.self.view_is (read_at c.self.inside.slots c.args.slot r c.self.invariant c.value.ensures.there c.value.ensures.past)
