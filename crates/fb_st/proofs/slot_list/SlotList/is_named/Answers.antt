use Rattle.fb_st.proofs.lemmas.Common.{◌≡◌, ◌<◌, ℕ, List, true, refl, sym, ◌∙◌, ap, length, get_or, subst, slice_get_read, same_name, Twice, Slot, Kept, index_of, names_of}
use Rattle.fb_st.proofs.lemmas.KeptAs.{kept_named}
use Rattle.fb_st.proofs.slot_list.SlotList.is_named.Goals as goal

pub returns-in-Some : goal.returns-in-Some
returns-in-Some c = λ known_so.
    let ks : List Kept = c.self.inside.kept.items in
    let i : ℕ = c.args.index in
    let k : Kept = c.in-Some.kept.now in
    let Reads : List Kept → Type 0 = λ l. (i < length l) × (k ≡ get_or l i k) in
    let read : Reads ks = subst Reads c.deref.ensures.value (c.in-Some.ensures.lookup.3.0, c.in-Some.ensures.lookup.1) in
    let Once : List Slot → Type 0 = λ l. ¬ (Twice (names_of l)) in
    let same : same_name c.args.name.now k.name ≡ true = sym c.is.ensures ∙ known_so in
    ap (index_of c.args.name.now) (sym c.self.view_is)
    ∙ kept_named c.args.name.now ks c.self.inside.words.items i k c.self.invariant.0 (subst Once (sym c.self.view_is) c.requires)
    (slice_get_read ks (length ks) i k refl read.0 read.1) same
