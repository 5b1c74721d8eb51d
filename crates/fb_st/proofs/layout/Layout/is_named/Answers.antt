use Rattle.fb_st.proofs.lemmas.Common.{◌≡◌, ◌<◌, ℕ, List, true, refl, sym, ◌∙◌, ap, length, get_or, subst, slice_get_read, same_name, Declared, name_at}
use Rattle.fb_types.proofs.lemmas.names.NameLaws.{same_from_same_name}
use Rattle.fb_st.specs.Fitting.{name_or}
use Rattle.fb_st.proofs.layout.Layout.is_named.Goals as goal

pub returns-in-Some : goal.returns-in-Some
returns-in-Some c = λ known_so.
    let ds : List Declared = c.self.inside.variables.items in
    let i : ℕ = c.args.slot in
    let d : Declared = c.in-Some.variable.now in
    let Reads : List Declared → Type 0 = λ l. (i < length l) × (d ≡ get_or l i d) in
    let read : Reads ds = subst Reads c.deref.ensures.value (c.in-Some.ensures.lookup.3.0, c.in-Some.ensures.lookup.1) in
    let named : same_name d.0 c.args.name.now ≡ true = sym c.is.ensures ∙ known_so in
    let OneResource : List Declared → Type 0 = λ l. (i < length l) × (name_at l i ≡ c.args.name.now) in
    subst OneResource c.self.view_is (read.0, ap name_or (slice_get_read ds (length ds) i d refl read.0 read.1) ∙ same_from_same_name d.0 c.args.name.now named)
