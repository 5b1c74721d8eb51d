use Rattle.fb_st.proofs.lemmas.Common.{◌<◌, ℕ, ℤ, List, refl, sym, ◌∙◌, ap, length, subst, slice_get, slice_get_read, fits, Slot, Kept}
use Rattle.fb_st.proofs.lemmas.KeptAs.{kept_is, kept_within}
use Rattle.fb_st.proofs.slot_list.SlotList.holds.Goals as goal

pub index-requires : goal.index-requires
index-requires c =
    let Within : ℕ → Type 0 = λ n. c.args.index < n in
    subst Within (sym c.self.inside.kept.ok.0) (kept_within c.self.inside.kept.items c.self.inside.words.items c.args.self.now c.args.index c.self.invariant.0 c.self.view_is c.requires)

pub returns : goal.returns
returns c = λ s at.
    let ks : List Kept = c.self.inside.kept.items in
    let zs : List ℤ = c.self.inside.words.items in
    let i : ℕ = c.args.index in
    let k : Kept = c.index.result.now in
    let within = kept_within ks zs c.args.self.now i c.self.invariant.0 c.self.view_is c.requires in
    let same = kept_is ks zs i k s c.self.invariant.0 (slice_get_read ks (length ks) i k refl within c.index.ensures) (ap (λ l. slice_get l i) c.self.view_is ∙ at) in
    c.holds.ensures ∙ ap (λ (t : Slot). fits t.ty c.args.value) same
