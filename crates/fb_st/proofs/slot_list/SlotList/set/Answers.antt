use Rattle.fb_st.proofs.lemmas.Common.{◌≡◌, ◌<◌, ◌≤◌, ℕ, ℤ, List, Option, None, Some, refl, sym, ◌∙◌, ap, length, get_or, subst, arith, rules, to_z-of_z, slice_get, slice_get_read, pos, set, Slot, Kept}
use Rattle.fb_types.proofs.Common.{slice_get_past}
use mir.Syntax.{w64}
use mir.Val.{SFits}
use Rattle.fb_st.proofs.lemmas.KeptAs.{kept_at, kept_length, kept_past, set_word}
use Rattle.fb_st.proofs.slot_list.SlotList.set.Goals as goal

-- ---- No variable

pub returns-in_default-clause-there : goal.returns-in_default-clause-there
returns-in_default-clause-there c = λ s at.
    let ks : List Kept = c.self.inside.kept.items in
    let i : ℕ = c.args.index in
    let past : length ks ≤ i = subst (λ (l : List Kept). length l ≤ i) c.deref.ensures.value c.in_default.ensures.lookup.3 in
    let none = kept_past ks c.self.inside.words.items i c.self.invariant.0 (slice_get_past ks i past) in
    absurd (let bad : None ≡ Some s = sym none ∙ ap (λ l. slice_get l i) c.self.view_is ∙ at in cc)

-- ---- A variable

pub set_any-requires : goal.set_any-requires
set_any-requires c =
    let ks : List Kept = c.self.inside.kept.items in
    let zs : List ℤ = c.self.inside.words.items in
    let i : ℕ = c.args.index in
    let k : Kept = c.in-Some.kept.now in
    let Reads : List Kept → Type 0 = λ l. (i < length l) × (k ≡ get_or l i k) in
    let read : Reads ks = subst Reads c.deref.ensures.value (c.in-Some.ensures.lookup.3.0, c.in-Some.ensures.lookup.1) in
    let here : slice_get ks i ≡ Some k = slice_get_read ks (length ks) i k refl read.0 read.1 in
    let within : i < length ks = read.0 in
    let same : length c.args.self.now ≡ length ks = sym (ap (λ l. length l) c.self.view_is) ∙ kept_length ks zs c.self.invariant.0 in
    omega (arith, within, same)

pub index_mut-requires : goal.index_mut-requires
index_mut-requires c =
    let ks : List Kept = c.self.inside.kept.items in
    let zs : List ℤ = c.self.inside.words.items in
    let i : ℕ = c.args.index in
    let k : Kept = c.in-Some.kept.now in
    let Reads : List Kept → Type 0 = λ l. (i < length l) × (k ≡ get_or l i k) in
    let read : Reads ks = subst Reads c.deref.ensures.value (c.in-Some.ensures.lookup.3.0, c.in-Some.ensures.lookup.1) in
    let here : slice_get ks i ≡ Some k = slice_get_read ks (length ks) i k refl read.0 read.1 in
    let within : i < length ks = read.0 in
    omega (arith, within, c.self.invariant.0)

pub returns-in-Some-word_of-clause-there : goal.returns-in-Some-word_of-clause-there
returns-in-Some-word_of-clause-there c = λ s at.
    let ks : List Kept = c.self.inside.kept.items in
    let zs : List ℤ = c.self.inside.words.items in
    let i : ℕ = c.args.index in
    let k : Kept = c.in-Some.kept.now in
    let Reads : List Kept → Type 0 = λ l. (i < length l) × (k ≡ get_or l i k) in
    let read : Reads ks = subst Reads c.deref.ensures.value (c.in-Some.ensures.lookup.3.0, c.in-Some.ensures.lookup.1) in
    let here : slice_get ks i ≡ Some k = slice_get_read ks (length ks) i k refl read.0 read.1 in
    let fit : SFits w64 c.in-Some-word_of.word = search rules in
    rw (to_z-of_z fit)
    (set_word ks zs i k s c.in-Some-word_of.word c.args.value.now c.self.invariant.0 (c.self.invariant.1 c.if-self.true) here
    (ap (λ l. slice_get l i) c.self.view_is ∙ at) c.in-Some-word_of.ensures.1
    ∙ ap (λ (l : List Slot). set l i (record s { value = c.args.value.now })) c.self.view_is)

pub returns-in-Some-word_of-clause-past : goal.returns-in-Some-word_of-clause-past
returns-in-Some-word_of-clause-past c = λ at.
    let ks : List Kept = c.self.inside.kept.items in
    let zs : List ℤ = c.self.inside.words.items in
    let i : ℕ = c.args.index in
    let k : Kept = c.in-Some.kept.now in
    let Reads : List Kept → Type 0 = λ l. (i < length l) × (k ≡ get_or l i k) in
    let read : Reads ks = subst Reads c.deref.ensures.value (c.in-Some.ensures.lookup.3.0, c.in-Some.ensures.lookup.1) in
    let here : slice_get ks i ≡ Some k = slice_get_read ks (length ks) i k refl read.0 read.1 in
    let seen = kept_at ks zs i k c.self.invariant.0 here in
    absurd (let bad : None ≡ Some _ = sym at ∙ sym (ap (λ l. slice_get l i) c.self.view_is) ∙ seen in cc)

pub returns-in_default-word_of-clause-past : goal.returns-in_default-word_of-clause-past
returns-in_default-word_of-clause-past c = λ at.
    let ks : List Kept = c.self.inside.kept.items in
    let zs : List ℤ = c.self.inside.words.items in
    let i : ℕ = c.args.index in
    let k : Kept = c.in-Some.kept.now in
    let Reads : List Kept → Type 0 = λ l. (i < length l) × (k ≡ get_or l i k) in
    let read : Reads ks = subst Reads c.deref.ensures.value (c.in-Some.ensures.lookup.3.0, c.in-Some.ensures.lookup.1) in
    let here : slice_get ks i ≡ Some k = slice_get_read ks (length ks) i k refl read.0 read.1 in
    let seen = kept_at ks zs i k c.self.invariant.0 here in
    absurd (let bad : None ≡ Some _ = sym at ∙ sym (ap (λ l. slice_get l i) c.self.view_is) ∙ seen in cc)
