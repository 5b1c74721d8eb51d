use Rattle.fb_st.proofs.lemmas.Common.{◌≡◌, ◌<◌, ◌≤◌, ℕ, ℤ, List, Option, None, Some, refl, sym, ◌∙◌, ap, length, get_or, subst, arith, rules, to_z-of_z, slice_get, slice_get_read, pos, Value, Slot, Kept, word_at, value_of_word}
use Rattle.fb_types.proofs.Common.{unwrap_or, get_or_from_slice_get, slice_get_past}
use mir.Syntax.{w64}
use mir.Val.{SFits}
use Rattle.fb_st.proofs.lemmas.KeptAs.{kept_at, kept_is, kept_past}
use Rattle.fb_st.proofs.slot_list.SlotList.value.Goals as goal

-- ---- No variable

pub returns-in_default-clause-there : goal.returns-in_default-clause-there
returns-in_default-clause-there c = λ s at.
    let ks : List Kept = c.self.inside.kept.items in
    let i : ℕ = c.args.index in
    let past : length ks ≤ i = subst (λ (l : List Kept). length l ≤ i) c.deref.ensures.value c.in_default.ensures.lookup.3 in
    let none = kept_past ks c.self.inside.words.items i c.self.invariant.0 (slice_get_past ks i past) in
    absurd (let bad : None ≡ Some s = sym none ∙ ap (λ l. slice_get l i) c.self.view_is ∙ at in cc)

-- ---- A variable

pub index-requires : goal.index-requires
index-requires c =
    let ks : List Kept = c.self.inside.kept.items in
    let zs : List ℤ = c.self.inside.words.items in
    let i : ℕ = c.args.index in
    let k : Kept = c.in-Some.kept.now in
    let Reads : List Kept → Type 0 = λ l. (i < length l) × (k ≡ get_or l i k) in
    let read : Reads ks = subst Reads c.deref.ensures.value (c.in-Some.ensures.lookup.3.0, c.in-Some.ensures.lookup.1) in
    let here : slice_get ks i ≡ Some k = slice_get_read ks (length ks) i k refl read.0 read.1 in
    let within : i < length ks = read.0 in
    omega (arith, within, c.self.invariant.0)

pub returns-in-Some-odd-clause-there : goal.returns-in-Some-odd-clause-there
returns-in-Some-odd-clause-there c = λ s at.
    let ks : List Kept = c.self.inside.kept.items in
    let zs : List ℤ = c.self.inside.words.items in
    let i : ℕ = c.args.index in
    let k : Kept = c.in-Some.kept.now in
    let Reads : List Kept → Type 0 = λ l. (i < length l) × (k ≡ get_or l i k) in
    let read : Reads ks = subst Reads c.deref.ensures.value (c.in-Some.ensures.lookup.3.0, c.in-Some.ensures.lookup.1) in
    let here : slice_get ks i ≡ Some k = slice_get_read ks (length ks) i k refl read.0 read.1 in
    let same = kept_is ks zs i k s c.self.invariant.0 here (ap (λ l. slice_get l i) c.self.view_is ∙ at) in
    ap (λ (o : Option Value). unwrap_or o (value_of_word k.ty (word_at zs i))) (sym c.in-Some-odd.is) ∙ ap (λ (t : Slot). t.value) same

pub returns-in-None-clause-there : goal.returns-in-None-clause-there
returns-in-None-clause-there c = λ s at.
    let ks : List Kept = c.self.inside.kept.items in
    let zs : List ℤ = c.self.inside.words.items in
    let i : ℕ = c.args.index in
    let k : Kept = c.in-Some.kept.now in
    let Reads : List Kept → Type 0 = λ l. (i < length l) × (k ≡ get_or l i k) in
    let read : Reads ks = subst Reads c.deref.ensures.value (c.in-Some.ensures.lookup.3.0, c.in-Some.ensures.lookup.1) in
    let here : slice_get ks i ≡ Some k = slice_get_read ks (length ks) i k refl read.0 read.1 in
    let same = kept_is ks zs i k s c.self.invariant.0 here (ap (λ l. slice_get l i) c.self.view_is ∙ at) in
    let z : ℤ = c.index.result.now in
    let within_words : i < length zs = let within : i < length ks = read.0 in let len = c.self.invariant.0 in omega arith in
    let there = slice_get_read zs (length zs) i z refl within_words c.index.ensures in
    let fit : SFits w64 z = search rules in
    let known_so = rw (to_z-of_z fit) at c.value_of.ensures in
    known_so
    ∙ ap (value_of_word k.ty) (sym (get_or_from_slice_get zs i z (pos 0) there))
    ∙ ap (λ (o : Option Value). unwrap_or o (value_of_word k.ty (word_at zs i))) (sym c.in-None.is) ∙ ap (λ (t : Slot). t.value) same

pub returns-in-Some-odd-clause-past : goal.returns-in-Some-odd-clause-past
returns-in-Some-odd-clause-past c = λ at.
    let ks : List Kept = c.self.inside.kept.items in
    let zs : List ℤ = c.self.inside.words.items in
    let i : ℕ = c.args.index in
    let k : Kept = c.in-Some.kept.now in
    let Reads : List Kept → Type 0 = λ l. (i < length l) × (k ≡ get_or l i k) in
    let read : Reads ks = subst Reads c.deref.ensures.value (c.in-Some.ensures.lookup.3.0, c.in-Some.ensures.lookup.1) in
    let here : slice_get ks i ≡ Some k = slice_get_read ks (length ks) i k refl read.0 read.1 in
    let seen = kept_at ks zs i k c.self.invariant.0 here in
    absurd (let bad : None ≡ Some _ = sym at ∙ sym (ap (λ l. slice_get l i) c.self.view_is) ∙ seen in cc)

pub returns-in-None-clause-past : goal.returns-in-None-clause-past
returns-in-None-clause-past c = λ at.
    let ks : List Kept = c.self.inside.kept.items in
    let zs : List ℤ = c.self.inside.words.items in
    let i : ℕ = c.args.index in
    let k : Kept = c.in-Some.kept.now in
    let Reads : List Kept → Type 0 = λ l. (i < length l) × (k ≡ get_or l i k) in
    let read : Reads ks = subst Reads c.deref.ensures.value (c.in-Some.ensures.lookup.3.0, c.in-Some.ensures.lookup.1) in
    let here : slice_get ks i ≡ Some k = slice_get_read ks (length ks) i k refl read.0 read.1 in
    let seen = kept_at ks zs i k c.self.invariant.0 here in
    absurd (let bad : None ≡ Some _ = sym at ∙ sym (ap (λ l. slice_get l i) c.self.view_is) ∙ seen in cc)
