use Rattle.fb_st.proofs.lemmas.Common.{ℤ, List, length, map, sym, ◌∙◌, ap, subst, Name, Twice, truth_of, fits_truth, truth_said, Declared, values_of, expr_of_truth, kinds_truth, Kept}
use Rattle.fb_st.specs.Compiled.{truth_at}
use Rattle.fb_st.proofs.lemmas.Comes.{both_true, condition_comes}
use Rattle.fb_st.proofs.lemmas.KeptAs.{plain_layout}
use Rattle.fb_st.proofs.lemmas.Slots.{names_declared}
use Rattle.fb_st.proofs.slot_list.SlotList.holds_condition.Goals as goal

pub is_true-requires : goal.is_true-requires
is_true-requires c =
    let ds : List Declared = c.args.layout.now in
    let ks : List Kept = c.self.inside.kept.items in
    let zs : List ℤ = c.self.inside.words.items in
    let known_so = plain_layout ds ks zs c.args.self.now (c.self.invariant.1 c.if-not-self.false) c.self.invariant.0 c.self.view_is c.requires.layout in
    let right = both_true (fits_truth (length ds) (truth_said c.args.condition.now)) (kinds_truth ds (truth_said c.args.condition.now)) c.requires.right in
    ap (λ n. fits_truth n (truth_said c.args.condition.now)) (ap (λ (l : List ℤ). length l) c.as_slice.ensures.value ∙ known_so.1) ∙ right.0

pub returns : goal.returns
returns c =
    let ds : List Declared = c.args.layout.now in
    let ks : List Kept = c.self.inside.kept.items in
    let zs : List ℤ = c.self.inside.words.items in
    let known_so = plain_layout ds ks zs c.args.self.now (c.self.invariant.1 c.if-not-self.false) c.self.invariant.0 c.self.view_is c.requires.layout in
    let right = both_true (fits_truth (length ds) (truth_said c.args.condition.now)) (kinds_truth ds (truth_said c.args.condition.now)) c.requires.right in
    let P : List Name → Type 0 = λ ns. ¬ (Twice ns) in
    let once = subst P (sym (names_declared c.args.self.now) ∙ ap (map (λ d. d.0)) (sym c.requires.layout)) c.requires.once in
    c.is_true.ensures
    ∙ ap (truth_at (truth_said c.args.condition.now)) c.as_slice.ensures.value
    ∙ sym (condition_comes ds zs known_so.1 once (truth_said c.args.condition.now) right.1)
    ∙ ap (λ l. truth_of (expr_of_truth ds (truth_said c.args.condition.now)) (values_of l)) known_so.0
