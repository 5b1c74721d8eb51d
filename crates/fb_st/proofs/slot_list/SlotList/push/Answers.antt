use Rattle.fb_st.proofs.lemmas.Common.{ℤ, List, [], ◌∷◌, ◌++◌, sym, ◌∙◌, ap, rules, arith, to_z-of_z, Value, Slot, Kept}
use Rattle.fb_types.proofs.Common.{length-append}
use mir.Syntax.{w64}
use mir.Val.{SFits}
use Rattle.fb_st.specs.Kept.{kept_as}
use Rattle.fb_st.proofs.lemmas.Comes.{both_true}
use Rattle.fb_st.proofs.lemmas.KeptAs.{kept_push, none_so, plain_push}
use Rattle.fb_st.proofs.slot_list.SlotList.push.Goals as goal

pub invariant_of-self : goal.invariant_of-self
invariant_of-self c =
    let same = c.in_err-push_both.ensures.err in
    rw (same.0, same.1) c.self.invariant

pub invariant_of-self-2 : goal.invariant_of-self-2
invariant_of-self-2 c =
    let ks : List Kept = c.self.inside.kept.items in
    let zs : List ℤ = c.self.inside.words.items in
    let fit : SFits w64 c.parted-word.result.0 = search rules in
    let k : Kept = record { name = c.args.slot.name; ty = c.args.slot.ty; odd = c.parted-word.result.1 } in
    let pushed = rw (to_z-of_z fit) at c.in_ok-push_both.ensures.ok in
    rw (pushed.0, pushed.1) (
      (let a = length-append zs (c.parted-word.result.0 ∷ []) in let b = length-append ks (k ∷ []) in let same = c.self.invariant.0 in omega arith),
      (λ plain.
          let parts = both_true c.self.inside.is_plain c.is_none-is_plain.result (sym c.are_both-self-inside.ensures ∙ plain) in
          plain_push ks k (c.self.invariant.1 parts.0) (none_so c.parted-word.result.1 c.is_none-is_plain.result c.is_none-is_plain.ensures parts.1)),
    )

pub returns : goal.returns
returns c =
    let ks : List Kept = c.self.inside.kept.items in
    let zs : List ℤ = c.self.inside.words.items in
    let fit : SFits w64 c.parted-word.result.0 = search rules in
    let k : Kept = record { name = c.args.slot.name; ty = c.args.slot.ty; odd = c.parted-word.result.1 } in
    let pushed = rw (to_z-of_z fit) at c.in_ok-push_both.ensures.ok in
    rw (pushed.0, pushed.1)
    (kept_push ks zs k c.parted-word.result.0 c.self.invariant.0
    ∙ ap (λ (v : Value). kept_as ks zs ++ (record { name = c.args.slot.name; ty = c.args.slot.ty; value = v }) ∷ []) c.parted-word.ensures
    ∙ ap (λ (l : List Slot). l ++ c.args.slot ∷ []) c.self.view_is)
