use Rattle.fb_st.proofs.lemmas.Common.{◌∙◌, refl, ap, rules, to_z-of_z, value_of_word}
use mir.Syntax.{w64}
use mir.Val.{SFits}
use Rattle.fb_st.proofs.slot_list.parted.Goals as goal

pub returns-in-Some : goal.returns-in-Some
returns-in-Some c =
    let fit : SFits w64 c.in-Some.word = search rules in
    ap (value_of_word c.args.ty) (to_z-of_z fit) ∙ c.in-Some.ensures.1

pub returns-in-None : goal.returns-in-None
returns-in-None c = refl
