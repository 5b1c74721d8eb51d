use Rattle.std.proofs.Common.{[], ◌∷◌, take, sym, ◌∙◌, ap, to_z-of_z}
use Rattle.fb_st.proofs.lemmas.KeptAs.{written_back}
use Rattle.fb_st.proofs.slot_list.push_both.Goals as goal

pub returns-in-Err-clause-err : goal.returns-in-Err-clause-err
returns-in-Err-clause-err c = (
  c.in-Err.ensures.items,
  c.truncate.ensures.items ∙ ap (take c.len-count.result) (rw (to_z-of_z c.ranges.word) at c.in_ok-push.ensures.items)
      ∙ written_back c.args.words.now.items (c.args.word ∷ []) c.len-count.result (sym (c.len-count.ensures ∙ c.args.words.now.ok.0)),
)
