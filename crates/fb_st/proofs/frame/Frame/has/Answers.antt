use Rattle.fb_types.proofs.Common.{sym, ◌∙◌, ap, list_any, same_name}
use Rattle.fb_st.proofs.lemmas.Once.{tested}
use Rattle.fb_st.proofs.frame.Frame.has.Goals as goal

pub returns : goal.returns
returns c =
    c.has.ensures
    ∙ ap (λ l. list_any (λ s. same_name c.args.name.now s.name) l) c.self.view_is
    ∙ sym (tested c.args.self.now c.args.name.now)
