use Rattle.fb_types.proofs.Common.{ap, sym, ◌<◌, ◌∙◌, get_or, length, List, ℕ, subst, unwrap_or, slice_get-get_or}
use Rattle.fb_net.proofs.resource.Forest.shell_index.Goals as goal

pub bounds-as_slice-instance : goal.bounds-as_slice-instance
bounds-as_slice-instance c = subst (λ (shell_indexes : List ℕ). c.args.instance < length shell_indexes) (sym c.as_slice.ensures) c.requires

pub returns : goal.returns
returns c =
    ap (λ (shell_indexes : List ℕ). get_or shell_indexes c.args.instance 0) c.as_slice.ensures
    ∙ sym (ap (λ o. unwrap_or o 0) (slice_get-get_or c.args.self.now.shell_indexes c.args.instance 0 c.requires))
