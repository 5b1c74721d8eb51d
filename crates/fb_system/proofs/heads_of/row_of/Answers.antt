use Rattle.fb_types.proofs.Common.{List, ℕ, [], ◌++◌, ap, sym, ◌∙◌, unwrap_or-slice_get, system_of}
use Rattle.fb_system.specs.Heads.{first_text, head_text, head_variables}
use Rattle.fb_system.proofs.lemmas.rows.KeptHeads.{first_added}
use Rattle.fb_system.proofs.heads_of.row_of.Goals as goal

pub returns : goal.returns
returns c = λ kept.
    let sys = system_of c.args.system.now in
    let x = c.args.of in
    let vars = head_variables sys x in
    let name = c.resource_name.ensures ∙ sym (unwrap_or-slice_get sys.resource_names x.resource []) in
    let joined = rw (name, c.path.ensures, c.names_of.ensures.event) at c.in_ok-join.ensures in
    let whole =
    first_added c.names_of.result.1 c.join.new.text.items c.add_first.new.text.items (first_text vars) c.names_of.ensures.none c.names_of.ensures.some
    c.in_ok-add_first.ensures.none c.in_ok-add_first.ensures.some in
    record {
      within = c.with_text.ensures.within;
      text =
          c.with_text.ensures.text kept ∙ c.as_slice.ensures.value ∙ whole ∙ ap (λ (t : List ℕ). t ++ first_text vars) joined
          ∙ ap (λ (r : ℕ). head_text sys (record { resource = r; instance = x.instance; event = x.event; taken = x.taken })) (sym (c.with_text.ensures.named kept));
    }
