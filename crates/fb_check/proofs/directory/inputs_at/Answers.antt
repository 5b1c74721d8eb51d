use Rattle.fb_check.proofs.lemmas.Common.{Option, None, ap, sym, ◌∙◌, subst, option_copied, slice_get, IsFound, TypeInputs}
use Rattle.fb_types.proofs.Common.{event_block_named}
use Rattle.fb_check.proofs.lemmas.DirectoryEntries.{ports_named, found_event, found_none, found_declared, found_instance, missing_instance}
use Rattle.fb_check.proofs.directory.inputs_at.Goals as goal

pub returns-in_err-instance-clause-found : goal.returns-in_err-instance-clause-found
returns-in_err-instance-clause-found c =
    rw c.from_residual.ensures (missing_instance c.args.library.now c.args.index (sym c.get.ensures.value ∙ ap option_copied c.in_err-instance.was))

pub returns-in_err-index_of_name-in-None-clause-found : goal.returns-in_err-index_of_name-in-None-clause-found
returns-in_err-index_of_name-in-None-clause-found c =
    let lib = c.args.library.now in
    let x = c.in_ok-instance.instance.now in
    rw c.from_residual-in_err-index_of_name-in-None.ensures
    (found_instance lib c.args.index x None (sym c.get.ensures.value ∙ ap option_copied c.in_ok-instance.was)
    (found_none lib x.block_type (ap event_block_named (sym c.as_bytes.ensures) ∙ sym c.kind_named.ensures ∙ c.in-None.is)
    (sym (c.requires.catalog.1.types.index x.block_type) ∙ sym c.index_of_name.ensures ∙ c.in_err-index_of_name-in-None.was)))

pub returns-in-Some-clause-found : goal.returns-in-Some-clause-found
returns-in-Some-clause-found c =
    let lib = c.args.library.now in
    let x = c.in_ok-instance.instance.now in
    let P : Option TypeInputs → Type 0 = λ o. IsFound (ports_named lib x.block_type) o in
    found_instance lib c.args.index x (option_copied c.get-in-Some.result) (sym c.get.ensures.value ∙ ap option_copied c.in_ok-instance.was)
    (subst P (sym (c.get-in-Some.ensures.value ∙ (λ i. slice_get c.args.directory.now.event_blocks (c.index.ensures i))))
    (found_event lib c.args.directory.now x.block_type c.in-Some.kind (ap event_block_named (sym c.as_bytes.ensures) ∙ sym c.kind_named.ensures ∙ c.in-Some.is) c.requires.directory))

pub returns-in_ok-index_of_name-in-None-clause-found : goal.returns-in_ok-index_of_name-in-None-clause-found
returns-in_ok-index_of_name-in-None-clause-found c =
    let lib = c.args.library.now in
    let x = c.in_ok-instance.instance.now in
    let P : Option TypeInputs → Type 0 = λ o. IsFound (ports_named lib x.block_type) o in
    found_instance lib c.args.index x (option_copied c.get-in-None.result) (sym c.get.ensures.value ∙ ap option_copied c.in_ok-instance.was)
    (subst P (sym c.get-in-None.ensures.value)
    (found_declared lib c.args.directory.now x.block_type c.in_ok-index_of_name-in-None.field-0 (ap event_block_named (sym c.as_bytes.ensures) ∙ sym c.kind_named.ensures ∙ c.in-None.is)
    (sym (c.requires.catalog.1.types.index x.block_type) ∙ sym c.index_of_name.ensures ∙ c.in_ok-index_of_name-in-None.was) c.requires.directory))
