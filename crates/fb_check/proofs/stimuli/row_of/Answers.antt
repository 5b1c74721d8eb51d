use Rattle.fb_check.proofs.lemmas.Common.{ℕ, List, Option, Some, None, Result, refl, sym, ◌∙◌, ap, subst, option_copied, is_some, instance_names, InputValue, IsFound, slot_of, TypeInputs}
use Rattle.fb_types.proofs.Common.{MatchOption, Twice}
use Rattle.fb_types.specs.Accepted.{set_names}
use Rattle.fb_check_names.specs.Repeats.{IsFirstRepeat}
use Rattle.fb_check.specs.Stimuli.{AreSlotsOr}
use Rattle.fb_check.specs.Directory.{ports_at_index}
use Rattle.fb_check.proofs.lemmas.DirectoryEntries.{unknown_instance}
use Rattle.fb_check.proofs.lemmas.GoodStimuli.{Known, found_at, no_event, no_instance, placed_at}
use Rattle.fb_check.proofs.lemmas.StimulusRows.{slot_none, taken_is}
use Rattle.fb_check.proofs.stimuli.row_of.Goals as goal

pub returns-in_default : goal.returns-in_default
returns-in_default c =
    let lib = c.args.library.now in
    let s = c.args.stimulus.now in
    let at = placed_at (instance_names lib.application.network) c.args.catalog.now.instances s.instance s.instance c.index_of_name.result
    c.requires.names.1.instances refl c.index_of_name.ensures in
    no_instance lib s (unknown_instance lib s.instance (at ∙ c.in_default.is))

pub returns-in_default-inputs_at : goal.returns-in_default-inputs_at
returns-in_default-inputs_at c =
    let lib = c.args.library.now in
    let s = c.args.stimulus.now in
    let at = placed_at (instance_names lib.application.network) c.args.catalog.now.instances s.instance s.instance c.index_of_name.result
    c.requires.names.1.instances refl c.index_of_name.ensures in
    let P : Option TypeInputs → Type 0 = λ o. IsFound (ports_at_index lib c.in-Some.index) o in
    no_instance lib s (found_at lib s c.in-Some.index None (at ∙ c.in-Some.is, subst P (ap option_copied c.in_default-inputs_at.is) c.inputs_at.ensures.found))

pub returns-in_default-copied : goal.returns-in_default-copied
returns-in_default-copied c =
    let lib = c.args.library.now in
    let s = c.args.stimulus.now in
    let at = placed_at (instance_names lib.application.network) c.args.catalog.now.instances s.instance s.instance c.index_of_name.result
    c.requires.names.1.instances refl c.index_of_name.ensures in
    let x = c.in-Some-inputs_at.inputs.now in
    let P : Option TypeInputs → Type 0 = λ o. IsFound (ports_at_index lib c.in-Some.index) o in
    no_event lib s x (found_at lib s c.in-Some.index (Some x) (at ∙ c.in-Some.is, subst P (ap option_copied c.in-Some-inputs_at.is) c.inputs_at.ensures.found))
    (ap is_some (sym (c.copied.ensures ∙ c.get.ensures.value) ∙ c.in_default-copied.is))

pub returns-in-Err : goal.returns-in-Err
returns-in-Err c =
    let lib = c.args.library.now in
    let s = c.args.stimulus.now in
    let at = placed_at (instance_names lib.application.network) c.args.catalog.now.instances s.instance s.instance c.index_of_name.result
    c.requires.names.1.instances refl c.index_of_name.ensures in
    let x = c.in-Some-inputs_at.inputs.now in
    let P : Option TypeInputs → Type 0 = λ o. IsFound (ports_at_index lib c.in-Some.index) o in
    let known : Known lib = record { plan = c.requires.names.0; once = c.requires.names.1.once; known = c.requires.names.2 } in
    let found = found_at lib s c.in-Some.index (Some x) (at ∙ c.in-Some.is, subst P (ap option_copied c.in-Some-inputs_at.is) c.inputs_at.ensures.found) in
    let Q : Result (List InputValue) ℕ → Type 0 = AreSlotsOr (slot_of c.args.directory.now x s) s.settings in
    let w = subst Q c.in-Err.is c.in_ok-sets.ensures in
    (w.0, w.1, slot_none lib c.args.directory.now x s w.0 known c.requires.directory found w.2)

pub returns : goal.returns
returns c =
    let lib = c.args.library.now in
    let d = c.args.directory.now in
    let s = c.args.stimulus.now in
    let at = placed_at (instance_names lib.application.network) c.args.catalog.now.instances s.instance s.instance c.index_of_name.result
    c.requires.names.1.instances refl c.index_of_name.ensures in
    let x = c.in-Some-inputs_at.inputs.now in
    let P : Option TypeInputs → Type 0 = λ o. IsFound (ports_at_index lib c.in-Some.index) o in
    let Q : Result (List InputValue) ℕ → Type 0 = AreSlotsOr (slot_of d x s) s.settings in
    let R : Option ℕ → Type 0 = λ o. MatchOption o (¬ (Twice (set_names s))) (IsFirstRepeat (set_names s)) in
    taken_is lib d s x _ c.in-Some.index c.in-Some-copied.event c.requires.directory
    (at ∙ c.in-Some.is, subst P (ap option_copied c.in-Some-inputs_at.is) c.inputs_at.ensures.found)
    (sym (c.copied.ensures ∙ c.get.ensures.value) ∙ c.in-Some-copied.is)
    (subst R c.in_default-repeated.is c.in_ok-repeated.ensures) (subst Q c.in-Ok.is c.in_ok-sets.ensures)
    refl refl refl
