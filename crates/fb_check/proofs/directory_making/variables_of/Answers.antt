use Rattle.fb_types.proofs.Common.{refl, sym, ◌∙◌, Name}
use Rattle.fb_types.specs.declared.library.Variable.{Variable}
use Rattle.fb_check.specs.Directory.{input_of}
use Rattle.fb_check.proofs.lemmas.FilledByName.{at_name, first_none, first_kept, first_more}
use Rattle.fb_check.proofs.directory_making.variables_of.Goals as goal
use Rattle.fb_check.proofs.directory_making.variables_of.Goals.{then-not-contains_key+in_ok-insert, else-not-contains_key}

abbrev name_of : Variable → Name
name_of e = e.name

pub loop-index-init : goal.loop-index-init
loop-index-init c = first_none name_of input_of _ c.new-inputs.ensures.empty

pub loop-index-preserved : goal.loop-index-preserved
loop-index-preserved c =
    elim c.if-not-contains_key.branch [
      | then-not-contains_key+in_ok-insert w ↦
          rw w.inputs-is
          (first_more name_of input_of _ _ _ c.loop-index.inputs _ (at_name (name_of c.index-variables-index.result)) _ c.loop-index-test.true c.index-variables-index.is refl
          refl (sym c.contains_key.ensures ∙ w.if-not-contains_key.true) c.loop-index.invariant w.in_ok-insert.ensures.updates.0)
      | else-not-contains_key w ↦
          rw w.inputs-is
          (first_kept name_of input_of _ _ _ c.loop-index.inputs (name_of c.index-variables-index.result) c.loop-index-test.true c.index-variables-index.is refl
          (sym c.contains_key.ensures ∙ w.if-not-contains_key.false) c.loop-index.invariant)
    ]
