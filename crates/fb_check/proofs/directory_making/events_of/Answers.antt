use Rattle.fb_types.proofs.Common.{ℕ, refl, sym, ◌∙◌, Name}
use Rattle.fb_types.specs.declared.library.EventPort.{EventPort}
use Rattle.fb_check.proofs.lemmas.FilledByName.{at_name, first_none, first_kept, first_more}
use Rattle.fb_check.proofs.directory_making.events_of.Goals as goal
use Rattle.fb_check.proofs.directory_making.events_of.Goals.{then-not-contains_key+in_ok-insert, else-not-contains_key}

abbrev name_of : EventPort → Name
name_of e = e.name

abbrev index_of : ℕ → EventPort → ℕ
index_of k e = k

pub loop-index-init : goal.loop-index-init
loop-index-init c = first_none name_of index_of _ c.new-indexes.ensures.empty

pub loop-index-preserved : goal.loop-index-preserved
loop-index-preserved c =
    elim c.if-not-contains_key.branch [
      | then-not-contains_key+in_ok-insert w ↦
          rw w.indexes-is
          (first_more name_of index_of _ _ _ c.loop-index.indexes _ (at_name (name_of c.index-events-index.result)) _ c.loop-index-test.true c.index-events-index.is refl
          refl (sym c.contains_key.ensures ∙ w.if-not-contains_key.true) c.loop-index.invariant w.in_ok-insert.ensures.updates.0)
      | else-not-contains_key w ↦
          rw w.indexes-is
          (first_kept name_of index_of _ _ _ c.loop-index.indexes (name_of c.index-events-index.result) c.loop-index-test.true c.index-events-index.is refl
          (sym c.contains_key.ensures ∙ w.if-not-contains_key.false) c.loop-index.invariant)
    ]
