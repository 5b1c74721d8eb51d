use Rattle.std.proofs.Common.{Result, refl, sym, subst}
use Rattle.fb_system.specs.declared.rows.StimulusRow.{StimulusRow}
use Rattle.fb_check.specs.Stimuli.{IsAdded}
use Rattle.fb_check.specs.declared.location.StimulusFault.{StimulusFault}
use Rattle.fb_check.proofs.lemmas.types.GrowingLists.{if_ok}
use Rattle.fb_check.proofs.stimuli.push_row.Goals as goal

pub returns-in-Ok : goal.returns-in-Ok
returns-in-Ok c =
    let old = c.args.found.now.items in
    if_ok c.push.result
    (λ _ added. subst (λ (r : Result StimulusRow StimulusFault). IsAdded c.args.row r c.args.rows.now c.push.new.self old old) (sym c.in-Ok.is) (added, refl))
    c.push.ensures.ok

pub returns-in-Err : goal.returns-in-Err
returns-in-Err c =
    let rows = c.args.rows.now in
    if_ok c.push_one.result
    (λ _ added. subst (λ (r : Result StimulusRow StimulusFault). IsAdded c.args.row r rows rows c.args.found.now.items c.push_one.new.all.items) (sym c.in-Err.is) (refl, added))
    c.push_one.ensures
