use Rattle.fb_check.proofs.lemmas.Common.{List, sym, subst, arith, All, StimulusLocation, IsBadAt}
use Rattle.fb_types.proofs.Common.{All-nil}
use Rattle.fb_check.proofs.lemmas.networks.SearchLoops.{at_element}
use Rattle.fb_check.proofs.lemmas.GoodStimuli.{Known, none_bad}
use Rattle.fb_check.proofs.lemmas.RefusedStimuli.{refused_none, refused_all}
use Rattle.fb_check.proofs.lemmas.StimulusRows.{added_all, added_bad, added_rows, all_of, rows_none, rows_all}
use Rattle.fb_check.proofs.stimuli.rows_by.Goals as goal

pub loop-row-init : goal.loop-row-init
loop-row-init c =
    let lib = c.args.library.now in
    let ss = c.args.stimuli.now in
    record {
      within = omega arith;
      each = subst (λ (ps : List StimulusLocation). All (IsBadAt lib ss) ps) (sym c.requires.empty) (All-nil (IsBadAt lib ss));
      all = λ k s below. absurd (omega (arith, below));
      rows = λ _. (refused_none lib, rows_none lib ss _ c.new-rows.ensures);
    }

pub loop-row-preserved : goal.loop-row-preserved
loop-row-preserved c =
    let lib = c.args.library.now in
    let ss = c.args.stimuli.now in
    let k = c.loop-row.row in
    let s = c.index-stimuli-row.result in
    let at = at_element ss k s c.loop-row-test.true c.index-stimuli-row.is in
    let known : Known lib = record { plan = c.requires.names.0; once = c.requires.names.1.once; known = c.requires.names.2 } in
    record {
      within = (let test = c.loop-row-test.true in omega (arith, test));
      each = added_bad lib ss k s c.in_ok-made.made _ _ _ _ at c.in_ok-made.ensures c.in_ok-push_row.ensures c.loop-row.invariant.each;
      all = added_all lib ss k s c.in_ok-made.made _ _ _ _ known at c.in_ok-made.ensures c.in_ok-push_row.ensures c.loop-row.invariant.all;
      rows = added_rows lib ss k s c.in_ok-made.made _ _ _ _ c.loop-row-test.true c.index-stimuli-row.is c.in_ok-made.ensures c.in_ok-push_row.ensures c.loop-row.invariant.rows;
    }

pub returns-clause-each : goal.returns-clause-each
returns-clause-each c = c.loop-row.invariant.each

pub returns-clause-all : goal.returns-clause-all
returns-clause-all c = all_of c.args.library.now c.args.stimuli.now _ _ c.loop-row-test.false c.loop-row.invariant.all

pub returns-clause-rows : goal.returns-clause-rows
returns-clause-rows c = λ none.
    let lib = c.args.library.now in
    let ss = c.args.stimuli.now in
    let all = c.loop-row.invariant.rows none in
    record {
      good = none_bad lib c.requires.names.0 ss c.requires.names.1.once c.requires.names.2 (refused_all lib ss _ c.loop-row-test.false all.0);
      rows = rows_all lib ss _ _ c.loop-row.invariant.within c.loop-row-test.false all.1;
    }
