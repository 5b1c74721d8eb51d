use Rattle.fb_inputs.proofs.lemmas.Common.{refl, ap, ◌∙◌, length, err_from_is_err_and, all_after, stimuli_from, rows_from}
use Rattle.fb_inputs.proofs.lemmas.stimuli.Records.{at_end, failed_reading}
use Rattle.fb_inputs.proofs.lemmas.stimuli.Rows.{none_left}
use Rattle.fb_inputs.proofs.lemmas.stimuli.NextRecords.{one_left, turn_more, turn_refused}
use Rattle.fb_inputs.proofs.stimuli.add_all.Goals as goal

pub loop-read-init : goal.loop-read-init
loop-read-init c =
    let (z, here) = c.requires in
    rw c.into_iter-read-iterator.ensures.into_iter_gives
    (z, here, λ y there. ap (λ t. all_after c.args.found.now (stimuli_from (length c.args.found.now) (rows_from c.args.rows.now.rdr.state t))) (one_left c.args.rows.now y z there here))

pub add-requires : goal.add-requires
add-requires c =
    let (z, here, so_far) = c.loop-read.invariant in
    let step = rw c.in-Some.is at ((c.next.ensures.steps here.left here.trim).0 here.ready) in
    failed_reading c.loop-read.read-iterator.now z c.next.new.self.now.rdr _ c.in-Some.read here step

pub returns-in_err-add : goal.returns-in_err-add
returns-in_err-add c = λ y at.
    let (z, here, so_far) = c.loop-read.invariant in
    let step = rw c.in-Some.is at ((c.next.ensures.steps here.left here.trim).0 here.ready) in
    let flexible = rw c.in-Some.is at (c.next.ensures.steps here.left here.trim).3 in
    let refused = turn_refused c.loop-read.read-iterator.now c.next.new.self.now z c.loop-read.found _ c.in-Some.read c.in_err-add.field-0.0 here step flexible (rw c.in_err-add.was at c.add.ensures) in
    let p = err_from_is_err_and c.from_residual.result c.from_residual.ensures.1 in
    rw (p.1, p.2, so_far y at) refused

pub loop-read-preserved : goal.loop-read-preserved
loop-read-preserved c =
    let (z, here, so_far) = c.loop-read.invariant in
    let step = rw c.in-Some.is at ((c.next.ensures.steps here.left here.trim).0 here.ready) in
    let flexible = rw c.in-Some.is at (c.next.ensures.steps here.left here.trim).3 in
    let (x, there, found) = turn_more c.loop-read.read-iterator.now c.next.new.self.now z c.loop-read.found _ c.in-Some.read _ here step flexible (rw c.in_ok-add.was at c.add.ensures) in
    (x, there, λ y at. so_far y at ∙ found)

pub returns : goal.returns
returns c = λ y at.
    let (z, here, so_far) = c.loop-read.invariant in
    let step = rw c.in-None.is at ((c.next.ensures.steps here.left here.trim).0 here.ready) in
    let none = at_end c.loop-read.read-iterator.now c.next.new.self.now z here step in
    so_far y at ∙ none_left c.loop-read.found _ _ none refl
