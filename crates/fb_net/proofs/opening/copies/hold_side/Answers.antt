use Rattle.fb_types.proofs.Common.{◌∙◌, List, ap, refl, get_or_from_slice_get, on_ok_weaker, slice_get, system_of}
use Rattle.fb_types.specs.declared.value.Value.{Value}
use Rattle.fb_net.proofs.lemmas.opening.OpeningCopies.{set_keeps, set_starts, side_keeps, side_starts_so, starts_there}
use Rattle.fb_net.proofs.opening.copies.hold_side.Goals as goal

pub returns-in-None-clause-here : goal.returns-in-None-clause-here
returns-in-None-clause-here c =
    on_ok_weaker c.add.result (side_starts_so c.args.system.now c.args.held.now c.add.new.self c.args.variable c.requires c.in_ok-values.values c.in_ok-values.ensures) c.add.ensures

pub returns-in-None-clause-kept : goal.returns-in-None-clause-kept
returns-in-None-clause-kept c =
    on_ok_weaker c.add.result (side_keeps c.args.system.now c.args.held.now c.add.new.self c.args.variable c.in_ok-values.values c.in_ok-values.ensures) c.add.ensures

-- a copy that was there has what it begins with again
pub returns-in-Some-clause-here : goal.returns-in-Some-clause-here
returns-in-Some-clause-here c =
    let x = c.args.variable in
    let there = starts_there (system_of c.args.system.now) x x refl c.requires c.in_ok-values.values c.in_ok-values.ensures in
    let read = ap (λ (vs : List Value). slice_get vs x.variable) c.as_slice.ensures ∙ there in
    set_starts c.args.system.now c.args.held.now c.set.new.self x _ _ (get_or_from_slice_get c.as_slice.result.now x.variable _ _ read) c.in-Some.ensures c.set.ensures

pub returns-in-Some-clause-kept : goal.returns-in-Some-clause-kept
returns-in-Some-clause-kept c =
    let x = c.args.variable in
    let there = starts_there (system_of c.args.system.now) x x refl c.requires c.in_ok-values.values c.in_ok-values.ensures in
    let read = ap (λ (vs : List Value). slice_get vs x.variable) c.as_slice.ensures ∙ there in
    set_keeps c.args.system.now c.args.held.now c.set.new.self x _ _ (get_or_from_slice_get c.as_slice.result.now x.variable _ _ read) c.in-Some.ensures c.set.ensures
