use Rattle.fb_check.proofs.lemmas.Common.{◌++◌, append_assoc, refl, sym, ◌∙◌, unless, required_transition}
use Rattle.fb_check_names.specs.declared.location.TransitionPart.TheVariants.{From, To, Event}
use Rattle.fb_check_names.specs.declared.location.UnknownName.TheVariants as location
use Rattle.fb_check.proofs.lemmas.types.GrowingLists.{and_added}
use Rattle.fb_check.proofs.lemmas.types.RequiredNames.{unmet_is}
use Rattle.fb_check.proofs.types.charts.push_names.Goals as goal

pub returns : goal.returns
returns c =
    let t = c.args.scope.now in
    let x = c.args.declared.now in
    let at = location.Transition c.args.block c.args.transition in
    let from = unmet_is (required_transition t x From) c.is_state.result (at From) c.is_state.ensures in
    let to = unmet_is (required_transition t x To) c.is_state-2.result (at To) c.is_state-2.ensures in
    let event = unmet_is (required_transition t x Event) c.is_event-is_known.result (at Event) c.is_event-is_known.ensures in
    let p = unless c.is_state.result (at From) in
    let q = unless c.is_state-2.result (at To) in
    let r = unless c.is_event-is_known.result (at Event) in
    let f0 = c.args.found.now.items in
    let f1 = c.push_unless.new.found.items in
    let f2 = c.push_unless-2.new.found.items in
    and_added c.and-2.result c.and.result c.push_unless-3.result f0 f2 c.push_unless-3.new.found.items (p ++ q) r _
    ((λ i. from i ++ (to i ++ event i)) ∙ sym (append_assoc p q r)) c.and-2.ensures
    (and_added c.and.result c.push_unless.result c.push_unless-2.result f0 f1 f2 p q _ refl c.and.ensures c.push_unless.ensures c.push_unless-2.ensures)
    c.push_unless-3.ensures
