use Rattle.std.proofs.Common.{Some, rules, arith, sym, ap, ◌∙◌}
use Rattle.fb_net.specs.declared.block.Block.TheVariants as block
use Rattle.fb_net.proofs.lemmas.blocks.Descents.{changed_below, changed_here, first_there, here_is}
use Rattle.fb_net.proofs.lemmas.blocks.EventBlockReactions.{all_new, has_answered, typed_here}
use Rattle.fb_net.proofs.taking.event_blocks.+react_at.Goals as goal

pub unreachable-requires : goal.unreachable-requires
unreachable-requires t c = first_there c.args.blocks.now c.args.first c.args.below.now _ c.requires.event.stood (sym c.in_default.ensures.value)

-- ---- At the end of the way

pub returns-in-Event-clause-reacted : goal.returns-in-Event-clause-reacted
returns-in-Event-clause-reacted t c =
    let here = here_is c.args.blocks.now c.args.first c.args.below.now c.in-Some.slot.now _ c.in-empty.len_below (sym c.in-Some.ensures.value) c.requires.event.stood in
    let was = c.in-Event.is ∙ ap block.Event (sym c.in-Event.state-is) in
    let typed = typed_here c.in-Some.slot.now c.requires.event.state _ c.args.inputs.now was (ap (λ b. Some b) here) c.requires.event.typed in
    changed_here _ c.args.blocks.now c.args.first c.args.below.now c.in-Some.slot.now (sym c.in-Some.ensures.value) _ c.react.result (omega (arith, c.in-empty.len_below))
    (record {
      event = _;
      state = c.react.new.state;
      was_event = was;
      is_event = search rules;
      answered = has_answered c.react.result _ _ c.react.new.state c.react.new.ask c.args.emits.now c.react.new.emits c.requires.fresh (c.react.ensures.memory typed) (c.react.ensures.timer typed) (c.react.ensures.emitted typed);
      kind = c.react.ensures.kind;
      well_formed = all_new _ c.args.emits.now c.react.new.emits c.requires.fresh c.react.ensures.well_formed;
    })

-- ---- Further down

pub returns-in-Some-components_mut-clause-reacted : goal.returns-in-Some-components_mut-clause-reacted
returns-in-Some-components_mut-clause-reacted t c =
    changed_below _ c.args.blocks.now c.args.first c.args.below.now c.in-Some.slot.now (sym c.in-Some.ensures.value) _ c.react_at.new.blocks c.react_at.result (omega (arith, c.in-len1-up.len_at_least))
    c.in-Some-components_mut.ensures.value c.react_at.ensures.reacted
