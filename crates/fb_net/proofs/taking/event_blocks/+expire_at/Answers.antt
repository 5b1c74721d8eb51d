use Rattle.std.proofs.Common.{rules, arith, sym, ap, ◌∙◌}
use Rattle.fb_net.specs.declared.block.Block.TheVariants as block
use Rattle.fb_net.proofs.lemmas.blocks.Descents.{changed_below, changed_here, first_there}
use Rattle.fb_net.proofs.lemmas.blocks.EventBlockReactions.{all_new, has_answered}
use Rattle.fb_net.proofs.taking.event_blocks.+expire_at.Goals as goal

pub unreachable-requires : goal.unreachable-requires
unreachable-requires t c = first_there c.args.blocks.now c.args.first c.args.below.now _ c.requires.event.1 (sym c.in_default.ensures.value)

-- ---- At the end of the way

pub returns-in-Event-clause-reacted : goal.returns-in-Event-clause-reacted
returns-in-Event-clause-reacted t c =
    changed_here _ c.args.blocks.now c.args.first c.args.below.now c.in-Some.slot.now (sym c.in-Some.ensures.value) _ c.expire.result (omega (arith, c.in-empty.len_below))
    (record {
      event = _;
      state = c.expire.new.state;
      was_event = c.in-Event.is ∙ ap block.Event (sym c.in-Event.state-is);
      is_event = search rules;
      answered = has_answered c.expire.result _ _ c.expire.new.state c.expire.new.ask c.args.emits.now c.expire.new.emits c.requires.fresh c.expire.ensures.memory c.expire.ensures.timer c.expire.ensures.emitted;
      kind = c.expire.ensures.kind;
      well_formed = all_new _ c.args.emits.now c.expire.new.emits c.requires.fresh c.expire.ensures.well_formed;
    })

-- ---- Further down

pub returns-in-Some-components_mut-clause-reacted : goal.returns-in-Some-components_mut-clause-reacted
returns-in-Some-components_mut-clause-reacted t c =
    changed_below _ c.args.blocks.now c.args.first c.args.below.now c.in-Some.slot.now (sym c.in-Some.ensures.value) _ c.expire_at.new.blocks c.expire_at.result (omega (arith, c.in-len1-up.len_at_least))
    c.in-Some-components_mut.ensures.value c.expire_at.ensures.reacted
