use Rattle.fb_net.proofs.lemmas.Common.{List, ℕ, sym, subst, Changed}
use Rattle.fb_event.specs.Reactions.{expiry_of}
use Rattle.fb_net.specs.Leaves.{HasTurned, IsEventAt, expiry_reaction}
use Rattle.fb_net.proofs.lemmas.blocks.EventBlockReactions.{event_there, expired_is, turned_came, turned_fit, turned_whole}
use Rattle.fb_net.proofs.taking.event_blocks.expire_event.Goals as goal

pub expire_at-requires-clause-event : goal.expire_at-requires-clause-event
expire_at-requires-clause-event c =
    subst (λ (way : List ℕ). IsEventAt c.args.forest.now.blocks way) (sym c.way-first.ensures)
    (event_there c.args.system.now c.args.forest.now c.args.instance c.args.kind c.requires.kind c.requires.instance c.requires.one)

pub returns-clause-reacted : goal.returns-clause-reacted
returns-clause-reacted c =
    let i = c.args.system.now in
    let f = c.args.forest.now in
    let k = c.args.instance in
    let tick = c.args.tick in
    let changed = subst (λ (way : List ℕ). Changed (HasTurned (λ s. expiry_of s tick) c.expire_at.new.ask c.expire_at.new.emits) f.blocks way c.expire_at.result c.expire_at.new.blocks)
    c.way-first.ensures c.expire_at.ensures.reacted in
    turned_came i c.facts.ensures.numbered f k c.requires.instance c.args.kind c.requires.kind (λ s. expiry_of s tick) c.expire_at.new.ask c.expire_at.new.emits c.expire_at.result
    c.expire_at.new.blocks changed (expiry_reaction i c.args.kind k tick) (expired_is i f k c.args.kind tick changed.ends.event)

pub returns-clause-emissions : goal.returns-clause-emissions
returns-clause-emissions c =
    let f = c.args.forest.now in
    let tick = c.args.tick in
    let changed = subst (λ (way : List ℕ). Changed (HasTurned (λ s. expiry_of s tick) c.expire_at.new.ask c.expire_at.new.emits) f.blocks way c.expire_at.result c.expire_at.new.blocks)
    c.way-first.ensures c.expire_at.ensures.reacted in
    turned_fit c.args.system.now c.facts.ensures.numbered f c.args.instance c.requires.instance c.args.kind c.requires.kind (λ s. expiry_of s tick) c.expire_at.new.ask c.expire_at.new.emits
    c.expire_at.result c.expire_at.new.blocks changed c.requires.one

pub returns-clause-whole : goal.returns-clause-whole
returns-clause-whole c =
    let f = c.args.forest.now in
    let tick = c.args.tick in
    let changed = subst (λ (way : List ℕ). Changed (HasTurned (λ s. expiry_of s tick) c.expire_at.new.ask c.expire_at.new.emits) f.blocks way c.expire_at.result c.expire_at.new.blocks)
    c.way-first.ensures c.expire_at.ensures.reacted in
    turned_whole c.args.system.now c.facts.ensures.numbered f c.args.instance c.requires.instance c.args.kind c.requires.kind (λ s. expiry_of s tick) c.expire_at.new.ask c.expire_at.new.emits
    c.expire_at.result c.expire_at.new.blocks changed c.requires.one
