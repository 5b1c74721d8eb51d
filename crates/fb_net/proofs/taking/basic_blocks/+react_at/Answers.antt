use Rattle.fb_net.proofs.lemmas.Common.{◌≡◌, rules, arith, sym, ap, subst, ◌∙◌, BasicType, BasicState, Block}
use Rattle.fb_ecc.specs.Indexes.{IsBlockOf}
use Rattle.fb_net.specs.declared.block.Block.TheVariants as block
use Rattle.fb_net.proofs.lemmas.blocks.Descents.{changed_below, changed_here, first_there, here_is}
use Rattle.fb_net.proofs.taking.basic_blocks.+react_at.Goals as goal

pub unreachable-requires : goal.unreachable-requires
unreachable-requires t c = first_there c.args.blocks.now c.args.first c.args.below.now _ c.requires.ready.stood (sym c.in_default.ensures.value)

-- ---- At the end of the way

ready_here : (t : BasicType) (slot : Block) (s x : BasicState) → slot ≡ block.Basic s → slot ≡ block.Basic x → IsBlockOf t s → IsBlockOf t x
ready_here t slot s x is was ready = let same : s ≡ x = cc in subst (λ (b : BasicState). IsBlockOf t b) same ready

pub react-requires-clause-block : goal.react-requires-clause-block
react-requires-clause-block t c =
    let here = here_is c.args.blocks.now c.args.first c.args.below.now c.in-Some.slot.now _ c.in-empty.len_below (sym c.in-Some.ensures.value) c.requires.ready.stood in
    ready_here c.args.block.now c.in-Some.slot.now c.requires.ready.basic _ here (c.in-Basic.is ∙ ap block.Basic (sym c.in-Basic.state-is)) c.requires.ready.ready

pub returns-in-Basic-clause-reacted : goal.returns-in-Basic-clause-reacted
returns-in-Basic-clause-reacted t c =
    changed_here _ c.args.blocks.now c.args.first c.args.below.now c.in-Some.slot.now (sym c.in-Some.ensures.value) _ c.react.result (omega (arith, c.in-empty.len_below))
    (record {
      basic = _;
      state = c.react.new.state;
      was_basic = c.in-Basic.is ∙ ap block.Basic (sym c.in-Basic.state-is);
      is_basic = search rules;
      reacted = c.react.ensures.reacted;
      ready = c.react.ensures.block;
    })

-- ---- Further down

pub returns-in-Some-components_mut-clause-reacted : goal.returns-in-Some-components_mut-clause-reacted
returns-in-Some-components_mut-clause-reacted t c =
    changed_below _ c.args.blocks.now c.args.first c.args.below.now c.in-Some.slot.now (sym c.in-Some.ensures.value) _ c.react_at.new.blocks c.react_at.result (omega (arith, c.in-len1-up.len_at_least))
    c.in-Some-components_mut.ensures.value c.react_at.ensures.reacted
