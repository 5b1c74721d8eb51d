use Rattle.std.proofs.Common.{◌-◌, sym, ◌∙◌, subst, arith}
use Rattle.fb_sim.specs.JoinedTexts.{ArePut}
use Rattle.fb_sim.proofs.lemmas.text.Cutting.{IsJoining, first_turn, lines_counted, no_tick_left, no_turn_left, one_turn}
use Rattle.fb_sim.proofs.rounds.join_texts.join_all.Goals as goal

pub loop-next-init : goal.loop-next-init
loop-next-init c = λ i form lists h rests.
    let put = c.in_ok-next.ensures i form lists rests in
    first_turn i form lists c.put_all.new.text.items c.put_all.new.rests.items c.in_ok-next.next c.count_lines-turns.result
    (subst (λ z. ArePut i form 0 lists z c.put_all.new.text.items c.put_all.new.rests.items c.in_ok-next.next) (c.reserve.ensures.items ∙ c.requires) put)
    (lines_counted i form lists c.args.texts.now h ∙ sym c.count_lines-turns.ensures)

pub returns-then-turns-eq0 : goal.returns-then-turns-eq0
returns-then-turns-eq0 c = λ i form lists h rests.
    no_turn_left i form lists c.loop-next.text.items c.loop-next.rests.items c.loop-next.turns c.loop-next.next (c.loop-next.invariant i form lists h rests) c.if-turns-eq0.true

pub loop-next-preserved : goal.loop-next-preserved
loop-next-preserved c = λ i form lists h rests.
    let text = c.loop-next.text.items in
    let left = c.loop-next.rests.items in
    let turns = c.loop-next.turns in
    let it = subst (λ z. IsJoining i form lists text left z turns) c.in-Some.is (c.loop-next.invariant i form lists h rests) in
    let some = c.if-turns-eq0.false in
    one_turn i form lists text left turns c.in-Some.tick it c.put_all-in-Some.new.text.items c.put_all-in-Some.new.rests.items c.in_ok-next-2.next (turns - 1)
    (c.in_ok-next-2.ensures i form it.left it.stay) (omega (arith, some))

pub returns : goal.returns
returns c = λ i form lists h rests.
    no_tick_left i form lists c.loop-next.text.items c.loop-next.rests.items c.loop-next.turns c.loop-next.next (c.loop-next.invariant i form lists h rests) c.in_default.not-Some
