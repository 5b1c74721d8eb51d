use Rattle.fb_sim.proofs.lemmas.Common.{◌≡◌, ◌∙◌, List, ℕ, ap, arith, length, subst, sym, AreGood}
use Rattle.fb_sim.specs.Rounds.{HasBegun, HasRunOut, AreFirstRounds}
use Rattle.fb_sim.specs.declared.rounds.first_rounds.FirstRounds.{FirstRounds}
use Rattle.fb_sim.proofs.lemmas.rounds.FirstRounds.{leg_ended, leg_failed, leg_on, leg_short}
use Rattle.fb_sim.proofs.rounds.first_rounds.run_rest.Goals as goal

pub returns-then-count-length : goal.returns-then-count-length
returns-then-count-length g c =
    let good : AreGood c.args.system.now = record { accepted = c.facts.ensures.accepted; limits = c.facts.ensures.limits } in
    let text = c.as_slice.result.now in
    let lent = c.as_slice.ensures.value in
    let all : c.len-length.result ≡ length text = (c.len-length.ensures ∙ c.args.text.ok.0) ∙ ap length (sym lent) in
    let first_rounds : AreFirstRounds c.args.system.now c.args.options c.args.first_rounds c.args.begun text = subst (λ (t : List ℕ). AreFirstRounds c.args.system.now c.args.options c.args.first_rounds c.args.begun t) (sym lent) c.requires.first_rounds in
    let less = c.if-count-length.true in
    rw c.with_written.ensures (leg_short c.args.system.now c.args.options text c.args.begun c.write_front-count.result _ _ c.write_front-count.ensures.got good c.args.first_rounds first_rounds (omega (arith, less, all)))

pub returns-in-Over : goal.returns-in-Over
returns-in-Over g c =
    let text = c.as_slice.result.now in
    let lent = c.as_slice.ensures.value in
    let all : c.len-length.result ≡ length text = (c.len-length.ensures ∙ c.args.text.ok.0) ∙ ap length (sym lent) in
    let first_rounds : AreFirstRounds c.args.system.now c.args.options c.args.first_rounds c.args.begun text = subst (λ (t : List ℕ). AreFirstRounds c.args.system.now c.args.options c.args.first_rounds c.args.begun t) (sym lent) c.requires.first_rounds in
    let more = c.if-count-length.false in
    let h : HasRunOut c.args.system.now c.args.options c.in-Over.finish c.args.begun text = subst (λ (l : FirstRounds). AreFirstRounds c.args.system.now c.args.options l c.args.begun text) c.in-Over.is first_rounds in
    leg_ended c.args.system.now c.args.options text c.args.begun c.write_front-count.result _ _ c.write_front-count.ensures.got (omega (arith, more, all)) c.in-Over.finish h

pub run_on-requires-clause-come : goal.run_on-requires-clause-come
run_on-requires-clause-come g c κs w =
    let h : HasBegun c.args.system.now c.args.options c.in-Going.core c.args.begun c.args.text.items = subst (λ (l : FirstRounds). AreFirstRounds c.args.system.now c.args.options l c.args.begun c.args.text.items) c.in-Going.is c.requires.first_rounds in
    (h.out, h.come)

pub returns-in-Ok : goal.returns-in-Ok
returns-in-Ok g c =
    let text = c.as_slice.result.now in
    let lent = c.as_slice.ensures.value in
    let all : c.len-length.result ≡ length text = (c.len-length.ensures ∙ c.args.text.ok.0) ∙ ap length (sym lent) in
    let first_rounds : AreFirstRounds c.args.system.now c.args.options c.args.first_rounds c.args.begun text = subst (λ (t : List ℕ). AreFirstRounds c.args.system.now c.args.options c.args.first_rounds c.args.begun t) (sym lent) c.requires.first_rounds in
    let more = c.if-count-length.false in
    let h : HasBegun c.args.system.now c.args.options c.in-Going.core c.args.begun text = subst (λ (l : FirstRounds). AreFirstRounds c.args.system.now c.args.options l c.args.begun text) c.in-Going.is first_rounds in
    rw c.and.ensures
    (leg_on c.args.system.now c.args.options text c.args.begun c.write_front-count.result _ _ c.write_front-count.ensures.got (omega (arith, more, all)) c.in-Going.core h _ c.in-Ok.finish c.in-Ok.written (c.in-Ok.ensures h.out h.come))

pub returns-in-Err : goal.returns-in-Err
returns-in-Err g c =
    let text = c.as_slice.result.now in
    let lent = c.as_slice.ensures.value in
    let all : c.len-length.result ≡ length text = (c.len-length.ensures ∙ c.args.text.ok.0) ∙ ap length (sym lent) in
    let first_rounds : AreFirstRounds c.args.system.now c.args.options c.args.first_rounds c.args.begun text = subst (λ (t : List ℕ). AreFirstRounds c.args.system.now c.args.options c.args.first_rounds c.args.begun t) (sym lent) c.requires.first_rounds in
    let more = c.if-count-length.false in
    let h : HasBegun c.args.system.now c.args.options c.in-Going.core c.args.begun text = subst (λ (l : FirstRounds). AreFirstRounds c.args.system.now c.args.options l c.args.begun text) c.in-Going.is first_rounds in
    rw c.with_written-in-Err.ensures
    (leg_failed c.args.system.now c.args.options text c.args.begun c.write_front-count.result _ _ c.write_front-count.ensures.got (omega (arith, more, all)) c.in-Going.core h _ c.in-Err.error (c.in-Err.ensures h.out h.come))
