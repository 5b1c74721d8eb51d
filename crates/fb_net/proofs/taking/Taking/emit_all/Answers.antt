use Rattle.fb_net.proofs.lemmas.Common.{true, ◌++◌, ◌∷◌, [], ◌∙◌, List, ap, refl, sym, subst, append_assoc, arith, append-nil, on_ok_weaker, All, Inputs, system_of, path_at, ports_at, Key, IsEmission}
use Rattle.fb_types.specs.declared.run.Emission.{Emission}
use Rattle.fb_net.specs.Steps.{EmitsWell, ports_in}
use Rattle.fb_net.proofs.lemmas.emitting.PortRows.{one_with}
use Rattle.fb_net.proofs.lemmas.emitting.Emitting.{middle_fits, nothing_emitted}
use Rattle.fb_net.proofs.lemmas.taking.TakingSteps.{emitted-after, may-emit-again, stays-whole, still, whole-after}
use Rattle.fb_net.proofs.taking.Taking.emit_all.Goals as goal

pub loop-emission-init : goal.loop-emission-init
loop-emission-init c = record {
  done = [];
  parts = refl;
  emitted = nothing_emitted c.args.self.now.system.now c.args.self.now.key.now c.args.instance c.args.self.now.forest.now c.args.self.now.outbox.now;
  whole = stays-whole c.args.self.now;
}

pub emit_one-requires-clause-index : goal.emit_one-requires-clause-index
emit_one-requires-clause-index c = may-emit-again c.args.self.now c.loop-emission.self c.args.instance c.loop-emission.invariant.whole c.requires.index

pub emit_one-requires-clause-emission : goal.emit_one-requires-clause-emission
emit_one-requires-clause-emission c =
    let e = c.in-Some-pop_first.emission in
    let so_far = c.loop-emission.invariant in
    let parts = so_far.parts ∙ ap (λ (rest : List Emission). so_far.done ++ rest) c.in-Some-pop_first.ensures in
    still (λ (i : Inputs) (k : Key). IsEmission (ports_at (system_of i) (path_at (system_of i) c.args.instance)) e) c.args.self.now c.loop-emission.self so_far.whole.same
    (middle_fits (IsEmission (ports_in c.args.self.now c.args.instance)) so_far.done e c.pop_first.new.self c.args.emits.now parts c.requires.emissions)

pub loop-emission-preserved : goal.loop-emission-preserved
loop-emission-preserved c =
    let e = c.in-Some-pop_first.emission in
    let so_far = c.loop-emission.invariant in
    record {
      done = so_far.done ++ e ∷ [];
      parts = so_far.parts ∙ ap (λ (rest : List Emission). so_far.done ++ rest) c.in-Some-pop_first.ensures ∙ sym (append_assoc so_far.done (e ∷ []) c.pop_first.new.self);
      emitted = emitted-after c.args.self.now c.loop-emission.self c.emit_one.new.self c.args.instance so_far.done (e ∷ []) so_far.whole.same so_far.emitted c.in_ok-emit_one.ensures.emitted;
      whole = whole-after c.args.self.now c.loop-emission.self c.emit_one.new.self so_far.whole c.emit_one.ensures.whole;
    }

pub returns-in_err-emit_one-clause-whole : goal.returns-in_err-emit_one-clause-whole
returns-in_err-emit_one-clause-whole c = whole-after c.args.self.now c.loop-emission.self c.emit_one.new.self c.loop-emission.invariant.whole c.emit_one.ensures.whole

pub returns-clause-emitted : goal.returns-clause-emitted
returns-clause-emitted c =
    let so_far = c.loop-emission.invariant in
    subst (λ (es : List Emission). EmitsWell c.args.self.now c.args.instance es c.loop-emission.self)
    (sym (so_far.parts ∙ ap (λ (rest : List Emission). so_far.done ++ rest) c.in_default-pop_first.ensures ∙ append-nil so_far.done)) so_far.emitted

pub returns-clause-whole : goal.returns-clause-whole
returns-clause-whole c = c.loop-emission.invariant.whole

-- the only emission
pub row_of-row-requires : goal.row_of-row-requires
row_of-row-requires c =
    let one = subst (λ (es : List Emission). All (IsEmission (ports_in c.args.self.now c.args.instance)) es) c.in-Some.ensures c.requires.emissions 0 (record { event = c.in-Some.event; values = c.in-Some.value.now ∷ [] }) (omega arith) in
    record { instance = c.requires.index.number; event = one.event }

pub emit_value-requires-clause-event : goal.emit_value-requires-clause-event
emit_value-requires-clause-event c =
    (subst (λ (es : List Emission). All (IsEmission (ports_in c.args.self.now c.args.instance)) es) c.in-Some.ensures c.requires.emissions 0 (record { event = c.in-Some.event; values = c.in-Some.value.now ∷ [] }) (omega arith)).event

pub emit_value-requires-clause-first : goal.emit_value-requires-clause-first
emit_value-requires-clause-first c = c.row_of-row.ensures.first

pub emit_value-requires-clause-indexes : goal.emit_value-requires-clause-indexes
emit_value-requires-clause-indexes c =
    (one_with (system_of c.args.self.now.system.now) (record { instance = c.args.instance; event = c.in-Some.event; is_output = true }) c.row_of-row.result.with _ _ c.in-One.is c.row_of-row.ensures.with).indexes

pub returns-in-One-clause-emitted : goal.returns-in-One-clause-emitted
returns-in-One-clause-emitted c =
    on_ok_weaker c.emit_value.result (subst (λ (es : List Emission). EmitsWell c.args.self.now c.args.instance es c.emit_value.new.self) (sym c.in-Some.ensures)) c.emit_value.ensures.emitted
