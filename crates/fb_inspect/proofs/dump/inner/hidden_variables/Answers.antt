use Rattle.std.proofs.Common.{◌≡◌, ◌<◌, ◌≤◌, ◌++◌, ℕ, List, [], Bool, Bor, get_or, length, map, take, not, sym, ◌∙◌, ap, subst, refl, append-nil}
use Rattle.std.specs.List.{filter}
use Rattle.std.proofs.lemmas.List.{take_all}
use Rattle.fb_types.specs.declared.library.EventPort.{EventPort}
use Rattle.fb_types.specs.declared.library.Variable.{Variable}
use Rattle.fb_wave.specs.Scopes.{is_carried}
use Rattle.fb_inspect.specs.walk.Notes.{is_unpublished}
use Rattle.fb_inspect.proofs.lemmas.dump.Hidden.{left_more, lent_kept, lent_more}
use Rattle.fb_inspect.proofs.dump.inner.hidden_variables.Goals as goal

pub loop-variable-preserved-then-is_carried : goal.loop-variable-preserved-then-is_carried
loop-variable-preserved-then-is_carried c =
    let t = c.args.block.now in
    let i = c.loop-variable.variable-index in
    let x = c.variable-item.result in
    let within = subst (λ (vs : List Variable). i < length vs) c.as_slice-outputs.ensures c.loop-variable-test.true in
    let is = c.variable-item.is ∙ ap (λ (vs : List Variable). get_or vs i x) c.as_slice-outputs.ensures in
    let left : is_unpublished t x ≡ not (c.is_carried.result) = ap not (sym (c.is_carried.ensures ∙ ap (λ (es : List EventPort). is_carried es x) c.as_slice-events.ensures)) in
    left_more (is_unpublished t) t.ports.outputs i x _ within is (left ∙ ap not c.if-is_carried.true) c.loop-variable.invariant

pub loop-variable-preserved : goal.loop-variable-preserved
loop-variable-preserved c =
    let t = c.args.block.now in
    let i = c.loop-variable.variable-index in
    let x = c.variable-item.result in
    let within = subst (λ (vs : List Variable). i < length vs) c.as_slice-outputs.ensures c.loop-variable-test.true in
    let is = c.variable-item.is ∙ ap (λ (vs : List Variable). get_or vs i x) c.as_slice-outputs.ensures in
    let kept : is_unpublished t x ≡ not (c.is_carried.result) = ap not (sym (c.is_carried.ensures ∙ ap (λ (es : List EventPort). is_carried es x) c.as_slice-events.ensures)) in
    lent_kept (is_unpublished t) t.ports.outputs i x c.loop-variable.hidden.items _ _ within is (kept ∙ ap not c.if-is_carried.false) refl c.loop-variable.invariant c.in_ok-push.ensures.items
