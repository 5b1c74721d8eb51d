use Rattle.std.proofs.Common.{◌≡◌, ◌<◌, ◌≤◌, ◌++◌, ℕ, List, Bool, get_or, length, not, sym, ◌∙◌, ap, subst, refl}
use Rattle.std.specs.List.{filter}
use Rattle.std.proofs.lemmas.List.{take_all}
use Rattle.fb_types.specs.Blocks.{variable_names}
use Rattle.fb_types.specs.declared.library.EventPort.{EventPort}
use Rattle.fb_types.specs.declared.library.Variable.{Variable}
use Rattle.fb_wave.specs.Scopes.{is_carried}
use Rattle.fb_inspect.specs.walk.Notes.{is_unpublished}
use Rattle.fb_inspect.proofs.lemmas.dump.Hidden.{left_more, names_kept}
use Rattle.fb_inspect.proofs.walk.blocks.add_unpublished.Goals as goal

pub loop-index-preserved-then-is_carried : goal.loop-index-preserved-then-is_carried
loop-index-preserved-then-is_carried c =
    let t = c.args.block.now in
    let i = c.loop-index.index in
    let x = c.index-outputs-index.result in
    let within = subst (λ (vs : List Variable). i < length vs) c.as_slice-outputs.ensures c.loop-index-test.true in
    let is = c.index-outputs-index.is ∙ ap (λ (vs : List Variable). get_or vs i x) c.as_slice-outputs.ensures in
    let left : is_unpublished t x ≡ not (c.is_carried.result) = ap not (sym (c.is_carried.ensures ∙ ap (λ (es : List EventPort). is_carried es x) c.as_slice-events.ensures)) in
    c.loop-index.invariant
    ∙ ap (λ (vs : List Variable). c.args.hidden.now.items ++ variable_names vs) (left_more (is_unpublished t) t.ports.outputs i x _ within is (left ∙ ap not c.if-is_carried.true) refl)

pub loop-index-preserved : goal.loop-index-preserved
loop-index-preserved c =
    let t = c.args.block.now in
    let i = c.loop-index.index in
    let x = c.index-outputs-index.result in
    let within = subst (λ (vs : List Variable). i < length vs) c.as_slice-outputs.ensures c.loop-index-test.true in
    let is = c.index-outputs-index.is ∙ ap (λ (vs : List Variable). get_or vs i x) c.as_slice-outputs.ensures in
    let kept : is_unpublished t x ≡ not (c.is_carried.result) = ap not (sym (c.is_carried.ensures ∙ ap (λ (es : List EventPort). is_carried es x) c.as_slice-events.ensures)) in
    names_kept (is_unpublished t) t.ports.outputs i x c.args.hidden.now.items c.loop-index.hidden.items _ _ within is (kept ∙ ap not c.if-is_carried.false)
    (c.new-reference.ensures ∙ c.in_ok-try_clone.ensures) c.loop-index.invariant c.in_ok-push.ensures.items

pub returns : goal.returns
returns c =
    let t = c.args.block.now in
    let i = c.loop-index.index in
    let past = subst (λ (vs : List Variable). length vs ≤ i) c.as_slice-outputs.ensures c.loop-index-test.false in
    c.loop-index.invariant ∙ ap (λ (vs : List Variable). c.args.hidden.now.items ++ variable_names (filter (is_unpublished t) vs)) (take_all i t.ports.outputs past)
