use Rattle.fb_types.proofs.Common.{◌≡◌, ◌+◌, ◌-◌, ◌≤◌, suc, length, rules, Some, Option, refl, sym, ◌∙◌, ap, subst, arith, slice_get}
use Rattle.fb_types.specs.declared.library.Network.{Network}
use Rattle.fb_check_names.specs.declared.numbers.NetworkNumbers.{NetworkNumbers}
use Rattle.fb_system.specs.declared.layout.Layer.{Layer as Laid}
use Rattle.fb_system.specs.Layers.{layer, layer_inside, network_inside, Layer}
use Rattle.fb_system.proofs.lemmas.rows.LayoutSteps.{instance_at, none_deep, first_laid, all_typed, room_inside, next_laid, below_none, below_some}
use Rattle.fb_system.proofs.layout.+lay_out.Goals as goal
use Rattle.fb_system.proofs.layout.+lay_out.Goals.{in-None, in-Some-network_inside+in_ok-inside-in-Some-network_inside}

pub returns-then-depth-eq0-clause-rows : goal.returns-then-depth-eq0-clause-rows
returns-then-depth-eq0-clause-rows t c =
    c.new-layer.ensures.rows ∙ ap (λ (l : Layer). l.rows) (sym (none_deep _ _ _ _ _ _ _ c.if-depth-eq0.true))

pub returns-then-depth-eq0-clause-numbers : goal.returns-then-depth-eq0-clause-numbers
returns-then-depth-eq0-clause-numbers t c =
    c.new-layer.ensures.numbers ∙ ap (λ (l : Layer). l.numbers) (sym (none_deep _ _ _ _ _ _ _ c.if-depth-eq0.true))

pub loop-index-init : goal.loop-index-init
loop-index-init t c =
    let deep : c.args.depth ≡ suc (c.args.depth - 1) = omega arith in
    first_laid _ _ _ _ _ _ _ _ _ _ _ _ deep c.as_slice-instances.ensures c.new-layer.ensures.rows c.new-layer.ensures.numbers refl

pub returns-in_default-clause-rows : goal.returns-in_default-clause-rows
returns-in_default-clause-rows t c =
    (all_typed _ _ _ _ _ _ _ _ _ _ _ _ (instance_at _ _ _ c.loop-index-test.true c.index-instances-index.is) (sym c.in_default.ensures.value) c.loop-index.invariant).0

pub returns-in_default-clause-numbers : goal.returns-in_default-clause-numbers
returns-in_default-clause-numbers t c =
    (all_typed _ _ _ _ _ _ _ _ _ _ _ _ (instance_at _ _ _ c.loop-index-test.true c.index-instances-index.is) (sym c.in_default.ensures.value) c.loop-index.invariant).1

pub lay_out-requires : goal.lay_out-requires
lay_out-requires t c =
    let at : slice_get c.as_slice-instances.result.now c.loop-index.index ≡ Some c.index-instances-index.result =
    instance_at _ _ _ c.loop-index-test.true c.index-instances-index.is in
    let typed : slice_get c.args.site.types.now c.loop-index.index ≡ Some c.in-Some.kind.now = sym c.in-Some.ensures.value in
    let number : c.args.first + c.len.result ≡ c.args.first + length c.loop-index.layer.rows.items =
    ap (λ n. c.args.first + n) (search rules) in (
      omega arith,
      subst
          (λ (o : Option (Network × NetworkNumbers)). c.args.first + c.len.result + 1 + length (layer_inside (layer (c.args.depth - 1) c.args.library.now c.args.numbers.now) (c.args.first + c.len.result) c.in_ok-row.row o).rows ≤ 4096)
          (sym c.in-Some-network_inside.ensures)
          (room_inside _ _ _ _ _ _ _ _ _ _ _ _ _ _ _ at typed c.in_ok-row.ensures c.loop-index.invariant number c.requires),
    )

pub loop-index-preserved : goal.loop-index-preserved
loop-index-preserved t c =
    let at : slice_get c.as_slice-instances.result.now c.loop-index.index ≡ Some c.index-instances-index.result =
    instance_at _ _ _ c.loop-index-test.true c.index-instances-index.is in
    let typed : slice_get c.args.site.types.now c.loop-index.index ≡ Some c.in-Some.kind.now = sym c.in-Some.ensures.value in
    let number : c.args.first + c.len.result ≡ c.args.first + length c.loop-index.layer.rows.items =
    ap (λ n. c.args.first + n) (search rules) in
    let below : Layer = record { rows = c.match-network_inside.inside.rows.items; numbers = c.match-network_inside.inside.numbers } in
    let inside = layer (c.args.depth - 1) c.args.library.now c.args.numbers.now in
    let inside_is : below
    ≡ layer_inside (layer (c.args.depth - 1) c.args.library.now c.args.numbers.now) (c.args.first + c.len.result) c.in_ok-row.row
    (network_inside c.args.library.now c.args.numbers.now c.in-Some.kind.now) =
    elim c.match-network_inside.branch [
      | in-None w ↦
          below_none inside (c.args.first + c.len.result) c.in_ok-row.row _ below w.in-None.ensures
          (ap (λ (l : Laid). l.rows.items) w.inside-is ∙ w.new-inside.ensures.rows)
          (ap (λ (l : Laid). l.numbers) w.inside-is ∙ w.new-inside.ensures.numbers)
      | in-Some-network_inside+in_ok-inside-in-Some-network_inside w ↦
          below_some inside (c.args.first + c.len.result) c.in_ok-row.row _ _ below w.in-Some-network_inside.ensures
          (ap (λ (l : Laid). l.rows.items) w.inside-is ∙ w.in_ok-inside-in-Some-network_inside.ensures.rows)
          (ap (λ (l : Laid). l.numbers) w.inside-is ∙ w.in_ok-inside-in-Some-network_inside.ensures.numbers)
    ] in
    next_laid _ _ _ _ _ _ _ _ _ _ _ _ below _ _ _ _ _ at typed c.in_ok-row.ensures inside_is number c.loop-index.invariant c.in_ok-add.ensures.rows c.in_ok-add.ensures.numbers
