use Rattle.fb_types.proofs.Common.{◌≡◌, ◌+◌, ◌++◌, get_or, length, map, take, drop, arith, length_push, length-map, take_all, pair_up, values_text}
use Rattle.fb_types.specs.declared.library.Variable.{Variable}
use Rattle.std.proofs.lemmas.Slice.Zip.{zip_turn, zip_end}
use Rattle.fb_system.specs.IndexLists.{variable_at}
use Rattle.fb_trace.proofs.lemmas.lines.PutPieces.{Puts-more, Fails-before, Fails-after, Gathers-passed}
use Rattle.fb_trace.proofs.lemmas.lines.Values.{binding_text, values_text-more, values_text-parts, length-pair_up}
use Rattle.fb_trace.proofs.pieces.put_values.Given as given
use Rattle.fb_trace.proofs.pieces.put_values.Goals as goal
use Rattle.fb_trace.proofs.pieces.put_values.Goals.{In-Some}

-- the text with the value of this turn
more :
    (g : given.Over) (c : In-Some g) (d : Variable)
    → values_text (take (length c.loop-index.yielded + 1) (pair_up (map (variable_at c.args.variables.now) c.args.indexes.now) c.args.values.now))
    ≡ values_text (take (length c.loop-index.yielded) (pair_up (map (variable_at c.args.variables.now) c.args.indexes.now) c.args.values.now))
    ++ binding_text (get_or c.args.variables.now c.in-Some.index.now d).name c.in-Some.value.now
more g c d =
    let turn = zip_turn c.args.indexes.now c.args.values.now c.loop-index.yielded c.into_iter-index-iterator.result c.loop-index.index-iterator c.next.new.self c.next.result (cc) (cc) c.loop-index.yielded_by (c.in-Some.index, c.in-Some.value) c.in-Some.is c.next.ensures.steps in
    values_text-more c.args.variables.now c.args.indexes.now c.args.values.now (length c.loop-index.yielded) c.in-Some.index.now c.in-Some.value.now d turn.0 turn.1 (turn.2 0) (turn.3 c.in-Some.value.now) (omega (arith, c.requires.within (length c.loop-index.yielded) 0 turn.0, turn.2 0))

pub loop-index-preserved : goal.loop-index-preserved
loop-index-preserved g c =
    rw (length_push c.loop-index.yielded (c.in-Some.index, c.in-Some.value), more g (goal.at.loop-index-preserved g c).In-Some c.index-variables-index.result)
    (Puts-more c.loop-index.invariant (rw c.as_bytes-name.ensures at c.in_ok-put_binding.ensures.whole))

pub returns-in_err-put_binding : goal.returns-in_err-put_binding
returns-in_err-put_binding g c =
    let bs = pair_up (map (variable_at c.args.variables.now) c.args.indexes.now) c.args.values.now in
    let n = length c.loop-index.yielded + 1 in
    Gathers-passed _ c.from_residual.ensures.1
    (rw (← values_text-parts n bs)
    (Fails-before {x = values_text (take n bs)} (values_text (drop n bs))
    (rw (more g (goal.at.returns-in_err-put_binding g c).In-Some c.index-variables-index.result)
    (Fails-after {x = values_text (take (length c.loop-index.yielded) bs)} c.loop-index.invariant (rw c.as_bytes-name.ensures at c.in_err-put_binding.ensures.part)))))

pub returns : goal.returns
returns g c =
    let end = zip_end c.args.indexes.now c.args.values.now c.loop-index.yielded c.into_iter-index-iterator.result c.loop-index.index-iterator c.next.new.self c.next.result (cc) (cc) c.loop-index.yielded_by c.in-None.is c.next.ensures.steps in
    let ns = map (variable_at c.args.variables.now) c.args.indexes.now in
    let bs = pair_up ns c.args.values.now in
    let short = length-pair_up ns c.args.values.now in
    let long : length ns ≡ length c.args.indexes.now = length-map c.args.indexes.now (variable_at c.args.variables.now) in
    record { whole = rw (take_all (length c.loop-index.yielded) bs (omega arith)) at c.loop-index.invariant; part = tt }
