use Rattle.fb_types.proofs.Common.{List, ◌++◌, [], ◌∷◌, map, take, sym, ap, ◌∙◌, arith, take_at_read, map-append, take_all}
use Rattle.fb_types.specs.declared.latency.Entry.{Entry}
use Rattle.fb_inputs.specs.Deployments.{entry}
use Rattle.fb_inputs.proofs.table.entries_of.Goals as goal

pub push_reserved-requires : goal.push_reserved-requires
push_reserved-requires c =
    let inv = c.loop-pair.invariant in
    let within = c.loop-pair-test.true in
    omega (arith, inv.len, inv.room, within)

pub loop-pair-preserved : goal.loop-pair-preserved
loop-pair-preserved c =
    let table = c.args.table.now in
    let i = c.loop-pair.pair-index in
    let inv = c.loop-pair.invariant in
    let one = c.push_reserved.ensures in
    record {
      items = one.items
          ∙ ap (λ (es : List Entry). es ++ c.entry_of.result ∷ []) inv.items
          ∙ ap (λ (e : Entry). map entry (take i table) ++ e ∷ []) c.entry_of.ensures
          ∙ sym (map-append entry (take i table) (_ ∷ []))
          ∙ ap (map entry) (sym (take_at_read table i _ c.loop-pair-test.true).1);
      len = omega (arith, inv.len, one.len);
      room = omega (arith, inv.room, one.capacity);
    }

pub returns : goal.returns
returns c =
    let i = c.loop-pair.pair-index in
    c.from_vec.ensures ∙ c.loop-pair.invariant.items ∙ ap (map entry) (take_all i c.args.table.now (omega (arith, c.loop-pair-test.false)))
