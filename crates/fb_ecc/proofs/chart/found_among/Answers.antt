use Rattle.fb_types.proofs.Common.{◌≡◌, ◌+◌, ◌++◌, ◌∷◌, [], List, map, take, sym, ◌∙◌, ap, take_more, Name, among}
use Rattle.fb_check_names.specs.Indexes.{index_in}
use Rattle.fb_ecc.specs.Indexed.{entry_of, picked}
use Rattle.fb_ecc.proofs.lemmas.Indexing.{picked_none, picks_found, picks_none}
use Rattle.fb_ecc.proofs.chart.found_among.Goals as goal
use Rattle.fb_ecc.proofs.chart.found_among.Goals.{in-Some+in_ok-insert, in_default}

pub loop-name-init : goal.loop-name-init
loop-name-init c = λ all index. ap (map entry_of) c.new-found.ensures.empty ∙ sym (picked_none all 0)

pub loop-name-preserved : goal.loop-name-preserved
loop-name-preserved c = λ all index.
    let names : List Name = c.args.names.now in
    let name : Name = c.name-item.result in
    let sofar : List Name = take c.loop-name.name-index names in
    let more : take (c.loop-name.name-index + 1) names ≡ sofar ++ name ∷ [] =
    take_more names c.loop-name.name-index name c.loop-name-test.true ∙ ap (λ (n : Name). sofar ++ n ∷ []) (sym c.name-item.is) in
    let shown : index_in c.args.indexes.now name ≡ c.index_of.result = ap (index_in c.args.indexes.now) (sym c.as_bytes.ensures) ∙ sym c.index_of.ensures in
    elim c.match-index_of.branch [
      | in-Some+in_ok-insert w ↦
          rw w.found-is
          (picks_found all sofar c.loop-name.found.entries _ _ w.in-Some.index c.args.indexes.now index (shown ∙ w.in-Some.is) w.in_ok-insert.ensures.entries
          (c.loop-name.invariant all index)
          ∙ ap (λ (ns : List Name). picked (among ns) all 0) (sym more))
      | in_default w ↦
          rw w.found-is
          (picks_none all sofar c.loop-name.found.entries name c.args.indexes.now index (shown ∙ w.in_default.is) (c.loop-name.invariant all index)
          ∙ ap (λ (ns : List Name). picked (among ns) all 0) (sym more))
    ]
