use Rattle.fb_system.proofs.lemmas.Common.{List, [], ◌∷◌, ◌++◌, subst, sym, ◌∙◌, system_of, IsSourceRowAt, AreInRanges, RowRanges}
use Rattle.fb_types.proofs.Common.{on_ok_weaker}
use Rattle.fb_system.proofs.lemmas.rows.InRanges.{capped, instance_in_ranges}
use Rattle.fb_system.proofs.ends_of.add_sources_of.Goals as goal

pub returns : goal.returns
returns c =
    let sys = system_of c.args.system.now in
    let p : RowRanges = record { bounds = c.row_after-first.result ∷ c.row_after-second.result ∷ c.row_after-end.result ∷ [] } in
    let old = c.args.ranges.now in
    let half = c.add_sources.new.rows in
    let rows = c.add_sources-2.new.rows in
    let all : AreInRanges (IsSourceRowAt sys) rows (old ++ p ∷ []) =
    instance_in_ranges (IsSourceRowAt sys) c.args.rows.now half rows old c.args.instance 16384 p c.requires.rows (sym c.len.ensures ∙ c.if-len-instance.false)
    c.in_ok-add_sources.ensures.kept c.in_ok-add_sources.ensures.added c.in_ok-add_sources-2.ensures.kept c.in_ok-add_sources-2.ensures.added
    (capped _ _ _ 16384 c.row_after-first.ensures c.len-2.ensures) (capped _ _ _ 16384 c.row_after-second.ensures c.len-3.ensures) (capped _ _ _ 16384 c.row_after-end.ensures c.len-4.ensures) in
    on_ok_weaker c.push.result (λ grown. subst (λ (l : List RowRanges). AreInRanges (IsSourceRowAt sys) rows l) (sym grown) all) c.push.ensures.ok
