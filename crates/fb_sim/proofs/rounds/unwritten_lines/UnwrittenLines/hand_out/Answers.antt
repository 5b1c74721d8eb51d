use Rattle.fb_sim.proofs.lemmas.Common.{◌≡◌, List, All, map, length, ◌∙◌, subst, sym, inr, Appends, system_of, line_of, Line, BelongsTo, bounded, WritesPartOf, text_of}
use Rattle.fb_trace.proofs.lemmas.order.StableSort.{kept}
use Rattle.fb_sim.specs.Rounds.{FailsToHandOut}
use Rattle.fb_sim.proofs.lemmas.text.HandedOut.{failed_passed, part_by_list, whole_by_list}
use Rattle.fb_sim.proofs.rounds.unwritten_lines.UnwrittenLines.hand_out.Goals as goal

pub hand_out-requires : goal.hand_out-requires
hand_out-requires g c =
    subst (All (BelongsTo (system_of c.args.system.now))) (sym c.deref.ensures.value)
    (kept c.args.self.lists.items c.in_ok-lines.lines.items c.in_ok-lines.ensures.kept (BelongsTo (system_of c.args.system.now)) c.requires)

pub returns-in_err-bytes-clause-failed : goal.returns-in_err-bytes-clause-failed
returns-in_err-bytes-clause-failed g c =
    let i = c.args.system.now in
    let form = c.args.form in
    let lists = c.args.self.lists.items in
    let old = g.W.Write.contents c.args.out.now in
    let new = g.W.Write.contents c.hand_out.new.out in
    let e = c.in_err-bytes.field-0.0 in
    failed_passed (FailsToHandOut i form lists old new) _ e c.from_residual-in_err-bytes.ensures.1
    (inr (part_by_list i form lists old new c.in_ok-lines.lines c.in_ok-lines.ensures.merged c.in_ok-lines.ensures.kept e
    (subst (λ (xs : List Line). WritesPartOf old new (text_of i form (map (line_of (system_of i)) xs)) e) c.deref.ensures.value c.in_err-bytes.ensures.part)))

pub returns-clause-whole : goal.returns-clause-whole
returns-clause-whole g c =
    let i = c.args.system.now in
    let form = c.args.form in
    let lists = c.args.self.lists.items in
    let old = g.W.Write.contents c.args.out.now in
    let new = g.W.Write.contents c.hand_out.new.out in
    let all = c.in_ok-lines.lines in
    let whole = c.in_ok-bytes.ensures.whole in
    let n = c.in_ok-bytes.bytes in
    whole_by_list i form lists old new all c.in_ok-lines.ensures.merged c.in_ok-lines.ensures.kept n c.len.result
    (subst (λ (xs : List Line). Appends old new (text_of i form (map (line_of (system_of i)) xs))) c.deref.ensures.value whole.0)
    (subst (λ (xs : List Line). n ≡ bounded (length (text_of i form (map (line_of (system_of i)) xs)))) c.deref.ensures.value whole.1) (c.len.ensures ∙ all.ok.0)
