use Rattle.fb_check.proofs.lemmas.Common.{◌++◌, List, append_assoc, refl, sym, ◌∙◌, context_in, unless, KindWrongAt, part_at}
use Rattle.fb_check_names.specs.declared.location.StatementPart.TheVariants as part
use Rattle.fb_check.specs.types.KindWrongLists.{wrong_control}
use Rattle.fb_check.proofs.lemmas.types.GrowingLists.{and_added}
use Rattle.fb_check.proofs.types.statements.push_for_parts.Goals as goal

pub returns : goal.returns
returns c =
    let at = part_at c.args.at in
    let f0 = c.args.found.now.items in
    let f1 = c.push_control_parts.new.found.items in
    let f2 = c.push_part.new.found.items in
    let f3 = c.push_part-2.new.found.items in
    let p : List KindWrongAt = wrong_control at (context_in c.args.scope.now) c.args.variable.now in
    let s : List KindWrongAt = unless c.has_kind-is_start_whole.result (at part.Start) in
    let e : List KindWrongAt = unless c.has_kind-is_end_whole.result (at part.End) in
    let f : List KindWrongAt = unless c.is_step_whole-is_step_whole.result (at part.Step) in
    let start = sym c.has_kind-is_start_whole.ensures in
    let end = sym c.has_kind-is_end_whole.ensures in
    let step = sym c.is_step_whole-is_step_whole.ensures in
    and_added c.and-3.result c.and-2.result c.push_part-3.result f0 f3 c.push_part-3.new.found.items ((p ++ s) ++ e) f _
    ((λ i. p ++ (unless (start i) (at part.Start) ++ (unless (end i) (at part.End) ++ unless (step i) (at part.Step))))
    ∙ sym (append_assoc (p ++ s) e f ∙ append_assoc p s (e ++ f)))
    c.and-3.ensures
    (and_added c.and-2.result c.and.result c.push_part-2.result f0 f2 f3 (p ++ s) e _ refl c.and-2.ensures
    (and_added c.and.result c.push_control_parts.result c.push_part.result f0 f1 f2 p s _ refl c.and.ensures c.push_control_parts.ensures c.push_part.ensures)
    c.push_part-2.ensures)
    c.push_part-3.ensures
