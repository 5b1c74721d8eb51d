use Rattle.fb_types.proofs.Common.{◌≡◌, ◌++◌, List, Bor, [], ◌∷◌, length, map, sym, ap, ◌∙◌, append-nil, eqb-true, map_push, nil_from_length}
use Rattle.fb_types.specs.declared.run.Line.{Line}
use Rattle.fb_trace.specs.Fronts.{joint}
use Rattle.fb_trace.proofs.lemmas.lines.Texts.{joint-append}
use Rattle.fb_sim.proofs.rounds.merge_text.add.Goals as goal

pub returns-then-is_empty : goal.returns-then-is_empty
returns-then-is_empty c =
    let old = joint (map (λ (q : Bor (List Line)). q.now) c.args.parts.now.items) in
    let none : c.args.part.now ≡ [] = nil_from_length c.args.part.now (eqb-true (length c.args.part.now) 0 (sym c.is_empty.ensures ∙ c.if-is_empty.true)) in
    sym (ap (λ z. old ++ z) none ∙ append-nil old)

pub returns : goal.returns
returns c =
    let old = map (λ (q : Bor (List Line)). q.now) c.args.parts.now.items in
    ap (λ (qs : List (Bor (List Line))). joint (map (λ q. q.now) qs)) c.in_ok-push.ensures.items
    ∙ ap joint (map_push (λ (q : Bor (List Line)). q.now) c.args.parts.now.items c.args.part)
    ∙ joint-append old (c.args.part.now ∷ []) ∙ ap (λ z. joint old ++ z) (append-nil c.args.part.now)
