use Rattle.fb_types.proofs.Common.{◌++◌, ◌∷◌, [], List, true, All, map, sym, subst, ap, ◌∙◌, map-append, All-push, system_of, line_of}
use Rattle.fb_types.specs.declared.run.Line.{Line}
use Rattle.fb_system.specs.Lines.{BelongsTo}
use Rattle.fb_net.proofs.taking.emit.write_taken.Goals as goal

pub returns-clause-lines : goal.returns-clause-lines
returns-clause-lines c =
    let old = c.args.outbox.now.lines.items in
    let line : Line = record { key = c.args.key.now; taken = true; instance = c.args.at.instance; event = c.args.at.event; values = c.args.values } in
    let belong : List Line → Type 0 = λ ls. All (BelongsTo (system_of c.args.system.now)) ls in
    λ were. subst belong (sym (c.push_reserved.ensures.items ∙ ap (λ (ls : List Line). ls ++ line ∷ []) c.in_ok-reserve.ensures.items))
    (All-push (BelongsTo (system_of c.args.system.now)) old line were c.requires.line)

pub returns-clause-written : goal.returns-clause-written
returns-clause-written c =
    let old = c.args.outbox.now.lines.items in
    let line : Line = record { key = c.args.key.now; taken = true; instance = c.args.at.instance; event = c.args.at.event; values = c.args.values } in
    ap (map (line_of (system_of c.args.system.now))) (c.push_reserved.ensures.items ∙ ap (λ (ls : List Line). ls ++ line ∷ []) c.in_ok-reserve.ensures.items)
    ∙ map-append (line_of (system_of c.args.system.now)) old (line ∷ [])
