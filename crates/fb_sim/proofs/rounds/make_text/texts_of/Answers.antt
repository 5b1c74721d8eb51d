use Rattle.fb_sim.proofs.lemmas.Common.{All, Bor, List, IfOk, rules, subst, map, ap, ◌∙◌, system_of, Line, BelongsTo, IsMergedText, all_bytes}
use Rattle.fb_sim.proofs.lemmas.text.MergedText.{slices_each}
use Rattle.fb_sim.proofs.rounds.make_text.texts_of.Goals as goal

pub texts_by-requires : goal.texts_by-requires
texts_by-requires g c =
    let belong : All (λ q. All (BelongsTo (system_of c.args.system.now)) q.now) c.as_slice.result.now =
    slices_each (BelongsTo (system_of c.args.system.now)) c.as_slice.result.now c.args.lists.now (ap (map (λ (q : Bor (List Line)). q.now)) c.as_slice.ensures.value ∙ c.in_ok-whole.ensures) c.requires in
    search (rules, belong)

pub returns : goal.returns
returns g c =
    subst (λ (lists : List (List Line)). IfOk c.texts_by.result (λ v. IsMergedText c.args.system.now c.args.form lists (all_bytes v.items)))
    (ap (map (λ (q : Bor (List Line)). q.now)) c.as_slice.ensures.value ∙ c.in_ok-whole.ensures) c.texts_by.ensures
