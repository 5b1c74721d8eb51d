use Rattle.fb_agenda.proofs.lemmas.Common.{ℕ, List, [], ◌∷◌, ◌++◌, sym, ap, subst, ◌∙◌, local_key, Key, Target, AllByRecursion}
use Rattle.fb_agenda.specs.Agendas.{IsAt}
use Rattle.fb_agenda.proofs.lemmas.Queueing.{pushed}
use Rattle.fb_agenda.proofs.queue.Queue.push.Goals as goal

pub returns-clause-ok : goal.returns-clause-ok
returns-clause-ok c =
    let q = c.self.inside in
    let e : ℕ × Target = (c.args.number, c.args.target) in
    let all = subst (λ (l : List (Key × Target)). AllByRecursion (IsAt c.args.tick c.args.resource) l) (sym c.self.view_is) c.requires in
    let items = c.push_back_reserved.ensures.items ∙ ap (λ es. es ++ e ∷ []) c.in_ok-make_room.ensures.items in
    pushed q.tick q.resource c.args.tick c.args.resource q.waiting.items c.push_back_reserved.new.self.items e all items
    ∙ ap (λ l. l ++ (local_key c.args.tick c.args.resource c.args.number, c.args.target) ∷ []) c.self.view_is
