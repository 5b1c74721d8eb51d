use Rattle.fb_types.proofs.Common.{◌≡◌, ◌-◌, deque_len, List, map, refl, sym, subst, ◌∙◌, arith, eqb-true, ltb-true, local_key}
use Rattle.fb_types.specs.declared.key.Key.{Key}
use Rattle.fb_types.specs.declared.run.Target.{Target}
use Rattle.std.specs.List.{AllByRecursion}
use Rattle.fb_agenda.specs.Agendas.{IsAt, IsQueue, MayFollow, keyed, local_events}
use Rattle.fb_agenda.proofs.lemmas.Lists.{when_true}
use Rattle.fb_agenda.proofs.lemmas.Queueing.{all_at, follows_number}
use Rattle.fb_agenda.proofs.queue.Queue.follows.Goals as goal
use Rattle.fb_agenda.proofs.queue.Queue.follows.Goals.{then-self-tick, else-self-tick}

pub returns-then-self-resource-clause-follows : goal.returns-then-self-resource-clause-follows
returns-then-self-resource-clause-follows c =
    elim c.if-self-tick.branch [
      | then-self-tick w ↦
          let q = c.self.inside in
          let es = q.waiting.items in
          let number = c.args.number in
          let facts = c.in-Some.ensures in
          let tick : q.tick ≡ c.args.tick = omega (arith, w.if-self-tick.true) in
          let resource : q.resource ≡ c.args.resource = eqb-true _ _ (sym w.value-is ∙ c.if-self-resource.true) in
          let queue : IsQueue (local_events (map (keyed q.tick q.resource) es)) = subst (λ (l : List (Key × Target)). IsQueue (local_events l)) (sym c.self.view_is) c.requires in
          when_true _
          (λ less. subst (λ (l : List (Key × Target)). MayFollow (local_events l) (local_key c.args.tick c.args.resource number)) c.self.view_is
          (subst (λ x. MayFollow (local_events (map (keyed q.tick q.resource) es)) (local_key x c.args.resource number)) tick
          (subst (λ x. MayFollow (local_events (map (keyed q.tick q.resource) es)) (local_key q.tick x number)) resource
          (follows_number q.tick q.resource es (deque_len q.waiting - 1) number c.in-Some.field-0.now queue (omega (arith, facts.variant.0 refl)) facts.lookup (ltb-true _ _ less)))))
      | else-self-tick w ↦
          let same : c.self.inside.tick ≡ c.args.tick = eqb-true _ _ (sym w.value-is ∙ c.if-self-resource.true) in
          absurd (omega (arith, same, w.if-self-tick.false))
    ]

pub returns-then-self-resource-clause-at : goal.returns-then-self-resource-clause-at
returns-then-self-resource-clause-at c =
    elim c.if-self-tick.branch [
      | then-self-tick w ↦
          let q = c.self.inside in
          let es = q.waiting.items in
          let tick : q.tick ≡ c.args.tick = omega (arith, w.if-self-tick.true) in
          let resource : q.resource ≡ c.args.resource = eqb-true _ _ (sym w.value-is ∙ c.if-self-resource.true) in
          when_true _
          (λ less. subst (λ (l : List (Key × Target)). AllByRecursion (IsAt c.args.tick c.args.resource) l) c.self.view_is
          (subst (λ x. AllByRecursion (IsAt x c.args.resource) (map (keyed q.tick q.resource) es)) tick
          (subst (λ x. AllByRecursion (IsAt q.tick x) (map (keyed q.tick q.resource) es)) resource (all_at q.tick q.resource es))))
      | else-self-tick w ↦
          let same : c.self.inside.tick ≡ c.args.tick = eqb-true _ _ (sym w.value-is ∙ c.if-self-resource.true) in
          absurd (omega (arith, same, w.if-self-tick.false))
    ]
