use Rattle.fb_types.proofs.Common.{List, is_some, map, subst, sym, ap, ◌∙◌, take_all, Name, same_name, Twice}
use Rattle.std.specs.Borrow.{Bor}
use Rattle.fb_types.proofs.lemmas.names.NameLaws.{same_name-Decides}
use Rattle.fb_types.proofs.lemmas.lists.Options.{none_from_is_some}
use Rattle.fb_check_names.proofs.lemmas.comparisons.DecidedSame.{name_cmp, name_cmp-exact}
use Rattle.fb_check_names.proofs.lemmas.twice.Repeating.{IsSame, agrees, last_more, last_none}
use Rattle.fb_check_names.proofs.lemmas.twice.FirstRepeats.{once_more, first_repeat_here}
use Rattle.fb_check_names.proofs.named.first_repeat.Goals as goal

name_agrees : IsSame name_cmp (λ (n : Bor Name). n.now) same_name
name_agrees = agrees name_cmp (λ (n : Bor Name). n.now) same_name name_cmp-exact same_name-Decides

pub loop-index-init : goal.loop-index-init
loop-index-init g c = record {
  seen = last_none name_cmp (λ (n : Bor Name). n.now) same_name c.new-seen.result c.new-seen.ensures.empty;
  once = λ t. t;
}

pub returns-then-is_some : goal.returns-then-is_some
returns-then-is_some g c =
    let key = c.name.result in
    first_repeat_here same_name g.T.Named.called c.args.items.now c.loop-index.index c.index-items-index.result key.now same_name-Decides c.loop-index-test.true
    c.index-items-index.is c.name.ensures
    (ap is_some (sym (c.in_ok-insert.ensures.old ∙ c.loop-index.invariant.seen key)) ∙ sym c.is_some.ensures ∙ c.if-is_some.true)
    c.loop-index.invariant.once

pub loop-index-preserved : goal.loop-index-preserved
loop-index-preserved g c =
    let xs = c.args.items.now in
    let i = c.loop-index.index in
    let x = c.index-items-index.result in
    let key = c.name.result in
    record {
      seen = last_more name_cmp (λ (n : Bor Name). n.now) same_name g.T.Named.called xs i x c.loop-index.seen c.insert.new.self key name_agrees c.loop-index-test.true
          c.index-items-index.is c.name.ensures c.loop-index.invariant.seen c.in_ok-insert.ensures.updates.0;
      once = once_more same_name g.T.Named.called xs i x key.now same_name-Decides c.loop-index-test.true c.index-items-index.is c.name.ensures
          (none_from_is_some _ (ap is_some (sym (c.in_ok-insert.ensures.old ∙ c.loop-index.invariant.seen key)) ∙ sym c.is_some.ensures ∙ c.if-is_some.false))
          c.loop-index.invariant.once;
    }

pub returns : goal.returns
returns g c =
    subst (λ (ns : List Name). ¬ (Twice ns)) (ap (λ xs. map g.T.Named.called xs) (take_all c.loop-index.index c.args.items.now c.loop-index-test.false)) c.loop-index.invariant.once
