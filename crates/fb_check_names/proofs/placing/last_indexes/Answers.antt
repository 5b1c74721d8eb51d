use Rattle.fb_types.proofs.Common.{◌++◌, List, ℕ, refl, ◌∙◌, ap, map, subst, take_all, Name, same_name}
use Rattle.std.specs.Borrow.{Bor}
use Rattle.fb_types.proofs.lemmas.names.NameLaws.{same_name-Decides}
use Rattle.fb_check_names.proofs.lemmas.comparisons.DecidedSame.{name_cmp, name_cmp-exact}
use Rattle.fb_check_names.proofs.lemmas.Listing.{each_done, each_more}
use Rattle.fb_check_names.proofs.lemmas.twice.Repeating.{AreLast, IsSame, agrees, last_more, last_none, pair_in, pairs_are, index_in_table}
use Rattle.fb_check_names.proofs.placing.last_indexes.Goals as goal

name_agrees : IsSame name_cmp (λ (n : Bor Name). n.now) same_name
name_agrees = agrees name_cmp (λ (n : Bor Name). n.now) same_name name_cmp-exact same_name-Decides

pub loop-second-init : goal.loop-second-init
loop-second-init c = (last_none name_cmp (λ (n : Bor Name). n.now) same_name c.new-indexes.result c.new-indexes.ensures.empty, refl)

pub loop-second-preserved : goal.loop-second-preserved
loop-second-preserved c =
    let xs = c.args.names.now in
    let i = c.loop-second.second in
    let x = c.index-names-second.result in (
      last_more name_cmp (λ (n : Bor Name). n.now) same_name (λ (n : Bor Name). n.now) xs i x c.loop-second.indexes c.insert.new.self x name_agrees c.loop-second-test.true
          c.index-names-second.is refl c.loop-second.invariant.0 c.in_ok-first.ensures.updates.0,
      each_more (pair_in same_name (λ (n : Bor Name). n.now) xs) xs i x c.loop-second.again.items c.push_pair.new.pairs.items _ c.loop-second-test.true c.index-names-second.is
          (c.in_ok-push_pair.ensures
          ∙ ap (λ (ps : List (ℕ × ℕ)). c.loop-second.again.items ++ ps)
          (index_in_table name_cmp (λ (n : Bor Name). n.now) same_name (λ (n : Bor Name). n.now) xs i x c.loop-second.indexes x _ refl c.loop-second.invariant.0
          c.in_ok-first.ensures.old))
          c.loop-second.invariant.1,
    )

pub returns-clause-again : goal.returns-clause-again
returns-clause-again c =
    let xs = c.args.names.now in
    each_done (pair_in same_name (λ (n : Bor Name). n.now) xs) xs c.loop-second.second c.loop-second.again.items _ c.loop-second-test.false c.loop-second.invariant.1
    ∙ ap (λ (ps : List (ℕ × ℕ)). c.args.again.now.items ++ ps) (pairs_are same_name (λ (n : Bor Name). n.now) xs)

pub returns-clause-indexes : goal.returns-clause-indexes
returns-clause-indexes c = λ n.
    let all : AreLast name_cmp (λ (n : Bor Name). n.now) same_name (map (λ (n : Bor Name). n.now) c.args.names.now) c.loop-second.indexes =
    subst (λ (ns : List (Bor Name)). AreLast name_cmp (λ (n : Bor Name). n.now) same_name (map (λ (n : Bor Name). n.now) ns) c.loop-second.indexes)
    (take_all c.loop-second.second c.args.names.now c.loop-second-test.false) c.loop-second.invariant.0 in
    all (record { ref_ptr = (0, 0); now = n })
