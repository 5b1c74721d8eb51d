use Rattle.fb_types.proofs.Common.{ℕ, List, [], map, refl, Name}
use Rattle.fb_check_names.proofs.lemmas.Listing.{walk_done}
use Rattle.fb_check_names.proofs.lemmas.twice.Repeating.{copied_more}
use Rattle.fb_check.proofs.networks.mapping.push_owner.Goals as goal

pub loop-name-preserved : goal.loop-name-preserved
loop-name-preserved c =
    copied_more (λ (n : Name). c.args.number) c.args.names.now c.loop-name._name-index [] c.loop-name.owners.items c.push.new.self.items _ c.loop-name-test.true c.in_ok-push.ensures.items
    c.loop-name.invariant

pub returns : goal.returns
returns c = walk_done (λ (k : ℕ) (ns : List Name). map (λ n. c.args.number) ns) c.args.names.now c.loop-name._name-index c.loop-name.owners.items _ refl c.loop-name-test.false c.loop-name.invariant
