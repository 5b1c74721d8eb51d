use Rattle.fb_check.proofs.lemmas.Common.{ℕ, zero, List, map, refl, Again}
use Rattle.fb_check_names.proofs.lemmas.Listing.{walk_done}
use Rattle.fb_check_names.proofs.lemmas.twice.Repeating.{copied_more}
use Rattle.fb_check.proofs.networks.mapping.push_again.Goals as goal

pub loop-pair-preserved : goal.loop-pair-preserved
loop-pair-preserved c =
    copied_more (λ (r : ℕ × ℕ). Again r) c.args.pairs.now c.loop-pair.pair-index (zero, zero) c.loop-pair.found.items c.push.new.self.items _ c.loop-pair-test.true c.in_ok-push.ensures.items c.loop-pair.invariant

pub returns : goal.returns
returns c = walk_done (λ (k : ℕ) (rs : List (ℕ × ℕ)). map (λ (r : ℕ × ℕ). Again r) rs) c.args.pairs.now c.loop-pair.pair-index c.loop-pair.found.items _ refl c.loop-pair-test.false c.loop-pair.invariant
