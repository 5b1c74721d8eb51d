use Rattle.std.proofs.Common.{ℕ, zero, List, map, refl}
use Rattle.fb_check_names.proofs.lemmas.Listing.{walk_done}
use Rattle.fb_check_names.proofs.lemmas.twice.Repeating.{copied_more}
use Rattle.fb_check.specs.networks.Sources.{two_sources_at}
use Rattle.fb_check.proofs.networks.sources.push_pairs.Goals as goal

pub loop-pair-preserved : goal.loop-pair-preserved
loop-pair-preserved c =
    copied_more (two_sources_at c.args.site) c.args.pairs.now c.loop-pair.pair-index (zero, zero) c.loop-pair.found.items c.push.new.self.items _ c.loop-pair-test.true c.in_ok-push.ensures.items c.loop-pair.invariant

pub returns : goal.returns
returns c = walk_done (λ (k : ℕ) (rs : List (ℕ × ℕ)). map (two_sources_at c.args.site) rs) c.args.pairs.now c.loop-pair.pair-index c.loop-pair.found.items _ refl c.loop-pair-test.false c.loop-pair.invariant
