use Rattle.std.proofs.Common.{◌∷◌, ◌++◌, [], ℕ, zero, List, ◌∙◌, ap, map, refl}
use Rattle.fb_check_names.specs.TwiceLists.{given_in}
use Rattle.fb_check_names.specs.declared.twice.GivenTwice.{GivenTwice}
use Rattle.fb_check_names.proofs.lemmas.Listing.{walk_done}
use Rattle.fb_check_names.proofs.lemmas.twice.Repeating.{copied_more}
use Rattle.fb_check_names.proofs.repeats.push_pairs.Goals as goal

pub loop-pair-preserved : goal.loop-pair-preserved
loop-pair-preserved c =
    copied_more (given_in c.args.name_space) c.args.pairs.now c.loop-pair.pair-index (zero, zero) c.loop-pair.found.items c.push.new.self.items _ c.loop-pair-test.true (c.in_ok-push.ensures.items ∙ ap (λ (p : GivenTwice). c.loop-pair.found.items ++ p ∷ []) c.given_in.ensures) c.loop-pair.invariant

pub returns : goal.returns
returns c = walk_done (λ (k : ℕ) (rs : List (ℕ × ℕ)). map (given_in c.args.name_space) rs) c.args.pairs.now c.loop-pair.pair-index c.loop-pair.found.items _ refl c.loop-pair-test.false c.loop-pair.invariant
