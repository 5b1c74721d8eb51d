use Rattle.fb_check.proofs.lemmas.Common.{◌++◌, ◌∙◌, ap, is_known, UnknownName, unless, meant, mention_in}
use Rattle.fb_check.specs.declared.types.mentions.Mention as gathered
use Rattle.fb_check_names.proofs.lemmas.Listing.{added_unless, each_done, each_more}
use Rattle.fb_check.proofs.types.basics.push_mentions.Goals as goal

pub loop-index-preserved : goal.loop-index-preserved
loop-index-preserved c =
    each_more (λ m (x : gathered.Mention). unless (is_known c.args.scope.now (meant x)) (mention_in c.args.naming m)) c.args.mentions.now c.loop-index.index c.index-mentions-index.result c.loop-index.found.items c.push_unless.new.found.items _
    c.loop-index-test.true c.index-mentions-index.is (added_unless c.loop-index.found.items c.push_unless.new.found.items c.is_mention_known-is_known.result (is_known c.args.scope.now (meant c.index-mentions-index.result)) (mention_in c.args.naming c.loop-index.index) c.is_mention_known-is_known.ensures
    (c.in_ok-push_unless.ensures ∙ ap (λ (p : UnknownName). c.loop-index.found.items ++ unless c.is_mention_known-is_known.result p) c.mention_in.ensures)) c.loop-index.invariant

pub returns : goal.returns
returns c = each_done (λ m (x : gathered.Mention). unless (is_known c.args.scope.now (meant x)) (mention_in c.args.naming m)) c.args.mentions.now c.loop-index.index c.loop-index.found.items _ c.loop-index-test.false c.loop-index.invariant
