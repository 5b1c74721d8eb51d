use Rattle.fb_expect.proofs.lemmas.Common.{◌≡◌, ℕ, ◌<◌, length, length-map, map, not, false, true, ap, ◌∙◌, arith, text_of}
use Rattle.fb_expect.specs.OwnNames.{IsSecond}
use Rattle.fb_expect.proofs.lemmas.documents.FirstNames.{first-is, first-more, second-at, some-second}
use Rattle.fb_expect.proofs.own_names.second_of_name.Goals as goal

pub returns-then-has_name-clause-second : goal.returns-then-has_name-clause-second
returns-then-has_name-clause-second c =
    second-at c.args.drafts.now c.loop-index.index c.index-drafts-index.result c.has_name.result c.loop-index-test.true c.has_name.ensures c.if-has_name.true c.loop-index.invariant

pub returns-then-has_name-clause-exact : goal.returns-then-has_name-clause-exact
returns-then-has_name-clause-exact c =
    some-second (map text_of c.args.drafts.now) c.loop-index.index
    (second-at c.args.drafts.now c.loop-index.index c.index-drafts-index.result c.has_name.result c.loop-index-test.true c.has_name.ensures c.if-has_name.true c.loop-index.invariant)

pub loop-index-preserved : goal.loop-index-preserved
loop-index-preserved c =
    first-more (map text_of c.args.drafts.now) c.loop-index.index c.loop-index.invariant
    (first-is c.args.drafts.now c.loop-index.index c.index-drafts-index.result c.has_name.result c.loop-index-test.true c.has_name.ensures ∙ ap not c.if-has_name.false)
