use Rattle.fb_types.proofs.Common.{Contains, map, subst, List, take_all}
use Rattle.fb_types.specs.declared.deploy.Link.{Link}
use Rattle.fb_check.specs.networks.Links.{names_of_link}
use Rattle.fb_check.proofs.lemmas.networks.SetsOfSeen.{Has, elements_more, pair_cmp, pair_cmp-exact, pair_view}
use Rattle.fb_check.proofs.lemmas.networks.NoLink.{ways_from}
use Rattle.fb_check.proofs.networks.links.add_ways.Goals as goal

pub loop-link-init : goal.loop-link-init
loop-link-init c = λ k. c.requires.has k.0.now k.1.now

pub loop-link-preserved : goal.loop-link-preserved
loop-link-preserved c =
    elements_more pair_cmp pair_view names_of_link _ _ _ _ _ c.way_of.result pair_cmp-exact c.loop-link-test.true c.link-item.is
    c.way_of.ensures c.loop-link.invariant c.in_ok-insert.ensures.updates.0

pub returns : goal.returns
returns c =
    let P : List Link → Type 0 = λ ls. Has pair_cmp pair_view (Contains (map names_of_link ls)) c.loop-link.ways in
    ways_from c.args.links.now _ (subst P (take_all c.loop-link.link-index c.args.links.now c.loop-link-test.false) c.loop-link.invariant)
