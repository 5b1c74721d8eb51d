use Rattle.fb_check.proofs.lemmas.Common.{◌++◌, List, ℕ, map, ◌∙◌, ap, Name, each_at, owners_in}
use Rattle.fb_check_names.proofs.lemmas.Listing.{each_done, each_more}
use Rattle.fb_check.proofs.networks.mapping.owners_of.Goals as goal

pub loop-number-init : goal.loop-number-init
loop-number-init c = ap (λ (ks : List ℕ). ks ++ each_at owners_in c.args.resources.now) c.new-owners.ensures.items

pub loop-number-preserved : goal.loop-number-preserved
loop-number-preserved c =
    each_more owners_in c.args.resources.now c.loop-number.number c.index-resources-number.result c.loop-number.owners.items c.push_owner.new.owners.items _ c.loop-number-test.true
    c.index-resources-number.is
    (c.in_ok-push_owner.ensures ∙ ap (λ (ns : List Name). c.loop-number.owners.items ++ map (λ n. c.loop-number.number) ns) c.as_slice.ensures) c.loop-number.invariant

pub returns : goal.returns
returns c = each_done owners_in c.args.resources.now c.loop-number.number c.loop-number.owners.items _ c.loop-number-test.false c.loop-number.invariant
