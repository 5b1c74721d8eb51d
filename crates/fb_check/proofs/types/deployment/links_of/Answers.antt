use Rattle.fb_check.proofs.lemmas.Common.{◌≡◌, List, ◌++◌, Option, ℕ, refl, sym, ◌∙◌, ap, IfOk-equal, is_some, option_and_then, option_map, unless, From, To, each_some, sides_unless, some_of}
use Rattle.fb_check_names.specs.declared.numbers.LinkEnds.{LinkEnds}
use Rattle.fb_check_names.specs.declared.location.UnknownName.TheVariants as location
use Rattle.fb_check.specs.types.Present.{ends_in}
use Rattle.fb_check_names.proofs.lemmas.Listing.{each_done, each_more}
use Rattle.fb_check.proofs.lemmas.types.GrowingLists.{and_added, and_first, and_last, list_added, of_ok, one_added}
use Rattle.fb_check.proofs.types.deployment.links_of.Goals as goal

abbrev joined : Option ℕ → Option ℕ → Option LinkEnds
joined a b = option_and_then (λ x. option_map (λ y. record { from = x; to = y }) b) a

pub loop-link-init : goal.loop-link-init
loop-link-init c = (refl, ap (λ (es : List LinkEnds). es ++ each_some (ends_in c.args.resources.now) c.args.links.now) c.new-all.ensures)

pub loop-link-preserved : goal.loop-link-preserved
loop-link-preserved c =
    let m = c.args.resources.now in
    let k = c.loop-link.link in
    let x = c.index-links-link.result in
    let from = location.LinkEnd k From in
    let to = location.LinkEnd k To in
    let f0 = c.loop-link.found.items in
    let f1 = c.push_unless.new.found.items in
    let f2 = c.push_unless-in-loop-link.new.found.items in
    let w1 = c.push_some.new.items in
    let starts = sym (c.is_some.ensures ∙ ap is_some c.index_of_name-from.ensures) in
    let ends = sym (c.is_some-in-loop-link.ensures ∙ ap is_some c.index_of_name-to.ensures) in
    let listed = of_ok (f2 ≡ f0 ++ sides_unless m k x) c.and-in-loop-link.result _ c.in_ok-and.was
    (and_first _ c.and-in-loop-link.result c.and.result c.push_some.result c.and-in-loop-link.ensures
    (and_added c.and.result c.push_unless.result c.push_unless-in-loop-link.result f0 f1 f2 (unless c.is_some.result from) (unless c.is_some-in-loop-link.result to) _
    (λ i. unless (starts i) from ++ unless (ends i) to)
    c.and.ensures c.push_unless.ensures c.push_unless-in-loop-link.ensures)) in
    let number = of_ok (w1 ≡ c.loop-link.all ++ some_of (ends_in m x)) c.and-in-loop-link.result _ c.in_ok-and.was
    (and_last _ c.and-in-loop-link.result c.and.result c.push_some.result c.and-in-loop-link.ensures
    (IfOk-equal c.push_some.result w1 _ _ c.push_some.ensures
    (ap (λ (o : Option LinkEnds). c.loop-link.all ++ some_of o) (c.link_between.ensures ∙ (λ i. joined ((c.index_of_name-from.ensures) i) ((c.index_of_name-to.ensures) i)))))) in (
      each_more (sides_unless m) c.args.links.now k x f0 f2 _ c.loop-link-test.true c.index-links-link.is listed
          c.loop-link.invariant.0,
      one_added (each_some (ends_in m)) (λ x. some_of (ends_in m x)) c.args.links.now k x c.loop-link.all w1 _ (λ y ys. refl) c.loop-link-test.true c.index-links-link.is
          number c.loop-link.invariant.1,
    )

pub returns-clause-listed : goal.returns-clause-listed
returns-clause-listed c = each_done (sides_unless c.args.resources.now) c.args.links.now c.loop-link.link c.loop-link.found.items _ c.loop-link-test.false c.loop-link.invariant.0

pub returns-clause-numbers : goal.returns-clause-numbers
returns-clause-numbers c = list_added (each_some (ends_in c.args.resources.now)) c.args.links.now c.loop-link.link c.loop-link.all _ refl c.loop-link-test.false c.loop-link.invariant.1
