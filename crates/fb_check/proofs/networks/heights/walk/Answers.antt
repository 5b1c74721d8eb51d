use Rattle.fb_check.proofs.lemmas.Common.{◌≡◌, ◌<◌, Bool, List, length, true, false, sym, ap, ◌∙◌, arith, true≢false}
use Rattle.fb_types.proofs.Common.{set, length-set}
use lib.ListN.{length-replicate}
use Rattle.fb_check.specs.networks.Heights.{mark_at}
use Rattle.fb_check.proofs.lemmas.networks.Lasting.{count_within, lasting_below, lasting_within, lead_on, mark_get, none_set, one_more_set}
use Rattle.fb_check.proofs.networks.heights.walk.Goals as goal

pub steps-init : goal.steps-init
steps-init c = record {
  marked = c.requires.marked;
  counted = ap length c.requires.unseen ∙ length-replicate _ _;
  lead = λ j there. absurd (true≢false (sym there ∙ ap (λ (bs : List Bool). mark_at bs j) c.requires.unseen ∙ none_set (length c.args.blocks.now) j));
}

pub bounds-seen-block : goal.bounds-seen-block
bounds-seen-block c =
    let inv = c.steps.invariant in
    let within = lasting_within c.args.blocks.now c.args.marks.now c.steps.block c.requires.lasting inv.marked in
    let counted = inv.counted in
    omega (arith, within, counted)

pub unreachable-requires : goal.unreachable-requires
unreachable-requires c =
    let next = lasting_below c.args.blocks.now c.args.marks.now c.steps.block c.requires.lasting c.steps.invariant.marked in
    absurd (let no = sym next.1 ∙ sym c.below.ensures ∙ c.in_default.is in cc)

pub steps-preserved : goal.steps-preserved
steps-preserved c =
    let inv = c.steps.invariant in
    let xs = c.args.blocks.now in
    let ms = c.args.marks.now in
    let k = c.steps.block in
    let next = lasting_below xs ms k c.requires.lasting inv.marked in
    let at = sym c.below.ensures ∙ c.in-Some.is in
    let same : next.0 ≡ c.in-Some.next = let both = sym next.1 ∙ at in cc in
    record {
      marked = ap (mark_at ms) (sym same) ∙ next.2;
      counted = length-set c.steps.seen k true ∙ inv.counted;
      lead = lead_on xs ms c.steps.seen k c.in-Some.next at inv.lead;
    }

pub steps-smaller : goal.steps-smaller
steps-smaller c =
    let inv = c.steps.invariant in
    let k = c.steps.block in
    let seen = c.steps.seen in
    let within = lasting_within c.args.blocks.now c.args.marks.now k c.requires.lasting inv.marked in
    let counted = inv.counted in
    let inside : k < length seen = omega (arith, within, counted) in
    let more = one_more_set seen k inside (mark_get seen k false inside ∙ c.steps-test.true) in
    let long = length-set seen k true in
    let most = count_within (set seen k true) in
    omega (arith, more, long, most)

pub returns : goal.returns
returns c =
    let inv = c.steps.invariant in
    let k = c.steps.block in
    let within = lasting_within c.args.blocks.now c.args.marks.now k c.requires.lasting inv.marked in
    let counted = inv.counted in
    let inside : k < length c.steps.seen = omega (arith, within, counted) in
    inv.lead k (mark_get c.steps.seen k false inside ∙ c.steps-test.false)
