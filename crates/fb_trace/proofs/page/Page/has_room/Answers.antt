use Rattle.fb_types.proofs.Common.{◌≡◌, length, ap, sym, ◌∙◌, arith, leb-true, le-leb, length-take-le}
use Rattle.fb_trace.specs.Page.{Page}
use Rattle.fb_trace.proofs.page.Page.has_room.Goals as goal

pub returns : goal.returns
returns c =
    let p = c.self.inside in
    let within = c.self.invariant in
    let free = c.before_last.ensures in
    let few : length c.args.self.now.waiting ≡ p.used = ap (λ (q : Page). length q.waiting) (sym c.self.view_is) ∙ length-take-le p.used p.bytes (omega (arith, free.long, within)) in (
      λ fits. let le = leb-true _ _ fits in omega (arith, few, free.rest, le, within),
      λ room. le-leb _ _ (omega (arith, few, free.rest, room, within)),
    )
