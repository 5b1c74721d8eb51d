use Rattle.fb_types.proofs.Common.{◌≡◌, ◌++◌, ◌∙◌, List, Option, ℕ, ap, line_of, line_text, map, option_map, subst, sym, system_of, take_all}
use Rattle.fb_types.specs.declared.run.Form.TheVariants.{One}
use Rattle.fb_types.specs.declared.run.Line as run
use Rattle.fb_session.specs.Hitting.{IsFor, IsHitBy, IsLeastOf}
use Rattle.fb_session.specs.declared.breaks.Break.{Break}
use Rattle.fb_session.proofs.lemmas.BreakingIs.{hit_on}
use Rattle.fb_session.proofs.lemmas.HittingIs.{hit_next}
use Rattle.fb_session.proofs.breaks.Breaks.first_for.Goals as goal

pub loop-line-preserved : goal.loop-line-preserved
loop-line-preserved c =
    let inv = c.loop-line.invariant in
    let i = c.args.system.now in
    let sys = system_of i in
    let l = c.line-item.result in
    let text : c.as_slice-in-loop-line.result.now ≡ line_text One sys (line_of sys l) =
    c.as_slice-in-loop-line.ensures.value ∙ (c.in_ok-render.ensures ∙ ap (λ (t : List ℕ). t ++ line_text One sys (line_of sys l)) c.clear.ensures.items)
    in
    let number : IsLeastOf (IsFor sys (line_of sys l)) c.loop-line.self.set.items c.number_at-number.result =
    subst (λ (xs : List Break). IsLeastOf (IsFor sys (line_of sys l)) xs c.number_at-number.result) c.as_slice.ensures.value (c.number_at-number.ensures i (line_of sys l) text)
    in
    record {
      set = inv.set;
      count = inv.count;
      hit = hit_on c.args.lines.now l c.loop-line.least c.earlier-least.result (c.loop-line.line-index, c.loop-line-test.true, sym c.line-item.is) inv.hit c.earlier-least.ensures.tick;
      least = hit_next sys c.args.self.now.set.items c.loop-line.self.set.items (line_of sys) c.args.lines.now c.loop-line.line-index l (option_map (λ h. h.0) c.loop-line.least)
          c.number_at-number.result (option_map (λ h. h.0) c.earlier-least.result) c.loop-line-test.true c.line-item.is inv.set inv.least number c.earlier-least.ensures.number;
    }

pub returns-clause-least : goal.returns-clause-least
returns-clause-least c =
    let sys = system_of c.args.system.now in
    subst (λ (xs : List run.Line). IsHitBy sys c.args.self.now.set.items (map (line_of sys) xs) (option_map (λ h. h.0) c.loop-line.least))
    (take_all c.loop-line.line-index c.args.lines.now c.loop-line-test.false) c.loop-line.invariant.least
