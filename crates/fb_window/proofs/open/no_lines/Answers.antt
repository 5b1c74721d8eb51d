use Rattle.fb_types.proofs.Common.{◌≡◌, List, [], All, length, sym, ap, subst, ◌∙◌, Vec, All-push}
use Rattle.fb_types.specs.declared.run.Line.{Line}
use Rattle.fb_laws.proofs.lemmas.lists.Indexes.{push_counted}
use Rattle.fb_window.proofs.open.no_lines.Goals as goal

pub loop-preserved : goal.loop-preserved
loop-preserved c =
    let lists = c.loop.lists.items in
    let inv = c.loop.invariant in
    let grown = c.in_ok-push.ensures.items in
    let none : Vec Line → Type 0 = λ p. p.items ≡ [] in
    record {
      counted = ap length grown ∙ push_counted lists c.new.result c.loop.counter inv.counted;
      none = subst (λ (v : List (Vec Line)). All none v) (sym grown) (All-push none lists c.new.result inv.none c.new.ensures.items);
    }
