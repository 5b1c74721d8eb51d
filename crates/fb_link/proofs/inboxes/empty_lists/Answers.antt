use Rattle.fb_types.proofs.Common.{◌≡◌, ◌+◌, ◌∷◌, [], length, length-append, sym, ap, ◌∙◌, arith, slice_get, Global, slice_get_within}
use Rattle.fb_types.specs.declared.run.Message.{Message}
use Rattle.std.proofs.Common.{Vec}
use Rattle.fb_types.proofs.lemmas.lists.ByIndex.{slice_get-push}
use Rattle.fb_link.proofs.inboxes.empty_lists.Goals as goal

pub loop-init : goal.loop-init
loop-init c =
    let counted = ap length c.in_ok-lists.ensures.items in
    record {
      counted = counted;
      empty = λ r list had. absurd (let within = slice_get_within c.in_ok-lists.lists.items r list had in omega (arith, within, counted));
    }

pub loop-preserved : goal.loop-preserved
loop-preserved c =
    let lists = c.loop.lists.items in
    let items = c.in_ok-push.ensures.items in
    record {
      counted = ap length items ∙ length-append lists (c.new.result ∷ []) ∙ ap (λ n. n + 1) c.loop.invariant.counted;
      empty = λ r list had.
          slice_get-push (λ q (l : Vec Message Global). l.items ≡ []) lists c.new.result c.loop.invariant.empty c.new.ensures.items r list
          (sym (ap (λ zs. slice_get zs r) items) ∙ had);
    }
