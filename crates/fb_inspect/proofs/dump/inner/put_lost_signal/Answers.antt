use Rattle.std.proofs.Common.{ℕ, List, ◌++◌, codes, decimal, ap, ◌∙◌}
use Rattle.fb_wave.proofs.lemmas.Handing.{on_ok, on_put}
use Rattle.fb_inspect.proofs.lemmas.dump.Changing.{lost_line, three_put}
use Rattle.fb_inspect.proofs.lemmas.results.Joined.{both_put}
use Rattle.fb_inspect.proofs.dump.inner.put_lost_signal.Goals as goal

pub returns : goal.returns
returns c =
    let old = c.args.text.now.items in
    let i = c.args.instance in
    let first = on_put c.extend_from_slice.result _ _ _ _ c.extend_from_slice.ensures.items (λ e. e) in
    let last = on_put c.extend_from_slice-2.result _ _ _ _ c.extend_from_slice-2.ensures.items (λ e. e) in
    on_ok c.and-2.result _ _
    (both_put c.and-2.result c.and.result c.extend_from_slice-2.result _ _ _ _ c.and-2.ensures
    (both_put c.and.result c.extend_from_slice.result c.put_decimal.result _ _ _ (decimal c.from.result) c.and.ensures first c.put_decimal.ensures) last)
    (λ e.
    e
    ∙ three_put old (codes "$var event 1 l") (decimal c.from.result) (codes " lost $end\n")
    ∙ ap (λ (k : ℕ). old ++ (codes "$var event 1 l" ++ (decimal k ++ codes " lost $end\n"))) c.from.ensures
    ∙ ap (λ (l : List ℕ). old ++ l) (lost_line i))
