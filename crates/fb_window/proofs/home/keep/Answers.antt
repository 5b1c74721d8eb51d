use Rattle.fb_types.proofs.Common.{◌≡◌, ◌++◌, ◌∙◌, [], ap, sym, vec_len, eqb-true}
use Rattle.fb_window.proofs.lemmas.lines.FoundLines.{no_length}
use Rattle.fb_window.proofs.home.keep.Goals as goal

pub returns-then-is_empty : goal.returns-then-is_empty
returns-then-is_empty c =
    let kept = c.args.kept in
    let none : kept.items ≡ [] = no_length kept.items (sym kept.ok.0 ∙ eqb-true (vec_len kept) 0 (sym c.is_empty.ensures ∙ c.if-is_empty.true)) in
    sym (ap (λ z. z ++ c.args.lines.items) none)

pub returns : goal.returns
returns c = c.in_ok-append_lines.ensures
