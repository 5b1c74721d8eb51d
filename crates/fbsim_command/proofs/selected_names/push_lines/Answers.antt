use Rattle.fb_types.proofs.Common.{◌++◌, ◌==◌, ◌∙◌, ℕ, List, [], ap, append-nil, map, refl, string_bytes, subst, sym, take_all}
use Rattle.clap.specs.Words.{Text}
use Rattle.fbsim_command.specs.declared.selectors.Selector.{Selector}
use Rattle.fbsim_command.proofs.lemmas.names.KnownNames.{Adds, now, says-more}
use Rattle.fbsim_command.proofs.selected_names.push_lines.Goals as goal

pub loop-selector-init : goal.loop-selector-init
loop-selector-init c = ([], sym (append-nil c.args.lines.now.items), (refl, refl))

pub loop-selector-preserved : goal.loop-selector-preserved
loop-selector-preserved c =
    says-more c.args.option.now (map now c.args.names.now) c.args.selectors.now c.loop-selector.selector-index c.selector-item.result c.args.lines.now.items c.loop-selector.lines.items
    c.extend_from_slice.new.self.items (string_bytes c.in_ok-line.line) c.loop-selector.is_some _ c.is_empty.result c.loop-selector-test.true c.selector-item.is c.in_ok-line.ensures
    (c.in_ok-extend_from_slice.ensures.items ∙ ap (λ (t : Text). c.loop-selector.lines.items ++ t) c.as_bytes.ensures.value) (c.is_empty.ensures ∙ ap (λ (n : ℕ). n == 0) c.in_ok-line.line.bytes.ok.0) refl c.loop-selector.invariant

pub returns : goal.returns
returns c =
    subst (λ (ss : List Selector). Adds c.args.option.now (map now c.args.names.now) ss c.args.lines.now.items c.loop-selector.lines.items c.loop-selector.is_some)
    (take_all c.loop-selector.selector-index c.args.selectors.now c.loop-selector-test.false) c.loop-selector.invariant
