use Rattle.fb_types.proofs.Common.{Bor, List, ℕ, ◌≡◌, ◌∙◌, ap, option_map, subst, sym}
use Rattle.clap.specs.Words.{Text}
use Rattle.fbsim_command.specs.Inspecting.{upper}
use Rattle.fbsim_command.specs.Nearest.{IsNearestPath}
use Rattle.fbsim_command.proofs.lemmas.names.Nearest.{has-path, no-path}
use Rattle.fbsim_command.proofs.inspect.path_line.Goals as goal

pub returns-then-is_some : goal.returns-then-is_some
returns-then-is_some c =
    let path : upper c.args.text.now ≡ c.as_bytes-2.result.now = ap upper (sym c.as_bytes.ensures.value) ∙ sym c.in_ok-path.ensures ∙ sym c.as_bytes-2.ensures in
    has-path c.args.system.now c.args.text.now c.as_bytes-2.result.now c.instance_at.result c.is_some.result path c.is_some.ensures c.if-is_some.true c.instance_at.ensures.within
    c.instance_at.ensures.found

pub returns : goal.returns
returns c =
    let i = c.args.system.now in
    let path : upper c.args.text.now ≡ c.as_bytes-2.result.now = ap upper (sym c.as_bytes.ensures.value) ∙ sym c.in_ok-path.ensures ∙ sym c.as_bytes-2.ensures in
    let near = option_map (λ (n : Bor Text). n.now) c.in_ok-near.near in
    record {
      unknown = no-path i c.args.text.now c.as_bytes-2.result.now c.instance_at.result c.is_some.result path c.is_some.ensures c.if-is_some.false c.instance_at.ensures.none;
      near = near;
      nearest = subst (λ (p : Text). IsNearestPath i p near) (sym (ap upper (sym c.as_bytes.ensures.value) ∙ sym c.in_ok-path.ensures ∙ sym c.as_bytes-3.ensures)) c.in_ok-near.ensures;
      is = c.in_ok-unknown_line.ensures;
    }
