use Rattle.fb_types.proofs.Common.{Bor, List, Some, ℕ, ◌≡◌, ◌∙◌, ap, option_map, subst, sym}
use Rattle.fb_types.specs.declared.library.Library.{Library}
use Rattle.clap.specs.Words.{Text}
use Rattle.fbsim_command.specs.Drawing.{graph_of}
use Rattle.fbsim_command.specs.Inspecting.{upper}
use Rattle.fbsim_command.specs.Nearest.{IsNearestType}
use Rattle.fbsim_command.proofs.lemmas.calls.Drawing.{no_graph}
use Rattle.fbsim_command.proofs.draw.type_line.Goals as goal

pub returns : goal.returns
returns c =
    let i = c.args.system.now in
    let near = option_map (λ (n : Bor Text). n.now) c.in_ok-near.near in
    let name : c.as_bytes-2.result.now ≡ upper c.args.text.now = c.as_bytes-2.ensures ∙ c.in_ok-name.ensures ∙ ap upper c.as_bytes.ensures.value in
    record {
      unknown = no_graph c.in_ok-graph.field-0 (graph_of i (Some c.args.text.now)) c.is_some.result c.in_ok-graph.ensures c.is_some.ensures c.if-is_some.false;
      near = near;
      nearest = subst (λ (p : Text). IsNearestType i.library p near) name (subst (λ (lib : Library). IsNearestType lib c.as_bytes-2.result.now near) c.library.ensures c.in_ok-near.ensures);
      is = c.in_ok-unknown_line.ensures;
    }
