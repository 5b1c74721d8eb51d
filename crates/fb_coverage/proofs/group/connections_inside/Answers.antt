use Rattle.fb_types.proofs.Common.{Option, sym, ap, ◌∙◌, option_and_then, Kind, network_of, system_of, path_at}
use Rattle.fb_types.specs.declared.library.Library.{Library}
use Rattle.fb_check_names.specs.Numbers.{kind_of_number}
use Rattle.fb_wave.proofs.lemmas.Known.{path_some}
use Rattle.fb_coverage.specs.Connected.{connections_of}
use Rattle.fb_coverage.proofs.lemmas.Connections.{network_inside}
use Rattle.fb_coverage.proofs.group.connections_inside.Goals as goal

pub returns : goal.returns
returns c =
    let i = c.args.system.now in
    let p = path_at (system_of i) c.args.instance in
    c.connections_of.ensures
    ∙ ap (λ (lib : Library). connections_of (option_and_then network_of (kind_of_number lib c.kind.result))) c.library.ensures
    ∙ ap (λ (k : Option Kind). connections_of (option_and_then network_of k)) c.kind.ensures
    ∙ sym (ap connections_of (network_inside i.library p (path_some i c.args.instance c.requires)))
