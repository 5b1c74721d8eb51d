use Rattle.fb_types.proofs.Common.{List, ℕ, ◌++◌, ap, ◌∙◌, refl, true, system_of}
use Rattle.fb_inspect.specs.dump.Heads.{state_head}
use Rattle.fb_inspect.proofs.lemmas.dump.Growing.{shows_none}
use Rattle.fb_inspect.proofs.dump.port_dump.PortDump.begin.Goals as goal

pub returns-clause-shown : goal.returns-clause-shown
returns-clause-shown c none =
    let sys = system_of c.args.system.now in
    shows_none sys c.put_head.new.text.items _ (c.in_ok-put_head.ensures ∙ ap (λ (t : List ℕ). t ++ state_head true sys) none) refl c.in_ok-signals.ensures.levels
