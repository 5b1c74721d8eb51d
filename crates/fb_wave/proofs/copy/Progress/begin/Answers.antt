use Rattle.fb_types.proofs.Common.{ℕ, List, ◌++◌, ap, ◌∙◌, system_of}
use Rattle.fb_wave.specs.Scopes.{head_text}
use Rattle.fb_wave.proofs.lemmas.Showing.{sets_none}
use Rattle.fb_wave.proofs.copy.Progress.begin.Goals as goal

pub returns-clause-shown : goal.returns-clause-shown
returns-clause-shown c =
    let sys = system_of c.args.table.now.system.now in
    sets_none sys c.put_head.new.text.items c.in_ok-signals.signals.levels (c.in_ok-put_head.ensures ∙ ap (λ (t : List ℕ). t ++ head_text sys) c.new-text.ensures.items) c.in_ok-signals.ensures.levels
