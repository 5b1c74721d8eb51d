use Rattle.fb_net.proofs.lemmas.Common.{system_of, path_at, ports_at, Changes}
use Rattle.fb_net.proofs.lemmas.blocks.Changing.{lent_bounds, one_by_one, variable_sampled}
use Rattle.fb_net.proofs.taking.bring.keep_samples.Given as goal

-- each pair so far was sampled
abbrev pub invariant-loop-index : goal.invariant-loop-index
invariant-loop-index l =
    let sys = system_of l.system in
    let inputs = (ports_at sys (path_at sys l.at.instance)).inputs in
    Changes l.system l.initial.forest l.at.instance (one_by_one variable_sampled (lent_bounds inputs l.yielded)) l.forest
