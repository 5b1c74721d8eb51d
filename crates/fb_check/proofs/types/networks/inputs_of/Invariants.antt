use Rattle.fb_check.proofs.lemmas.Common.{◌≡◌, ◌++◌, drop, is_some, data_ins, Parameter, port_number, each_some, each_at, each_from, unless}
use Rattle.fb_check_names.specs.declared.location.UnknownName.TheVariants as location
use Rattle.fb_check.proofs.types.networks.inputs_of.Given as goal

abbrev pub invariant-loop-parameter : goal.invariant-loop-parameter
invariant-loop-parameter l =
    (l.found.items ++ each_from (λ p (x : Parameter). unless (is_some (port_number l.types.library.now l.number data_ins x.name)) (location.Parameter l.site l.instance p)) l.parameter (drop l.parameter l.parameters) ≡ l.fn.found.items ++ each_at (λ p (x : Parameter). unless (is_some (port_number l.types.library.now l.number data_ins x.name)) (location.Parameter l.site l.instance p)) l.parameters)
    × (l.inputs ++ each_some (λ (x : Parameter). port_number l.types.library.now l.number data_ins x.name) (drop l.parameter l.parameters) ≡ each_some (λ (x : Parameter). port_number l.types.library.now l.number data_ins x.name) l.parameters)
