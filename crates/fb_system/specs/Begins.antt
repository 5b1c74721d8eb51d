-- Initial values of the data inputs of an instance (IEC 61499-1, 5.1; IEC 61131-3, 6.5.1 for values that are not
-- declared).
use Rattle.std.specs.Prelude.{List, map, None, Some}
use Rattle.fb_types.specs.Names.{Name}
use Rattle.fb_types.specs.Blocks.{named, initial_of}
use Rattle.fb_types.specs.declared.library.Parameter.{Parameter}
use Rattle.fb_types.specs.declared.library.Ports.{Ports}
use Rattle.fb_types.specs.declared.library.Variable.{Variable}
use Rattle.fb_types.specs.declared.value.Value.{Value}

abbrev pub parameter_names : List Parameter → List Name
parameter_names xs = map (λ x. x.name) xs

-- the value of the parameter with the variable's name, else what the variable declares
abbrev pub begin_value : List Parameter → Variable → Value
begin_value xs v = elim (named (λ x. x.name) v.name xs) [ None ↦ initial_of v | Some x ↦ x.value ]

-- each data input with these parameters, in the order of the declaration
abbrev pub begins_with : Ports → List Parameter → List Value
begins_with its xs = map (begin_value xs) its.inputs
