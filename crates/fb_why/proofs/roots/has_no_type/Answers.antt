use Rattle.fb_types.proofs.Common.{◌≡◌, true, false, Option, Some, None, refl, option_map}
use Rattle.std.specs.Prelude.{is_none}
use Rattle.fb_types.specs.Blocks.{Kind, ports_of}
use Rattle.fb_types.specs.Flat.{type_named}
use Rattle.fb_types.specs.declared.library.Ports.{Ports}
use Rattle.fb_why.proofs.roots.has_no_type.Goals as goal

-- what has ports is a type
typed : (kind : Option Kind) (ports : Ports) → Some ports ≡ option_map ports_of kind → false ≡ is_none kind
typed None ports h = absurd (let differ : Some ports ≡ None = h in cc)
typed (Some kind) ports h = refl

untyped : (kind : Option Kind) → None ≡ option_map ports_of kind → true ≡ is_none kind
untyped None h = refl
untyped (Some kind) h = absurd (let differ : None ≡ Some (ports_of kind) = h in cc)

pub returns-in-Some : goal.returns-in-Some
returns-in-Some c = typed (type_named c.args.types.now.library.now c.args.instance.now.block_type) _ c.in-Some.ensures

pub returns-in-None : goal.returns-in-None
returns-in-None c = untyped (type_named c.args.types.now.library.now c.args.instance.now.block_type) c.in-None.ensures
