-- The head of a dump with the inside of basic blocks: that of the dump of ports, with the signals of a block in its scope after its
-- ports, and what they begin with.
use Rattle.std.specs.Prelude.{ℕ, ◌+◌, ◌-◌, ◌==◌, List, [], ◌∷◌, ◌++◌, length, Bool, if◌then◌else◌, codes}
use Rattle.fb_types.specs.Names.{Name, Path}
use Rattle.fb_types.specs.Numbers.{ports_at}
use Rattle.fb_types.specs.Systems.{System}
use Rattle.fb_wave.specs.Changes.{line}
use Rattle.fb_wave.specs.Scopes.{closed, instances_begun, opened, own_name, ports_declared}
use Rattle.fb_wave.specs.Signals.{size_of}
use Rattle.fb_inspect.specs.dump.Inner.{inner_begun, inner_declared}

-- a text of the inside of blocks, where that is shown
abbrev pub inner : (with_states : Bool) → List ℕ → List ℕ
inner with_states text = if with_states then text else []

-- the instances of a resource, where this many scopes of instances are open
abbrev pub instances_opened : (with_states : Bool) → System → (resource depth first : ℕ) → List Path → List ℕ
instances_opened b sys r depth s [] = closed depth
instances_opened b sys r depth s (p ∷ ps) =
    let its = ports_at sys p in
    if sys.resource p == r
    then closed (depth + 1 - length p) ++ opened (own_name p) ++ ports_declared s its ++ inner b (inner_declared sys p)
    ++ instances_opened b sys r (length p) (s + size_of its) ps
    else instances_opened b sys r depth (s + size_of its) ps

-- resources, the first with this number
abbrev pub resources_opened : (with_states : Bool) → System → ℕ → List Name → List ℕ
resources_opened b sys r [] = []
resources_opened b sys r (n ∷ ns) = opened n ++ instances_opened b sys r 0 0 sys.paths ++ closed 1 ++ resources_opened b sys (r + 1) ns

-- what the inside of blocks begins with
abbrev pub insides_begun : (with_states : Bool) → System → List Path → List ℕ
insides_begun b sys [] = []
insides_begun b sys (p ∷ ps) = inner b (inner_begun sys p) ++ insides_begun b sys ps

abbrev pub state_head : (with_states : Bool) → System → List ℕ
state_head b sys =
    line (codes "$timescale 1 ms $end") ++ resources_opened b sys 0 sys.resource_names ++ line (codes "$enddefinitions $end")
    ++ line (codes "#0") ++ line (codes "$dumpvars") ++ instances_begun sys 0 sys.paths ++ insides_begun b sys sys.paths ++ line (codes "$end")
