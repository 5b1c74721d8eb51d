-- The scopes of a dump, nested as the networks of the declaration are: what `instances_declared` is (`proofs/Nesting`, `scopes_are`).
use Rattle.std.specs.Prelude.{◌≡◌, ◌<◌, ℕ, zero, suc, ◌==◌, List, [], ◌∷◌, ◌++◌, filter, length, Some, None}
use Rattle.std.specs.List.{flat_map}
use Rattle.fb_types.specs.Flat.{holder, inside}
use Rattle.fb_types.specs.Headline.{Inputs, system_of}
use Rattle.fb_types.specs.Names.{Path}
use Rattle.fb_types.specs.Numbers.{path_at, ports_at}
use Rattle.fb_types.specs.Systems.{System}
use Rattle.fb_types.specs.declared.library.Network.{Network}
use Rattle.fb_wave.specs.Scopes.{closed, instances_declared, opened, own_name, ports_declared}
use Rattle.fb_wave.specs.Signals.{first_signal}

-- Each instance is found by its path.
abbrev pub AreNumbered : System → Type 0
AreNumbered sys = (k : ℕ) → k < length sys.paths → sys.number (path_at sys k) ≡ k

-- The scope of the instance at a path: it is opened by its own name, declares the signals of its ports, has the scopes of its
-- components inside, and is closed.
abbrev pub scope_text : System → Path → (inner : List ℕ) → List ℕ
scope_text sys q inner = opened (own_name q) ++ ports_declared (first_signal sys (sys.number q)) (ports_at sys q) ++ inner ++ closed 1

-- the scopes of the instances of a network, at most this many names deep
abbrev pub scopes_inside : (depth : ℕ) → Inputs → Path → Network → List ℕ
scopes_inside zero i p net = []
scopes_inside (suc d) i p net =
    flat_map
    (λ x. scope_text (system_of i) (x.name ∷ p) (elim (inside i.library x) [ None ↦ [] | Some inner ↦ scopes_inside d i (x.name ∷ p) inner ])) net.instances

-- the scopes of the instances of the application that a resource holds
abbrev pub scopes_in : Inputs → (resource : ℕ) → List ℕ
scopes_in i r =
    flat_map (λ x. scope_text (system_of i) (x.name ∷ []) (elim (inside i.library x) [ None ↦ [] | Some inner ↦ scopes_inside 16 i (x.name ∷ []) inner ]))
    (filter (λ x. holder i.plan x.name == r) i.library.application.network.instances)

-- Each instance of a resource is declared once, inside the scopes of the composites on the way to it.
abbrev pub AreNested : Type 0
AreNested =
    (i : Inputs) → AreNumbered (system_of i) → (resource : ℕ)
    → instances_declared (system_of i) resource 0 0 (system_of i).paths ≡ scopes_in i resource
