-- States that no transitions lead to (IEC 61499-1, 5.2.1).
use Rattle.std.specs.Prelude.{◌≡◌, ℕ, List, [], ◌∷◌, map, Bool, not, ◌&&◌, ◌||◌, Contains}
use Rattle.fb_types.specs.Names.{Name, same_name}
use Rattle.fb_types.specs.Blocks.{among}
use Rattle.fb_types.specs.declared.library.State.{State}
use Rattle.fb_types.specs.declared.library.Transition.{Transition}
use Rattle.fb_lint.specs.Findings.{when, each_from}
use Rattle.fb_lint.specs.declared.reached.Edge as code
use Rattle.fb_lint.specs.declared.warning.Warning.{Warning}
use Rattle.fb_lint.specs.declared.warning.Warning.TheVariants.{UnreachedState}

-- From the initial state on, each transition that leaves a state which is reached leads to one which is reached.
pub data Reached (xs : List Transition) (initial : Name) : Name → Type 0 where
  at_first : Reached xs initial initial
  by_transition : (x : Transition) → Contains xs x → Reached xs initial x.from → Reached xs initial x.to

-- ---- The same as a test

-- An edge from state to state.
abbrev pub Edge : Type 0
Edge = Name × Name

abbrev pub edge_of : Transition → Edge
edge_of x = (x.from, x.to)

-- edges lead from one state to another: without the first edge, or up to where it begins and on from where it ends
abbrev pub leads : List Edge → (from to : Name) → Bool
leads [] s u = same_name s u
leads (e ∷ es) s u = leads es s u || (leads es s e.0 && leads es e.1 u)

abbrev pub unreached_state : (block : ℕ) → (initial : Name) → List Transition → ℕ → State → List Warning
unreached_state b initial xs k s = when (not (leads (map edge_of xs) initial s.name)) (UnreachedState b k)

abbrev pub unreached_from : (block : ℕ) → (initial : Name) → List Transition → List State → List Warning
unreached_from b initial xs ss = each_from (unreached_state b initial xs) 0 ss

-- the first state is the initial one
abbrev pub unreached_states : (block : ℕ) → List Transition → List State → List Warning
unreached_states b xs [] = []
unreached_states b xs (s ∷ ss) = unreached_from b s.name xs (s ∷ ss)

-- ---- As the code has them

abbrev pub edge_is : code.Edge → Edge
edge_is e = (e.from.now, e.to.now)

abbrev pub edges_are : List code.Edge → List Edge
edges_are es = map edge_is es

-- the states that are not among the names
abbrev pub unlisted_state : (block : ℕ) → List Name → ℕ → State → List Warning
unlisted_state b ns k s = when (not (among ns s.name)) (UnreachedState b k)

abbrev pub unlisted_states : (block : ℕ) → List Name → List State → List Warning
unlisted_states b ns ss = each_from (unlisted_state b ns) 0 ss

-- the names are those to which the edges lead
abbrev pub AreReached : List Edge → (initial : Name) → List Name → Type 0
AreReached es initial ns = (n : Name) → among ns n ≡ leads es initial n
