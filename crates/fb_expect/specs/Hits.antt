-- What lines are to a rule (this project's own).
use Rattle.std.specs.Prelude.{◌≡◌, ℕ, Bool, true, false, List, map, Option, slice_index_or}
use Rattle.std.specs.Option.{option_map_or}
use Rattle.fb_expect.specs.Events.{Event}
use Rattle.fb_expect.specs.Patterns.{meets}
use Rattle.fb_expect.specs.declared.hit.Hit.{Hit}
use Rattle.fb_expect.specs.declared.pattern.Pattern.{Pattern}
use Rattle.fb_expect.specs.declared.rule.Rule.{Rule}

-- whether a line meets a pattern that may be absent
abbrev pub may_meet : Option Pattern → Event → Bool
may_meet o e = option_map_or (λ p. meets p e) o false

-- A line as a rule sees it: its tick, and which of the rule's patterns it meets.
abbrev pub hit_of : Rule → Event → Hit
hit_of r e = record { tick = e.tick; first = meets r.first e; second = may_meet r.second e; third = may_meet r.third e }

abbrev pub hits_of : Rule → List Event → List Hit
hits_of r es = map (hit_of r) es

-- no line, which meets nothing
abbrev pub no_hit : Hit
no_hit = record { tick = 0; first = false; second = false; third = false }

-- The line at a index, counted from 0. No line comes after the last.
abbrev pub hit_at : List Hit → ℕ → Hit
hit_at hs i = slice_index_or hs i no_hit

abbrev pub tick_at : List Hit → ℕ → ℕ
tick_at hs i = (hit_at hs i).tick

-- a P, a Q or an R is at a index
abbrev pub IsFirst : List Hit → ℕ → Type 0
IsFirst hs i = (hit_at hs i).first ≡ true

abbrev pub IsSecond : List Hit → ℕ → Type 0
IsSecond hs i = (hit_at hs i).second ≡ true

abbrev pub IsThird : List Hit → ℕ → Type 0
IsThird hs i = (hit_at hs i).third ≡ true
