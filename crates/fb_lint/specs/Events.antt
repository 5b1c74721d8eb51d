-- Event inputs that no transition names (IEC 61499-1, 5.2).
use Rattle.std.specs.Prelude.{ℕ, List, Bool, not, ◌&&◌}
use Rattle.std.specs.List.{list_any}
use Rattle.fb_types.specs.Names.{Name, same_name}
use Rattle.fb_types.specs.Blocks.{among}
use Rattle.fb_types.specs.Unknown.{Mention}
use Rattle.fb_types.specs.declared.library.BasicType.{BasicType}
use Rattle.fb_types.specs.declared.library.EventPort.{EventPort}
use Rattle.fb_types.specs.declared.library.Transition.{Transition}
use Rattle.fb_lint.specs.Charts.{is_named}
use Rattle.fb_lint.specs.Findings.{when, each_from}
use Rattle.fb_lint.specs.Reads.{is_variable, mentions_of}
use Rattle.fb_lint.specs.declared.warning.Warning.{Warning}
use Rattle.fb_lint.specs.declared.warning.Warning.TheVariants.{UnnamedEvent}

-- ---- L08

abbrev pub names_event : (event : Name) → Transition → Bool
names_event e x = is_named e x.condition.event

-- another event has the variable WITH it
abbrev pub shares : (event variable : Name) → EventPort → Bool
shares e v p = not (same_name e p.name) && among p.with v

-- the variable is named, and no other event has it WITH it
abbrev pub is_own : List EventPort → List Mention → (event variable : Name) → Bool
is_own es ms e v = list_any (is_variable v) ms && not (list_any (shares e v) es)

-- no transition names the event, and it does not alone sample a variable that an algorithm or a guard names
abbrev pub is_idle : BasicType → EventPort → Bool
is_idle t e =
    not (list_any (names_event e.name) t.transitions)
    && not (list_any (is_own t.ports.event_inputs (mentions_of t.algorithms t.transitions) e.name) e.with)

abbrev pub unnamed_event : (block : ℕ) → BasicType → ℕ → EventPort → List Warning
unnamed_event b t k e = when (is_idle t e) (UnnamedEvent b k)

abbrev pub unnamed_events : (block : ℕ) → BasicType → List EventPort → List Warning
unnamed_events b t es = each_from (unnamed_event b t) 0 es
