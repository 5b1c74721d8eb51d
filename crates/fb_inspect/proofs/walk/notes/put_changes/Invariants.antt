use Rattle.fb_inspect.proofs.lemmas.Common.{◌≡◌, ◌++◌, drop, map, Values, values_of}
use Rattle.fb_inspect.specs.walk.Notes.{changes_text}
use Rattle.fb_inspect.proofs.walk.notes.put_changes.Given as goal

-- with what the rest adds, all is there
abbrev pub invariant-loop-index : goal.invariant-loop-index
invariant-loop-index l =
    (values : Values) → l.before ≡ map values l.variables
    → l.text.items ++ changes_text values (values_of l.frame) (drop l.index l.variables) ≡ l.fn.text.items ++ changes_text values (values_of l.frame) l.variables
