use Rattle.fb_types.proofs.Common.{◌≡◌, drop, list_any}
use Rattle.std.specs.Str.{str_eq_ignore_ascii_case}
use Rattle.fb_why.specs.declared.table.Explanation.{Explanation}
use Rattle.fb_why.proofs.explanation.look_up.Given as goal

abbrev pub invariant-loop-explanation : goal.invariant-loop-explanation
invariant-loop-explanation l =
    list_any (λ (e : Explanation). str_eq_ignore_ascii_case e.name.now l.name) l.table
    ≡ list_any (λ (e : Explanation). str_eq_ignore_ascii_case e.name.now l.name) (drop l.explanation-index l.table)
