use Rattle.fb_types.proofs.Common.{◌≡◌, ◌||◌, Bool, List, [], ◌∷◌, ◌++◌, Option, Some, None, true, drop, map, take, is_some, refl, sym, subst, ◌∙◌, ap, IfSome, codes, list_any, list_any-append, Name}
use Rattle.std.specs.Option.{option_or}
use Rattle.std.specs.Str.{str_eq_ignore_ascii_case}
use Rattle.fb_why.specs.Explained.{of_checks, of_declarations, of_inputs, of_rules, of_stops, of_warnings}
use Rattle.fb_why.specs.declared.table.Explanation.{Explanation}
use Rattle.fb_why.proofs.explanation.explain.Goals as goal

any_mapped : {X Y : Type 0} (p : Y → Bool) (f : X → Y) (xs : List X) → list_any p (map f xs) ≡ list_any (λ x. p (f x)) xs
any_mapped p f [] = refl
any_mapped p f (x ∷ xs) = ap (λ b. p (f x) || b) (any_mapped p f xs)

abbrev is : Name → Name → Bool
is n m = str_eq_ignore_ascii_case m n

-- what is found in a table is found among its names
among_names :
    (n : Name) (table : List Explanation) (names : List Name)
    → map (λ (e : Explanation). e.name.now) table ≡ names → list_any (λ (e : Explanation). is n e.name.now) table ≡ list_any (is n) names
among_names n table names are = sym (any_mapped (is n) (λ (e : Explanation). e.name.now) table) ∙ ap (list_any (is n)) are

abbrev checked : List Name
checked = of_checks ++ codes "file fault" ∷ []

either : {A : Type 0} (x y : Option A) → is_some (option_or x y) ≡ (is_some x || is_some y)
either None y = refl
either (Some a) y = refl

-- what is found in a front or in the table after it is found in both together
after :
    (n : Name) (front part : List Name) (table : List Explanation) (x y z : Option Explanation) → z ≡ option_or x y → is_some x ≡ list_any (is n) front
    → map (λ (e : Explanation). e.name.now) table ≡ part → is_some y ≡ list_any (λ (e : Explanation). is n e.name.now) table → is_some z ≡ list_any (is n) (front ++ part)
after n front part table x y z made before are found =
    ap is_some made ∙ either x y ∙ ap (λ (b : Bool). b || is_some y) before
    ∙ ap (λ (b : Bool). list_any (is n) front || b) (found ∙ among_names n table part are) ∙ sym (list_any-append (is n) front part)

-- what is found first or else has the name
named : (n : Name) (x y z : Option Explanation) → z ≡ option_or x y → IfSome x (λ e. is n e.name.now ≡ true) → IfSome y (λ e. is n e.name.now ≡ true) → IfSome z (λ e. is n e.name.now ≡ true)
named n None y z made first second = subst (λ (o : Option Explanation). IfSome o (λ e. is n e.name.now ≡ true)) (sym made) second
named n (Some e) y z made first second = subst (λ (o : Option Explanation). IfSome o (λ e. is n e.name.now ≡ true)) (sym made) first

pub returns-clause-named : goal.returns-clause-named
returns-clause-named c =
    let n = c.args.name.now in
    let given = named n _ _ _ c.or.ensures c.look_up.ensures.named c.look_up-2.ensures.named in
    let checks = named n _ _ _ c.or-2.ensures given c.look_up-3.ensures.named in
    let mapped = named n _ _ _ c.or-3.ensures checks c.look_up-4.ensures.named in
    let ruled = named n _ _ _ c.or-4.ensures mapped c.look_up-5.ensures.named in
    let warned = named n _ _ _ c.or-5.ensures ruled c.look_up-6.ensures.named in
    let more = named n _ _ _ c.or-6.ensures warned c.look_up-7.ensures.named in
    let networked = named n _ _ _ c.or-7.ensures more c.look_up-8.ensures.named in
    let coursed = named n _ _ _ c.or-8.ensures networked c.look_up-9.ensures.named in
    named n _ _ _ c.or-9.ensures coursed c.look_up-10.ensures.named

pub returns-clause-all : goal.returns-clause-all
returns-clause-all c =
    let n = c.args.name.now in
    let declared = c.look_up.ensures.found ∙ among_names n c.of_declarations.result.now of_declarations c.of_declarations.ensures in
    let given = after n of_declarations of_inputs c.of_inputs.result.now _ _ _ c.or.ensures declared c.of_inputs.ensures c.look_up-2.ensures.found in
    let checks = after n (of_declarations ++ of_inputs) (take 6 of_checks) c.of_checks.result.now _ _ _ c.or-2.ensures given c.of_checks.ensures c.look_up-3.ensures.found in
    let mapped = after n (of_declarations ++ of_inputs ++ take 6 of_checks) (drop 6 of_checks ++ codes "file fault" ∷ []) c.of_mappings.result.now _ _ _ c.or-3.ensures checks c.of_mappings.ensures c.look_up-4.ensures.found in
    let ruled = after n (of_declarations ++ of_inputs ++ checked) of_rules c.of_rules.result.now _ _ _ c.or-4.ensures mapped c.of_rules.ensures c.look_up-5.ensures.found in
    let warned = after n (of_declarations ++ of_inputs ++ checked ++ of_rules) (take 6 of_warnings) c.of_warnings.result.now _ _ _ c.or-5.ensures ruled c.of_warnings.ensures c.look_up-6.ensures.found in
    let more = after n (of_declarations ++ of_inputs ++ checked ++ of_rules ++ take 6 of_warnings) (take 7 (drop 6 of_warnings)) c.of_more_warnings.result.now _ _ _ c.or-6.ensures warned c.of_more_warnings.ensures c.look_up-7.ensures.found in
    let networked = after n (of_declarations ++ of_inputs ++ checked ++ of_rules ++ take 13 of_warnings) (take 5 (drop 13 of_warnings)) c.of_network_warnings.result.now _ _ _ c.or-7.ensures more c.of_network_warnings.ensures c.look_up-8.ensures.found in
    let coursed = after n (of_declarations ++ of_inputs ++ checked ++ of_rules ++ take 18 of_warnings) (drop 18 of_warnings) c.of_course_warnings.result.now _ _ _ c.or-8.ensures networked c.of_course_warnings.ensures c.look_up-9.ensures.found in
    after n (of_declarations ++ of_inputs ++ checked ++ of_rules ++ of_warnings) of_stops c.of_stops.result.now _ _ _ c.or-9.ensures coursed c.of_stops.ensures c.look_up-10.ensures.found
