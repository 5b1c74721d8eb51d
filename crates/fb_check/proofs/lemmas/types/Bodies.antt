-- An algorithm is right if each of its statements is, by itself.
use Rattle.fb_types.proofs.Common.{◌≡◌, Bool, true, false, ◌&&◌, List, ◌++◌, refl, ◌∙◌, ap, list_all, list_all-append, is_condition, Stmt, Empty, Exit, Return, Assign, If, Case, For, While, Repeat, Stmts, no_stmt, then_stmts, Choices, no_choice, then_choices, Branches, no_branch, then_branches}
use Rattle.fb_types.specs.declared.library.BasicType.{BasicType}
use Rattle.fb_types.specs.Kinds.{is_right, body_right, choices_right, branches_right, is_whole}
use Rattle.fb_check.specs.types.Checks.{in_place}
use Rattle.fb_check.specs.types.Statements.{Standing, conditions_right, each_in_body, each_in_branches, each_in_choices, each_inside, own_right, stands_right}
use Rattle.fb_check.proofs.lemmas.types.Checks.{and_both, and_true}

-- ---- Truth values

and_assoc : (a b c : Bool) → (a && (b && c)) ≡ ((a && b) && c)
and_assoc true b c = refl
and_assoc false b c = refl

shuffle : (a b c d : Bool) → ((a && b) && (c && d)) ≡ ((a && c) && (b && d))
shuffle false b c d = refl
shuffle true true c d = refl
shuffle true false true d = refl
shuffle true false false d = refl

and_turned : (a b : Bool) → (a && b) ≡ (b && a)
and_turned true true = refl
and_turned true false = refl
and_turned false true = refl
and_turned false false = refl

-- ---- All statements

abbrev all_right : BasicType → List Standing → Bool
all_right t ss = list_all (stands_right t) ss

both_right : (t : BasicType) (xs ys : List Standing) (a b : Bool) → all_right t xs ≡ a → all_right t ys ≡ b → all_right t (xs ++ ys) ≡ (a && b)
both_right t xs ys a b h g = list_all-append (stands_right t) xs ys ∙ and_both h g

mutual
  -- a statement by itself, and those inside it
  inside_each : (t : BasicType) (l : Bool) (s : Stmt) → (own_right (in_place t l) s && all_right t (each_inside l s)) ≡ is_right (in_place t l) s
  inside_each t l Empty = refl
  inside_each t l Exit = and_true l
  inside_each t l Return = refl
  inside_each t l (Assign n e) = and_true (own_right (in_place t l) (Assign n e))
  inside_each t l (If cs others) =
      let p = in_place t l in
      ap (λ b. conditions_right p cs && b) (list_all-append (stands_right t) (each_in_choices l cs) (each_in_body l others))
      ∙ and_assoc (conditions_right p cs) (all_right t (each_in_choices l cs)) (all_right t (each_in_body l others))
      ∙ and_both (choices_each t l cs) (body_each t l others)
  inside_each t l (Case e bs others) =
      let p = in_place t l in
      ap (λ b. is_whole p e && b) (both_right t (each_in_branches l bs) (each_in_body l others) (branches_right p bs) (body_right p others) (branches_each t l bs) (body_each t l others))
      ∙ and_assoc (is_whole p e) (branches_right p bs) (body_right p others)
  inside_each t l (For n a b c body) = ap (λ r. own_right (in_place t l) (For n a b c body) && r) (body_each t true body)
  inside_each t l (While c body) = ap (λ r. is_condition (in_place t l) c && r) (body_each t true body)
  inside_each t l (Repeat body c) =
      ap (λ r. is_condition (in_place t l) c && r) (body_each t true body)
      ∙ and_turned (is_condition (in_place t l) c) (body_right (in_place t true) body)

  pub body_each : (t : BasicType) (l : Bool) (ss : Stmts) → all_right t (each_in_body l ss) ≡ body_right (in_place t l) ss
  body_each t l no_stmt = refl
  body_each t l (then_stmts s rest) =
      let own = own_right (in_place t l) s in
      ap (λ b. own && b) (list_all-append (stands_right t) (each_inside l s) (each_in_body l rest))
      ∙ and_assoc own (all_right t (each_inside l s)) (all_right t (each_in_body l rest))
      ∙ and_both (inside_each t l s) (body_each t l rest)

  choices_each : (t : BasicType) (l : Bool) (cs : Choices) → (conditions_right (in_place t l) cs && all_right t (each_in_choices l cs)) ≡ choices_right (in_place t l) cs
  choices_each t l no_choice = refl
  choices_each t l (then_choices c body rest) =
      let p = in_place t l in
      ap (λ b. (is_condition p c && conditions_right p rest) && b) (list_all-append (stands_right t) (each_in_body l body) (each_in_choices l rest))
      ∙ shuffle (is_condition p c) (conditions_right p rest) (all_right t (each_in_body l body)) (all_right t (each_in_choices l rest))
      ∙ and_both (ap (λ b. is_condition p c && b) (body_each t l body)) (choices_each t l rest)

  branches_each : (t : BasicType) (l : Bool) (bs : Branches) → all_right t (each_in_branches l bs) ≡ branches_right (in_place t l) bs
  branches_each t l no_branch = refl
  branches_each t l (then_branches ls body rest) =
      both_right t (each_in_body l body) (each_in_branches l rest) (body_right (in_place t l) body) (branches_right (in_place t l) rest) (body_each t l body) (branches_each t l rest)
