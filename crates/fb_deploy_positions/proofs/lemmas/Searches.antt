-- Searches among statements, one after another.
use Rattle.std.proofs.Common.{◌≡◌, ℕ, suc, ◌+◌, ◌≤◌, ◌<◌, Bool, true, false, cond, ◌&&◌, List, [], ◌∷◌, ◌++◌, length, length-take, get_or, take, drop, Some, None, refl, sym, ap, ◌∙◌, arith}
use Rattle.std.proofs.lemmas.List.{drop_all, drop_more, length-map, map_push, take_more}
use Rattle.fb_deploy_positions.specs.Entries.{elements_in, found, has_no_heading, heads_element, is_in_element, is_key}
use Rattle.fb_deploy_positions.specs.Statements.{StatementAt}
use Rattle.fb_deploy_positions.specs.Values.{Text}
use Rattle.fb_deploy_positions.specs.Views.{IsPassed, statement_view, statements_view}
use Rattle.fb_deploy_positions.specs.declared.search.Passed.{Passed}
use Rattle.fb_deploy_positions.specs.declared.statement.Statement.{Statement}

-- ---- One statement more

swap : (h x : Bool) (n : ℕ) → cond x (cond h (n + 1) n + 1) (cond h (n + 1) n) ≡ cond h (cond x (n + 1) n + 1) (cond x (n + 1) n)
swap true true n = refl
swap true false n = refl
swap false true n = refl
swap false false n = refl

elements_more : (array : Text) (before : List StatementAt) (s : StatementAt) → elements_in array (before ++ s ∷ []) ≡ cond (heads_element array s) (elements_in array before + 1) (elements_in array before)
unfolding elements_in
elements_more array [] s = refl
elements_more array (x ∷ before) s =
    ap (λ (n : ℕ). cond (heads_element array x) (n + 1) n) (elements_more array before s) ∙ swap (heads_element array s) (heads_element array x) (elements_in array before)

in_element_more : (array : Text) (last : Bool) (before : List StatementAt) (s : StatementAt)
    → is_in_element array last (before ++ s ∷ []) ≡ cond (is_key s.kind) (is_in_element array last before) (heads_element array s)
unfolding is_in_element
in_element_more array last [] s = refl
in_element_more array last (x ∷ before) s = in_element_more array (cond (is_key x.kind) last (heads_element array x)) before s

swap_and : (a b c : Bool) → a && (b && c) ≡ b && (a && c)
swap_and true true c = refl
swap_and true false c = refl
swap_and false true c = refl
swap_and false false c = refl

no_heading_more : (before : List StatementAt) (s : StatementAt) → has_no_heading (before ++ s ∷ []) ≡ is_key s.kind && has_no_heading before
unfolding has_no_heading
no_heading_more [] s = refl
no_heading_more (x ∷ before) s = ap (λ (b : Bool). is_key x.kind && b) (no_heading_more before s) ∙ swap_and (is_key x.kind) (is_key s.kind) (has_no_heading before)

-- what is known after one statement more
pub passed_more : (array : Text) (before : List StatementAt) (s : StatementAt) (p q : Passed) → IsPassed array before p → q.elements ≡ cond (heads_element array s) (p.elements + 1) p.elements
    → q.in_element ≡ cond (is_key s.kind) p.in_element (heads_element array s) → q.no_heading ≡ is_key s.kind && p.no_heading → IsPassed array (before ++ s ∷ []) q
passed_more array before s p q is elements in_element no_heading = record {
  elements = elements ∙ ap (λ (n : ℕ). cond (heads_element array s) (n + 1) n) is.elements ∙ sym (elements_more array before s);
  in_element = in_element ∙ ap (λ (b : Bool). cond (is_key s.kind) b (heads_element array s)) is.in_element ∙ sym (in_element_more array false before s);
  no_heading = no_heading ∙ ap (λ (b : Bool). is_key s.kind && b) is.no_heading ∙ sym (no_heading_more before s);
}

up_to : (h : Bool) (n m : ℕ) → n ≤ m → cond h (n + 1) n ≤ suc m
up_to true n m few = omega arith
up_to false n m few = omega arith

-- no more elements than statements
few_elements : (array : Text) (before : List StatementAt) → elements_in array before ≤ length before
unfolding elements_in
few_elements array [] = omega arith
few_elements array (s ∷ before) = up_to (heads_element array s) (elements_in array before) (length before) (few_elements array before)

pub few_passed : (array : Text) (xs : List Statement) (i : ℕ) (p : Passed) → IsPassed array (statements_view (take i xs)) p → p.elements ≤ i
few_passed array xs i p is =
    omega (arith, is.elements, few_elements array (statements_view (take i xs)), length-map (take i xs) statement_view, length-take i xs)

-- ---- The first that passes a test

pub found_here : (test : List StatementAt → StatementAt → Bool) (before rest : List StatementAt) (s : StatementAt) → test before s ≡ true → found test before (s ∷ rest) ≡ Some s
unfolding found
found_here test before rest s passes = rw passes

pub found_later : (test : List StatementAt → StatementAt → Bool) (before rest : List StatementAt) (s : StatementAt) → test before s ≡ false → found test before (s ∷ rest) ≡ found test (before ++ s ∷ []) rest
unfolding found
found_later test before rest s fails = rw fails

pub found_none : (test : List StatementAt → StatementAt → Bool) (before : List StatementAt) → found test before [] ≡ None
unfolding found
found_none test before = refl

-- ---- The statements that were passed, and those that follow

pub before_more : (xs : List Statement) (i : ℕ) (s : Statement) → i < length xs → s ≡ get_or xs i s → statements_view (take (i + 1) xs) ≡ statements_view (take i xs) ++ statement_view s ∷ []
before_more xs i s within is =
    ap statements_view (take_more xs i s within ∙ ap (λ (t : Statement). take i xs ++ t ∷ []) (sym is)) ∙ map_push statement_view (take i xs) s

pub rest_more : (xs : List Statement) (i : ℕ) (s : Statement) → i < length xs → s ≡ get_or xs i s → statements_view (drop i xs) ≡ statement_view s ∷ statements_view (drop (i + 1) xs)
rest_more xs i s within is = ap statements_view (drop_more xs i s within ∙ ap (λ (t : Statement). t ∷ drop (i + 1) xs) (sym is))

pub rest_none : (xs : List Statement) (i : ℕ) → length xs ≤ i → statements_view (drop i xs) ≡ []
rest_none xs i ended = ap statements_view (drop_all i xs ended)
