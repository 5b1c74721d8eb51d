-- What the tests of each block type say of the whole declaration.
use Rattle.fb_types.proofs.Common.{◌≡◌, ◌⊎◌, ◌&&◌, Bool, true, false, not, List, [], ◌∷◌, map, Some, None, refl, sym, ◌∙◌, inl, inr, flat_map, ◌↔◌, IsTrue, list_all, true≢false, and_parts, list_all-append, Name, Stmts, expr_of, body_of, among, variable_names, ports_of, kind_of, variables_in, basics, basics_in, interfaces, all_of, required_withs, required_chart, Mention, mentions, mentions_body, mentioned, is_known, context_in, is_condition, declared_right}
use Rattle.fb_types.specs.declared.library.Library.{Library}
use Rattle.fb_types.specs.declared.library.BlockType.{BlockType}
use Rattle.fb_types.specs.declared.library.BasicType.{BasicType}
use Rattle.fb_types.specs.declared.library.EventPort.{EventPort}
use Rattle.fb_types.specs.declared.library.Ports.{Ports}
use Rattle.fb_types.specs.declared.library.Transition.{Transition}
use Rattle.std.proofs.lemmas.List.Folds.{list_all-map}
use Rattle.fb_types.specs.Syntax.{Expr}
use Rattle.fb_types.specs.Unknown.{required_transition, required_actions, guards_of}
use Rattle.fb_types.specs.Kinds.{body_right, ChartWrong}
use Rattle.fb_types.specs.declared.library.BlockType.TheVariants as block
use Rattle.fb_check_names.specs.Parts.{required_parts, ArePartsKnown, PartWrong}
use Rattle.fb_types.proofs.lemmas.names.NameLaws.{contains_from_any, any_from_contains}
use Rattle.fb_types.proofs.lemmas.lists.ListTests.{list_all-flat_map, list_all-agree, fails_at, passes_at, passes_from}
use Rattle.fb_check.specs.types.Checks.{is_met, all_met, with_inputs, with_outputs, transition_met, actions_met, body_known, guard_known, algorithm_right, required_action, all_known, guard_mentions, is_known_block, is_guard_right, chart_right, is_right_block}

-- ---- Truth values

pub and_true : (b : Bool) → (b && true) ≡ b
and_true true = refl
and_true false = refl

pub and_both : {a b c d : Bool} → a ≡ c → b ≡ d → (a && b) ≡ (c && d)
and_both p q = λ k. p k && q k

one : (a b : Bool) → (a && b) ≡ false → (a ≡ false) ⊎ (b ≡ false)
one true b h = inr h
one false b h = inl refl

shuffle_two : (w c lw lc : Bool) → ((w && lw) && (c && lc)) ≡ ((w && c) && (lw && lc))
shuffle_two false c lw lc = refl
shuffle_two true true lw lc = refl
shuffle_two true false true lc = refl
shuffle_two true false false lc = refl

shuffle_three : (w c m lw lc lm : Bool) → (((w && lw) && (c && lc)) && (m && lm)) ≡ ((w && (c && m)) && ((lw && lc) && lm))
shuffle_three false c m lw lc lm = refl
shuffle_three true false m true lc lm = refl
shuffle_three true false m false lc lm = refl
shuffle_three true true true lw lc lm = refl
shuffle_three true true false true true lm = refl
shuffle_three true true false true false lm = refl
shuffle_three true true false false lc lm = refl

-- ---- Names of one type

all_of_met : (ns value_kind : List Name) → all_met (all_of ns value_kind) ≡ list_all (among value_kind) ns
all_of_met ns value_kind = list_all-map is_met (λ n. (n, value_kind)) ns

withs_in : (es : List EventPort) (value_kind : List Name) → all_met (flat_map (λ e. all_of e.with value_kind) es) ≡ list_all (λ e. list_all (among value_kind) e.with) es
withs_in es value_kind =
    list_all-flat_map is_met (λ e. all_of e.with value_kind) es
    ∙ list_all-agree (λ e. all_met (all_of e.with value_kind)) (λ e. list_all (among value_kind) e.with) (λ e. all_of_met e.with value_kind) es

pub withs_met :
    (p : Ports) → all_met (required_withs p) ≡ (list_all (with_inputs p) p.event_inputs && list_all (with_outputs p) p.event_outputs)
withs_met p =
    let ins : List Name = variable_names p.inputs in
    let outs : List Name = variable_names p.outputs in
    list_all-append is_met (flat_map (λ e. all_of e.with ins) p.event_inputs) (flat_map (λ e. all_of e.with outs) p.event_outputs)
    ∙ and_both (withs_in p.event_inputs ins) (withs_in p.event_outputs outs)

pub chart_met :
    (t : BasicType) → all_met (required_chart t) ≡ (list_all (transition_met t) t.transitions && list_all (actions_met t) t.states)
chart_met t =
    let transitions = list_all-flat_map is_met (required_transition t) t.transitions in
    let states = list_all-flat_map is_met (required_actions t) t.states
    ∙ list_all-agree (λ s. all_met (required_actions t s)) (actions_met t) (λ s. list_all-flat_map is_met (required_action t) s.actions) t.states in
    list_all-append is_met (flat_map (required_transition t) t.transitions) (flat_map (required_actions t) t.states) ∙ and_both transitions states

-- ---- Guards

abbrev guard_in : Transition → List Expr
guard_in x = elim x.condition.guard [ None ↦ [] | Some g ↦ expr_of g ∷ [] ]

pub mentions_met :
    (t : BasicType) → all_known t (mentioned t)
    ≡ (list_all (body_known t) t.algorithms && list_all (guard_known t) t.transitions)
mentions_met t =
    let bodies = list_all-flat_map (is_known t) (λ a. mentions_body (body_of a.body)) t.algorithms in
    let guards = list_all-flat_map (is_known t) mentions (guards_of t)
    ∙ list_all-flat_map (λ e. all_known t (mentions e)) guard_in t.transitions
    ∙ list_all-agree (λ x. list_all (λ e. all_known t (mentions e)) (guard_in x)) (λ x. all_known t (guard_mentions x)) in_guard t.transitions in
    list_all-append (is_known t) (flat_map (λ a. mentions_body (body_of a.body)) t.algorithms) (flat_map mentions (guards_of t))
    ∙ and_both bodies guards
  where
    in_guard : (x : Transition) → list_all (λ e. all_known t (mentions e)) (guard_in x) ≡ all_known t (guard_mentions x)
    in_guard x = elim x.condition.guard as (λ o. list_all (λ e. all_known t (mentions e)) (elim o as (λ _. List Expr) [ None ↦ [] | Some g ↦ expr_of g ∷ [] ]) ≡ all_known t (elim o as (λ _. List Mention) [ None ↦ [] | Some g ↦ mentions (expr_of g) ])) [
      | None ↦ refl
      | Some g ↦ and_true (all_known t (mentions (expr_of g)))
    ]

pub chart_right_met :
    (t : BasicType) → chart_right t
    ≡ (list_all (is_guard_right t) t.transitions && list_all (algorithm_right t) t.algorithms)
chart_right_met t =
    let guards = list_all-flat_map (is_condition (context_in t)) guard_in t.transitions
    ∙ list_all-agree (λ x. list_all (is_condition (context_in t)) (guard_in x)) (is_guard_right t) in_guard t.transitions in
    let bodies = list_all-map (body_right (context_in t)) (λ a. body_of a.body) t.algorithms in
    and_both guards bodies
  where
    in_guard : (x : Transition) → list_all (is_condition (context_in t)) (guard_in x) ≡ is_guard_right t x
    in_guard x = elim x.condition.guard as (λ o. list_all (is_condition (context_in t)) (elim o as (λ _. List Expr) [ None ↦ [] | Some g ↦ expr_of g ∷ [] ]) ≡ elim o as (λ _. Bool) [ None ↦ true | Some g ↦ is_condition (context_in t) (expr_of g) ]) [
      | None ↦ refl
      | Some g ↦ and_true (is_condition (context_in t) (expr_of g))
    ]

-- ---- Names of a declaration

abbrev withs_of : BlockType → Bool
withs_of b = all_met (required_withs (ports_of (kind_of b)))

abbrev charts_of : BlockType → Bool
charts_of b = list_all (λ t. all_met (required_chart t)) (basics_in b)

abbrev mentions_of : BlockType → Bool
mentions_of b = list_all (λ t. all_known t (mentioned t)) (basics_in b)

known_block : (b : BlockType) → (withs_of b && (charts_of b && mentions_of b)) ≡ is_known_block b
known_block (block.Basic t) =
    λ k. all_met (required_withs t.ports) && (and_true (all_met (required_chart t)) k && and_true (all_known t (mentioned t)) k)
known_block (block.Composite t) = refl

known_blocks : (bs : List BlockType) → ((list_all withs_of bs && list_all charts_of bs) && list_all mentions_of bs) ≡ list_all is_known_block bs
known_blocks [] = refl
known_blocks (b ∷ bs) =
    shuffle_three (withs_of b) (charts_of b) (mentions_of b) (list_all withs_of bs) (list_all charts_of bs) (list_all mentions_of bs)
    ∙ (λ k. known_block b k && known_blocks bs k)

names_by_blocks : (lib : Library) → all_met (required_parts lib) ≡ (list_all withs_of lib.blocks && list_all charts_of lib.blocks)
names_by_blocks lib =
    let withs = list_all-flat_map is_met required_withs (interfaces lib) ∙ list_all-map (λ p. all_met (required_withs p)) (λ t. ports_of (kind_of t)) lib.blocks in
    let charts = list_all-flat_map is_met required_chart (basics lib) ∙ list_all-flat_map (λ t. all_met (required_chart t)) basics_in lib.blocks in
    list_all-append is_met (flat_map required_withs (interfaces lib)) (flat_map required_chart (basics lib)) ∙ and_both withs charts

abbrev mentions_known : Library → Bool
mentions_known lib = list_all (λ t. all_known t (mentioned t)) (basics lib)

known_is : (lib : Library) → (all_met (required_parts lib) && mentions_known lib) ≡ list_all is_known_block lib.blocks
known_is lib =
    (λ k. names_by_blocks lib k && list_all-flat_map (λ t. all_known t (mentioned t)) basics_in lib.blocks k) ∙ known_blocks lib.blocks

pub known_answer : (lib : Library) (b : Bool) → b ≡ list_all is_known_block lib.blocks → IsTrue b ↔ ArePartsKnown lib
known_answer lib b says = (there, back)
  where
    there : b ≡ true → ArePartsKnown lib
    there h =
        let r = and_parts (all_met (required_parts lib)) (mentions_known lib) (known_is lib ∙ sym says ∙ h) in
        record {
          names = λ w c. contains_from_any w.0 w.1 (passes_at is_met (required_parts lib) w r.0 c);
          mentions = λ t m c d. passes_at (is_known t) (mentioned t) m (passes_at (λ t. all_known t (mentioned t)) (basics lib) t r.1 c) d;
        }

    back : ArePartsKnown lib → b ≡ true
    back known =
        let names = passes_from is_met (required_parts lib) (λ w c. any_from_contains w.0 w.1 (known.names w c)) in
        let mentioned_known = passes_from (λ t. all_known t (mentioned t)) (basics lib) (λ t c. passes_from (is_known t) (mentioned t) (λ m d. known.mentions t m c d)) in
        says ∙ sym (known_is lib) ∙ and_both names mentioned_known

-- ---- Kinds of a declaration

abbrev values_right : BlockType → Bool
values_right b = list_all declared_right (variables_in (kind_of b))

abbrev charts_right : BlockType → Bool
charts_right b = list_all chart_right (basics_in b)

right_block : (b : BlockType) → (values_right b && charts_right b) ≡ is_right_block b
right_block (block.Basic t) = λ k. values_right (block.Basic t) && and_true (chart_right t) k
right_block (block.Composite t) = refl

right_blocks : (bs : List BlockType) → (list_all values_right bs && list_all charts_right bs) ≡ list_all is_right_block bs
right_blocks [] = refl
right_blocks (b ∷ bs) =
    shuffle_two (values_right b) (charts_right b) (list_all values_right bs) (list_all charts_right bs)
    ∙ (λ k. right_block b k && right_blocks bs k)

right_is : (lib : Library) → (list_all values_right lib.blocks && list_all chart_right (basics lib)) ≡ list_all is_right_block lib.blocks
right_is lib = (λ k. list_all values_right lib.blocks && list_all-flat_map chart_right basics_in lib.blocks k) ∙ right_blocks lib.blocks

abbrev bodies_of : BasicType → List Stmts
bodies_of t = map (λ a. body_of a.body) t.algorithms

chart_wrong : (t : BasicType) → chart_right t ≡ false → ChartWrong t
chart_wrong t h =
    elim (one (list_all (is_condition (context_in t)) (guards_of t)) (list_all (body_right (context_in t)) (bodies_of t)) h) [
      | inl g ↦ inl (fails_at (is_condition (context_in t)) (guards_of t) g)
      | inr b ↦ inr (fails_at (body_right (context_in t)) (bodies_of t) b)
    ]

chart_not_wrong : (t : BasicType) → chart_right t ≡ true → ¬ (ChartWrong t)
chart_not_wrong t h wrong =
    let r = and_parts (list_all (is_condition (context_in t)) (guards_of t)) (list_all (body_right (context_in t)) (bodies_of t)) h in
    elim wrong [
      | inl g ↦ true≢false (sym (passes_at (is_condition (context_in t)) (guards_of t) g.0 r.0 g.1) ∙ g.2)
      | inr b ↦ true≢false (sym (passes_at (body_right (context_in t)) (bodies_of t) b.0 r.1 b.1) ∙ b.2)
    ]

part_wrong : (lib : Library) → list_all is_right_block lib.blocks ≡ false → PartWrong lib
part_wrong lib h =
    elim (one (list_all values_right lib.blocks) (list_all chart_right (basics lib)) (right_is lib ∙ h)) [
      | inl v ↦
          let at = fails_at values_right lib.blocks v in
          let var = fails_at declared_right (variables_in (kind_of at.0)) at.2 in
          inr (at.0, var.0, at.1, var.1, var.2)
      | inr c ↦ let at = fails_at chart_right (basics lib) c in inl (at.0, at.1, chart_wrong at.0 at.2)
    ]

part_not_wrong : (lib : Library) → list_all is_right_block lib.blocks ≡ true → ¬ (PartWrong lib)
part_not_wrong lib h wrong =
    let r = and_parts (list_all values_right lib.blocks) (list_all chart_right (basics lib)) (right_is lib ∙ h) in
    elim wrong [
      | inl c ↦ chart_not_wrong c.0 (passes_at chart_right (basics lib) c.0 r.1 c.1) c.2
      | inr v ↦ true≢false (sym (passes_at declared_right (variables_in (kind_of v.0)) v.1 (passes_at values_right lib.blocks v.0 r.0 v.2) v.3) ∙ v.4)
    ]

pub wrong_answer : (lib : Library) (b : Bool) → b ≡ list_all is_right_block lib.blocks → IsTrue (not b) ↔ PartWrong lib
wrong_answer lib b says = (there b says, back b says)
  where
    there : (b : Bool) → b ≡ list_all is_right_block lib.blocks → not b ≡ true → PartWrong lib
    there true says h = absurd (true≢false (sym h))
    there false says h = part_wrong lib (sym says)

    back : (b : Bool) → b ≡ list_all is_right_block lib.blocks → PartWrong lib → not b ≡ true
    back true says wrong = absurd (part_not_wrong lib (sym says) wrong)
    back false says wrong = refl
