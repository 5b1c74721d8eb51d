-- What is reported of a location makes its number apply.
use Rattle.fb_check.proofs.lemmas.Common.{◌≡◌, ℕ, Bool, true, false, ◌++◌, Option, Some, None, Contains, refl, sym, ◌∙◌, ap, inl, inr, list_all, Contains-append_left, Contains-append_right, Kind, ports_of, kind_of, KindWrong, declared_right, body_of, BasicType, BlockType, Library, Variable, is_guard_right, KindWrongAt, Site, IsKindWrongAt, basic_at, each_in_body}
use Rattle.fb_types.proofs.Common.{and_right, variables_in}
use Rattle.std.proofs.lemmas.Bool.{and_left}
use Rattle.fb_types.specs.Kinds.{parameter_right}
use Rattle.fb_types.specs.declared.library.BlockType.TheVariants as block
use Rattle.fb_types.proofs.lemmas.lists.ListTests.{fails_from}
use Rattle.fb_types.proofs.lemmas.lists.ByIndex.{element_of_index}
use Rattle.fb_types.proofs.lemmas.lists.Elements.{Contains-nil}
use Rattle.fb_check.specs.types.Checks.{algorithm_right, chart_right, in_place, is_right_block}
use Rattle.fb_check.proofs.lemmas.types.UnknownApplies.{basic_among}
use Rattle.fb_check.proofs.lemmas.types.Checks.{chart_right_met, wrong_answer}
use Rattle.fb_check_names.specs.declared.location.KindWrongAt.TheVariants as kind_wrong
use Rattle.fb_check_names.specs.declared.location.StatementPart.{StatementPart}
use Rattle.fb_check_names.specs.declared.location.Variables.{Variables}
use Rattle.fb_check_names.specs.declared.location.Variables.TheVariants.{Inputs, Outputs, Internals}
use Rattle.fb_check.specs.types.KindsWrong.{IsGuardKindWrong, IsInitialKindWrong, IsParameterKindWrong, IsStatementKindWrong}
use Rattle.fb_check_names.specs.Sites.{variables_at}
use Rattle.fb_check_names.proofs.lemmas.unknown.InNetworks.{site_network}
use Rattle.fb_check.specs.types.Statements.{stands_right}
use Rattle.fb_check.proofs.lemmas.types.Bodies.{body_each}
use Rattle.fb_check.proofs.lemmas.types.StatementParts.{part_fails}

-- ---- Block types

block_wrong : (lib : Library) (t : BlockType) → Contains lib.blocks t → is_right_block t ≡ false → KindWrong lib
block_wrong lib t c h =
    elim ((wrong_answer lib false (sym (fails_from is_right_block lib.blocks t c h))).0 refl) [
      | inl chart ↦ inl chart
      | inr value ↦ inr (inl value)
    ]

chart_wrong : (lib : Library) (k : ℕ) (b : BasicType) → basic_at lib k ≡ Some b → chart_right b ≡ false → KindWrong lib
chart_wrong lib k b at h =
    block_wrong lib (block.Basic b) (basic_among lib k b at)
    (and_right (list_all declared_right (variables_in (kind_of (block.Basic b)))) (chart_right b) h)

variable_among : (l : Variables) (t : BlockType) (v : Variable) → Contains (variables_at l t) v → Contains (variables_in (kind_of t)) v
variable_among Inputs (block.Basic t) v c =
    Contains-append_left (t.ports.inputs ++ t.ports.outputs) t.internals v (Contains-append_left t.ports.inputs t.ports.outputs v c)
variable_among Outputs (block.Basic t) v c =
    Contains-append_left (t.ports.inputs ++ t.ports.outputs) t.internals v (Contains-append_right t.ports.inputs t.ports.outputs v c)
variable_among Internals (block.Basic t) v c = Contains-append_right (t.ports.inputs ++ t.ports.outputs) t.internals v c
variable_among Inputs (block.Composite t) v c = Contains-append_left t.ports.inputs t.ports.outputs v c
variable_among Outputs (block.Composite t) v c = Contains-append_right t.ports.inputs t.ports.outputs v c
variable_among Internals (block.Composite t) v c = absurd (Contains-nil v c)

initial_applies : (lib : Library) (b : ℕ) (l : Variables) (k : ℕ) → IsInitialKindWrong lib b l k → KindWrong lib
initial_applies lib b l k m =
    inr (inl (
      m.in_type,
      m.at_index,
      element_of_index lib.blocks b m.in_type m.at,
      variable_among l m.in_type m.at_index (element_of_index (variables_at l m.in_type) k m.at_index m.found),
      m.wrong,
    ))

guard_applies : (lib : Library) (b k : ℕ) → IsGuardKindWrong lib b k → KindWrong lib
guard_applies lib b k m =
    let t = m.in_type in
    let guards = fails_from (is_guard_right t) t.transitions m.at_index (element_of_index t.transitions k m.at_index m.found) m.wrong in
    chart_wrong lib b t m.at
    (chart_right_met t ∙ and_left (list_all (is_guard_right t) t.transitions) (list_all (algorithm_right t) t.algorithms) guards)

statement_applies : (lib : Library) (b a k : ℕ) (o : StatementPart) → IsStatementKindWrong lib b a k o → KindWrong lib
statement_applies lib b a k o m =
    let t = m.in_type in
    let ss = each_in_body false (body_of m.algorithm.body) in
    let body : algorithm_right t m.algorithm ≡ false =
    sym (body_each t false (body_of m.algorithm.body))
    ∙ fails_from (stands_right t) ss m.at_index (element_of_index ss k m.at_index m.found) (part_fails (in_place t m.at_index.0) m.at_index.1 o m.wrong) in
    let bodies = fails_from (algorithm_right t) t.algorithms m.algorithm (element_of_index t.algorithms a m.algorithm m.algorithm_is) body in
    chart_wrong lib b t m.at
    (chart_right_met t ∙ and_right (list_all (is_guard_right t) t.transitions) (list_all (algorithm_right t) t.algorithms) bodies)

-- ---- Parameters

parameter_applies : (lib : Library) (s : Site) (i p : ℕ) → IsParameterKindWrong lib s i p → KindWrong lib
parameter_applies lib s i p m =
    let x = m.of_instance in
    let wrong = fails_from (parameter_right (ports_of m.kind)) x.parameters m.at_index (element_of_index x.parameters p m.at_index m.found) m.wrong in
    inr (inr (
      m.network,
      x,
      site_network lib s m.network m.at,
      element_of_index m.network.1.instances i x m.instance_is,
      ap (λ (o : Option Kind). elim o as (λ _. Bool) [ None ↦ true | Some k ↦ list_all (parameter_right (ports_of k)) x.parameters ]) m.kind_is ∙ wrong,
    ))

-- ---- All

pub kind_wrong_applies : (lib : Library) (p : KindWrongAt) → IsKindWrongAt lib p → KindWrong lib
kind_wrong_applies lib (kind_wrong.Initial b l k) m = initial_applies lib b l k m
kind_wrong_applies lib (kind_wrong.Parameter s i k) m = parameter_applies lib s i k m
kind_wrong_applies lib (kind_wrong.Guard b k) m = guard_applies lib b k m
kind_wrong_applies lib (kind_wrong.Statement b a k o) m = statement_applies lib b a k o m
