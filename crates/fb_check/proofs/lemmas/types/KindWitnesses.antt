-- The list of all locations at which a kind is wrong: each is such a one, and if there is none, all is right.
use Rattle.fb_check.proofs.lemmas.Common.{◌≡◌, ◌&&◌, ℕ, suc, ◌+◌, Bool, true, false, not, List, [], ◌++◌, Option, Some, None, refl, sym, ◌∙◌, subst, arith, All, slice_get, list_all, All-append, list_all-append, Kind, ports_of, kind_of, kind_of_instance, KindWrong, declared_right, is_condition, Name, OwnedNetwork, Assign, Case, For, If, Repeat, While, body_of, Algorithm, BasicType, BlockType, Instance, Library, Parameter, Variable, value_kind_of, value_kind_of_type, is_guard_right, KindWrongAt, Site, Application, Inside, each_at, unless, kind_wrong_parameters, kind_wrong_guard, kind_wrong_initial, kinds_wrong_in_block, kinds_wrong_in_body, kinds_wrong_in_statement, part_at, IsKindWrongAt, basic_at, network_at, each_in_body}
use Rattle.fb_types.proofs.Common.{All-nil, variables_in, Choices, Empty, Exit, Return, Stmt, no_choice, then_choices}
use Rattle.fb_types.specs.Kinds.{Context, is_value_kind, is_whole, parameter_right, parameters_right, same_value_kind}
use Rattle.fb_types.specs.declared.library.BlockType.TheVariants as block
use Rattle.fb_types.specs.declared.value_kind.ValueKind.TheVariants.{WholeNumber}
use Rattle.fb_check.specs.types.Checks.{algorithm_right, chart_right, in_place, is_right_chart}
use Rattle.fb_check.proofs.lemmas.types.Checks.{chart_right_met}
use Rattle.fb_check_names.specs.declared.location.KindWrongAt.TheVariants as kind_wrong
use Rattle.fb_check_names.specs.declared.location.StatementPart.{StatementPart}
use Rattle.fb_check_names.specs.declared.location.StatementPart.TheVariants as part
use Rattle.fb_check_names.specs.declared.location.Variables.{Variables}
use Rattle.fb_check_names.specs.declared.location.Variables.TheVariants.{Inputs, Internals, Outputs}
use Rattle.fb_check.specs.networks.Parameters.{kinds_wrong_in_network}
use Rattle.fb_check.specs.types.KindWrongLists.{kinds_wrong_all, kinds_wrong_initial, kinds_wrong_inside, wrong_choices, wrong_control, wrong_parts}
use Rattle.fb_check.specs.types.KindsWrong.{are_set_right_inside, is_all_right}
use Rattle.fb_check_names.specs.Sites.{variables_at}
use Rattle.fb_check.specs.types.Statements.{choice_right, conditions_right, own_right, part_right, stands_right}
use Rattle.fb_check.proofs.lemmas.types.Bodies.{body_each}
use Rattle.fb_check_names.proofs.lemmas.Listing.{all_each, all_unless, none_each, none_left, none_right, none_unless}
use Rattle.fb_check.proofs.lemmas.types.RightKinds.{none_wrong}
use Rattle.fb_check.proofs.lemmas.types.UnknownWitnesses.{basic_there, network_there}

-- ---- Statements

each_choice :
    (P : KindWrongAt → Type 0) (at : StatementPart → KindWrongAt) (p : Context) (k : ℕ) (cs : Choices) → ((j : ℕ) → choice_right p cs j ≡ false → P (at (part.Choice (k + j))))
    → All P (wrong_choices at p k cs)
each_choice P at p k no_choice h = All-nil P
each_choice P at p k (then_choices c body rest) h =
    All-append P (unless (is_condition p c) (at (part.Choice k))) (wrong_choices at p (k + 1) rest)
    (all_unless P (is_condition p c) (at (part.Choice k)) (λ e. subst (λ (n : ℕ). P (at (part.Choice n))) (omega arith) (h 0 e)))
    (each_choice P at p (k + 1) rest (λ j e. subst (λ (n : ℕ). P (at (part.Choice n))) (omega arith) (h (suc j) e)))

each_control :
    (P : KindWrongAt → Type 0) (at : StatementPart → KindWrongAt) (p : Context) (n : Name) → (not (p.fixed n) ≡ false → P (at part.Assigned))
    → (same_value_kind WholeNumber (value_kind_of_type (p.types n)) ≡ false → P (at part.Control)) → All P (wrong_control at p n)
each_control P at p n assigned control =
    All-append P (unless (not (p.fixed n)) (at part.Assigned)) (unless (same_value_kind WholeNumber (value_kind_of_type (p.types n))) (at part.Control))
    (all_unless P (not (p.fixed n)) (at part.Assigned) assigned)
    (all_unless P (same_value_kind WholeNumber (value_kind_of_type (p.types n))) (at part.Control) control)

each_part :
    (P : KindWrongAt → Type 0) (at : StatementPart → KindWrongAt) (p : Context) (s : Stmt) → ((o : StatementPart) → part_right p s o ≡ false → P (at o)) → All P (wrong_parts at p s)
each_part P at p Empty h = All-nil P
each_part P at p Exit h = all_unless P p.in_loop (at part.Exit) (h part.Exit)
each_part P at p Return h = All-nil P
each_part P at p (Assign n e) h =
    let of_kind = is_value_kind (value_kind_of_type (p.types n)) (value_kind_of p.types e) in
    All-append P (unless (not (p.fixed n)) (at part.Assigned)) (unless of_kind (at part.Value)) (all_unless P (not (p.fixed n)) (at part.Assigned) (h part.Assigned))
    (all_unless P of_kind (at part.Value) (h part.Value))
each_part P at p (If cs others) h = each_choice P at p 0 cs (λ j e. subst (λ (n : ℕ). P (at (part.Choice n))) (omega arith) (h (part.Choice j) e))
each_part P at p (Case e bs others) h = all_unless P (is_whole p e) (at part.Selector) (h part.Selector)
each_part P at p (For n a b c body) h =
    let control = wrong_control at p n in
    let start = unless (is_whole p a) (at part.Start) in
    let end = unless (is_whole p b) (at part.End) in
    let step = unless (is_whole p c) (at part.Step) in
    All-append P control (start ++ (end ++ step)) (each_control P at p n (h part.Assigned) (h part.Control))
    (All-append P start (end ++ step) (all_unless P (is_whole p a) (at part.Start) (h part.Start))
    (All-append P end step (all_unless P (is_whole p b) (at part.End) (h part.End)) (all_unless P (is_whole p c) (at part.Step) (h part.Step))))
each_part P at p (While c body) h = all_unless P (is_condition p c) (at part.Condition) (h part.Condition)
each_part P at p (Repeat body c) h = all_unless P (is_condition p c) (at part.Until) (h part.Until)

none_choices : (at : StatementPart → KindWrongAt) (p : Context) (k : ℕ) (cs : Choices) → wrong_choices at p k cs ≡ [] → conditions_right p cs ≡ true
none_choices at p k no_choice h = refl
none_choices at p k (then_choices c body rest) h =
    let here = unless (is_condition p c) (at (part.Choice k)) in
    let after = wrong_choices at p (k + 1) rest in
    λ i. none_unless (is_condition p c) (at (part.Choice k)) (none_left here after h) i && none_choices at p (k + 1) rest (none_right here after h) i

none_part : (at : StatementPart → KindWrongAt) (p : Context) (s : Stmt) → wrong_parts at p s ≡ [] → own_right p s ≡ true
none_part at p Empty h = refl
none_part at p Exit h = none_unless p.in_loop (at part.Exit) h
none_part at p Return h = refl
none_part at p (Assign n e) h =
    let of_kind = is_value_kind (value_kind_of_type (p.types n)) (value_kind_of p.types e) in
    let assigned = unless (not (p.fixed n)) (at part.Assigned) in
    let value = unless of_kind (at part.Value) in
    λ i. none_unless (not (p.fixed n)) (at part.Assigned) (none_left assigned value h) i && none_unless of_kind (at part.Value) (none_right assigned value h) i
none_part at p (If cs others) h = none_choices at p 0 cs h
none_part at p (Case e bs others) h = none_unless (is_whole p e) (at part.Selector) h
none_part at p (For n a b c body) h =
    let number = same_value_kind WholeNumber (value_kind_of_type (p.types n)) in
    let assigned = unless (not (p.fixed n)) (at part.Assigned) in
    let control = unless number (at part.Control) in
    let start = unless (is_whole p a) (at part.Start) in
    let end = unless (is_whole p b) (at part.End) in
    let step = unless (is_whole p c) (at part.Step) in
    let first : assigned ++ control ≡ [] = none_left (assigned ++ control) (start ++ (end ++ step)) h in
    let second : start ++ (end ++ step) ≡ [] = none_right (assigned ++ control) (start ++ (end ++ step)) h in
    let third : end ++ step ≡ [] = none_right start (end ++ step) second in
    λ i. (((none_unless (not (p.fixed n)) (at part.Assigned) (none_left assigned control first) i
    && none_unless number (at part.Control) (none_right assigned control first) i)
    && none_unless (is_whole p a) (at part.Start) (none_left start (end ++ step) second) i)
    && none_unless (is_whole p b) (at part.End) (none_left end step third) i)
    && none_unless (is_whole p c) (at part.Step) (none_right end step third) i
none_part at p (While c body) h = none_unless (is_condition p c) (at part.Condition) h
none_part at p (Repeat body c) h = none_unless (is_condition p c) (at part.Until) h

-- ---- Each is a witness

each_in_list : (lib : Library) (b : ℕ) (t : BlockType) (l : Variables) → slice_get lib.blocks b ≡ Some t → All (IsKindWrongAt lib) (each_at (kind_wrong_initial b l) (variables_at l t))
each_in_list lib b t l at =
    all_each (IsKindWrongAt lib) (kind_wrong_initial b l) (variables_at l t)
    (λ k v found. all_unless (IsKindWrongAt lib) (declared_right v) (kind_wrong.Initial b l k) (λ e. record { in_type = t; at_index = v; at = at; found = found; wrong = e }))

each_initial : (lib : Library) (b : ℕ) (t : BlockType) → slice_get lib.blocks b ≡ Some t → All (IsKindWrongAt lib) (kinds_wrong_initial b t)
each_initial lib b t at =
    let list = λ (l : Variables). each_at (kind_wrong_initial b l) (variables_at l t) in
    All-append (IsKindWrongAt lib) (list Inputs) (list Outputs ++ list Internals) (each_in_list lib b t Inputs at)
    (All-append (IsKindWrongAt lib) (list Outputs) (list Internals) (each_in_list lib b t Outputs at) (each_in_list lib b t Internals at))

each_parameter :
    (lib : Library) (s : Site) (n : OwnedNetwork) (i : ℕ) (x : Instance) → network_at lib s ≡ Some n → slice_get n.1.instances i ≡ Some x
    → All (IsKindWrongAt lib) (kind_wrong_parameters lib s i x)
each_parameter lib s n i x at instance =
    let P : KindWrongAt → Type 0 = IsKindWrongAt lib in
    elim (kind_of_instance lib x) as
    (λ (o : Option Kind). kind_of_instance lib x ≡ o
    → All P (elim o [ None ↦ [] | Some k ↦ each_at (λ p v. unless (parameter_right (ports_of k) v) (kind_wrong.Parameter s i p)) x.parameters ])) [
      | None ↦ λ e. All-nil P
      | Some k ↦ λ e.
          all_each P (λ p v. unless (parameter_right (ports_of k) v) (kind_wrong.Parameter s i p)) x.parameters
          (λ p v found. all_unless P (parameter_right (ports_of k) v) (kind_wrong.Parameter s i p)
          (λ fails. record { network = n; of_instance = x; at_index = v; kind = k; at = at; instance_is = instance; found = found; kind_is = e; wrong = fails }))
    ] refl

each_in_network : (lib : Library) (s : Site) (n : OwnedNetwork) → network_at lib s ≡ Some n → All (IsKindWrongAt lib) (kinds_wrong_in_network lib s n.1.instances)
each_in_network lib s n at = all_each (IsKindWrongAt lib) (kind_wrong_parameters lib s) n.1.instances (λ i x found. each_parameter lib s n i x at found)

each_in_chart :
    (lib : Library) (b : ℕ) (t : BasicType) → basic_at lib b ≡ Some t → All (IsKindWrongAt lib) (each_at (kind_wrong_guard t b) t.transitions ++ each_at (kinds_wrong_in_body t b) t.algorithms)
each_in_chart lib b t at =
    let P : KindWrongAt → Type 0 = IsKindWrongAt lib in
    All-append P (each_at (kind_wrong_guard t b) t.transitions) (each_at (kinds_wrong_in_body t b) t.algorithms)
    (all_each P (kind_wrong_guard t b) t.transitions
    (λ k x found. all_unless P (is_guard_right t x) (kind_wrong.Guard b k) (λ e. record { in_type = t; at_index = x; at = at; found = found; wrong = e })))
    (all_each P (kinds_wrong_in_body t b) t.algorithms
    (λ a x found. all_each P (kinds_wrong_in_statement t b a) (each_in_body false (body_of x.body))
    (λ k s there. each_part P (part_at (record { block = b; algorithm = a; statement = k })) (in_place t s.0) s.1
    (λ o e. record { in_type = t; algorithm = x; at_index = s; at = at; algorithm_is = found; found = there; wrong = e }))))

each_kind_wrong_inside : (lib : Library) (b : ℕ) (t : BlockType) → slice_get lib.blocks b ≡ Some t → All (IsKindWrongAt lib) (kinds_wrong_inside lib b t)
each_kind_wrong_inside lib b (block.Basic t) at = each_in_chart lib b t (basic_there lib b t at)
each_kind_wrong_inside lib b (block.Composite t) at = each_in_network lib (Inside b) (Some t, t.network) (network_there lib b (block.Composite t) (Some t, t.network) at refl)

pub each_kind_wrong : (lib : Library) → All (IsKindWrongAt lib) (kinds_wrong_all lib)
each_kind_wrong lib =
    let P : KindWrongAt → Type 0 = IsKindWrongAt lib in
    All-append P (each_at (kinds_wrong_in_block lib) lib.blocks) (kinds_wrong_in_network lib Application lib.application.network.instances)
    (all_each P (kinds_wrong_in_block lib) lib.blocks
    (λ b t at. All-append P (kinds_wrong_initial b t) (kinds_wrong_inside lib b t) (each_initial lib b t at) (each_kind_wrong_inside lib b t at)))
    (each_in_network lib Application (None, lib.application.network) refl)

-- ---- If there is none, each kind is right

none_in_list : (b : ℕ) (l : Variables) (vs : List Variable) → each_at (kind_wrong_initial b l) vs ≡ [] → list_all declared_right vs ≡ true
none_in_list b l vs h = none_each (kind_wrong_initial b l) declared_right vs (λ k v e. none_unless (declared_right v) (kind_wrong.Initial b l k) e) h

none_initial : (b : ℕ) (t : BlockType) → kinds_wrong_initial b t ≡ [] → list_all declared_right (variables_in (kind_of t)) ≡ true
none_initial b t h =
    let list = λ (l : Variables). each_at (kind_wrong_initial b l) (variables_at l t) in
    let rest : list Outputs ++ list Internals ≡ [] = none_right (list Inputs) (list Outputs ++ list Internals) h in
    let ins : list_all declared_right (variables_at Inputs t) ≡ true = none_in_list b Inputs (variables_at Inputs t) (none_left (list Inputs) (list Outputs ++ list Internals) h) in
    let outs : list_all declared_right (variables_at Outputs t) ≡ true = none_in_list b Outputs (variables_at Outputs t) (none_left (list Outputs) (list Internals) rest) in
    let internals : list_all declared_right (variables_at Internals t) ≡ true = none_in_list b Internals (variables_at Internals t) (none_right (list Outputs) (list Internals) rest) in
    three_right t ins outs internals
  where
    three : (us vs ws : List Variable) → list_all declared_right us ≡ true → list_all declared_right vs ≡ true → list_all declared_right ws ≡ true → list_all declared_right (us ++ vs ++ ws) ≡ true
    three us vs ws a b c = list_all-append declared_right (us ++ vs) ws ∙ (λ i. (list_all-append declared_right us vs ∙ (λ j. a j && b j)) i && c i)

    three_right :
        (t : BlockType) → list_all declared_right (variables_at Inputs t) ≡ true → list_all declared_right (variables_at Outputs t) ≡ true
        → list_all declared_right (variables_at Internals t) ≡ true → list_all declared_right (variables_in (kind_of t)) ≡ true
    three_right (block.Basic t) a b c = three t.ports.inputs t.ports.outputs t.internals a b c
    three_right (block.Composite t) a b c = list_all-append declared_right t.ports.inputs t.ports.outputs ∙ (λ i. a i && b i)

none_parameter : (lib : Library) (s : Site) (i : ℕ) (x : Instance) → kind_wrong_parameters lib s i x ≡ [] → parameters_right lib x ≡ true
none_parameter lib s i x h =
    elim (kind_of_instance lib x) as
    (λ (o : Option Kind). elim o as (λ _. List KindWrongAt) [ None ↦ [] | Some k ↦ each_at (λ p v. unless (parameter_right (ports_of k) v) (kind_wrong.Parameter s i p)) x.parameters ] ≡ []
    → elim o as (λ _. Bool) [ None ↦ true | Some k ↦ list_all (parameter_right (ports_of k)) x.parameters ] ≡ true) [
      | None ↦ λ e. refl
      | Some k ↦ λ e.
          none_each (λ p v. unless (parameter_right (ports_of k) v) (kind_wrong.Parameter s i p)) (parameter_right (ports_of k)) x.parameters
          (λ p v f. none_unless (parameter_right (ports_of k) v) (kind_wrong.Parameter s i p) f) e
    ] h

none_in_network : (lib : Library) (s : Site) (is : List Instance) → kinds_wrong_in_network lib s is ≡ [] → list_all (parameters_right lib) is ≡ true
none_in_network lib s is h = none_each (kind_wrong_parameters lib s) (parameters_right lib) is (none_parameter lib s) h

none_in_body : (t : BasicType) (b a : ℕ) (x : Algorithm) → kinds_wrong_in_body t b a x ≡ [] → algorithm_right t x ≡ true
none_in_body t b a x h =
    sym (body_each t false (body_of x.body))
    ∙ none_each (kinds_wrong_in_statement t b a) (stands_right t) (each_in_body false (body_of x.body))
    (λ k s e. none_part (part_at (record { block = b; algorithm = a; statement = k })) (in_place t s.0) s.1 e) h

none_in_chart : (t : BasicType) (b : ℕ) → each_at (kind_wrong_guard t b) t.transitions ++ each_at (kinds_wrong_in_body t b) t.algorithms ≡ [] → chart_right t ≡ true
none_in_chart t b h =
    let guards = each_at (kind_wrong_guard t b) t.transitions in
    let bodies = each_at (kinds_wrong_in_body t b) t.algorithms in
    let a : list_all (is_guard_right t) t.transitions ≡ true =
    none_each (kind_wrong_guard t b) (is_guard_right t) t.transitions (λ k x e. none_unless (is_guard_right t x) (kind_wrong.Guard b k) e) (none_left guards bodies h) in
    let c : list_all (algorithm_right t) t.algorithms ≡ true = none_each (kinds_wrong_in_body t b) (algorithm_right t) t.algorithms (none_in_body t b) (none_right guards bodies h) in
    chart_right_met t ∙ (λ i. a i && c i)

none_chart : (lib : Library) (b : ℕ) (t : BlockType) → kinds_wrong_inside lib b t ≡ [] → is_right_chart t ≡ true
none_chart lib b (block.Basic t) h = none_in_chart t b h
none_chart lib b (block.Composite t) h = refl

none_set : (lib : Library) (b : ℕ) (t : BlockType) → kinds_wrong_inside lib b t ≡ [] → are_set_right_inside lib t ≡ true
none_set lib b (block.Basic t) h = refl
none_set lib b (block.Composite t) h = none_in_network lib (Inside b) t.network.instances h

none_in_block : (lib : Library) (b : ℕ) (t : BlockType) → kinds_wrong_in_block lib b t ≡ [] → is_all_right lib t ≡ true
none_in_block lib b t h =
    let initial : list_all declared_right (variables_in (kind_of t)) ≡ true = none_initial b t (none_left (kinds_wrong_initial b t) (kinds_wrong_inside lib b t) h) in
    let inside : kinds_wrong_inside lib b t ≡ [] = none_right (kinds_wrong_initial b t) (kinds_wrong_inside lib b t) h in
    λ i. (initial i && none_chart lib b t inside i) && none_set lib b t inside i

pub none_kind_wrong : (lib : Library) → kinds_wrong_all lib ≡ [] → ¬ (KindWrong lib)
none_kind_wrong lib h =
    let blocks = each_at (kinds_wrong_in_block lib) lib.blocks in
    let application = kinds_wrong_in_network lib Application lib.application.network.instances in
    none_wrong lib (none_each (kinds_wrong_in_block lib) (is_all_right lib) lib.blocks (none_in_block lib) (none_left blocks application h))
    (none_in_network lib Application lib.application.network.instances (none_right blocks application h))
