-- What a name of an interface represents: each name is in one of its lists.
use Rattle.fb_types.proofs.Common.{◌≡◌, ℕ, zero, suc, ◌≤◌, ◌-◌, length, Bool, true, false, cond, ◌||◌, List, [], ◌∷◌, ◌++◌, append_assoc, map, Option, Some, None, refl, sym, ◌∙◌, ap, subst, arith, position, slice_get, option_map, option_and_then, is_some, true≢false, false_from_ne_true, slice_get-map, map-append, list_any-append, Name, same_name, named, among, event_names, variable_names, Twice}
use Rattle.fb_types.specs.declared.library.EventPort.{EventPort}
use Rattle.fb_types.specs.declared.library.Variable.{Variable}
use Rattle.fb_types.specs.declared.value.Ty.{Ty}
use Rattle.fb_types.specs.Blocks.{type_named}
use Rattle.fb_types.proofs.lemmas.lists.Positions.{named-position}
use Rattle.fb_types.proofs.lemmas.names.NameLaws.{contains_from_any, same_name-flip}
use Rattle.fb_check_names.specs.PortKinds.{names_of_kind}
use Rattle.fb_check_names.specs.declared.ports.PortKind.{PortKind}
use Rattle.fb_check_names.specs.declared.ports.PortKind.TheVariants as value_kind
use Rattle.fb_check.specs.declared.types.interface.Role.{Role}
use Rattle.fb_types.proofs.lemmas.lists.ByIndex.{element_at}
use Rattle.fb_types.proofs.lemmas.lists.Options.{none_from_is_some}
use Rattle.fb_types.proofs.lemmas.lists.TwiceLaws.{Twice-both, Twice-append_right}
use Rattle.fb_check.specs.declared.types.interface.Role.TheVariants.{EventInput, EventOutput, Input, Output, Internal}
use Rattle.fb_check.specs.types.Roles.{Declared, names_of, events_as, variables_as, with_roles, role_of, variables_of, is_event_input, is_event_output, is_input, is_output, is_port, type_in}

-- ---- The first of several lists

abbrev pub or_else : {A : Type 0} → Option A → Option A → Option A
or_else None o = o
or_else (Some x) o = Some x

or_else-map : {A B : Type 0} (f : A → B) (a b : Option A) → option_map f (or_else a b) ≡ or_else (option_map f a) (option_map f b)
or_else-map f None b = refl
or_else-map f (Some x) b = refl

named-append : {A : Type 0} (f : A → Name) (n : Name) (xs ys : List A) → named f n (xs ++ ys) ≡ or_else (named f n xs) (named f n ys)
named-append f n [] ys = refl
named-append f n (x ∷ xs) ys =
    elim (same_name (f x) n) as (λ b. cond b (Some x) (named f n (xs ++ ys)) ≡ or_else (cond b (Some x) (named f n xs)) (named f n ys)) [
      | true ↦ refl
      | false ↦ named-append f n xs ys
    ]

is_some-named : {A : Type 0} (f : A → Name) (n : Name) (xs : List A) → is_some (named f n xs) ≡ among (map f xs) n
is_some-named f n [] = refl
is_some-named f n (x ∷ xs) =
    ap (λ b. is_some (cond b (Some x) (named f n xs))) (same_name-flip (f x) n)
    ∙ (elim (same_name n (f x)) as (λ b. is_some (cond b (Some x) (named f n xs)) ≡ (b || among (map f xs) n)) [
      | true ↦ refl
      | false ↦ is_some-named f n xs
    ])

-- ---- Lists in which no name occurs twice

apart : (n : Name) (xs ys : List Name) → ¬ (Twice (xs ++ ys)) → among xs n ≡ true → among ys n ≡ false
apart n xs ys once h =
    false_from_ne_true (among ys n) (λ t. once (Twice-both xs ys n (contains_from_any n xs h) (contains_from_any n ys t)))

-- ---- The five lists of an interface

abbrev event_at : List EventPort → Name → Option EventPort
event_at es n = named (λ e. e.name) n es

abbrev variable_at : List Variable → Name → Option Variable
variable_at vs n = named (λ v. v.name) n vs

abbrev event_role : Role → Option EventPort → Option Role
event_role r o = option_map (λ _. r) o

abbrev variable_role : (Ty → Role) → Option Variable → Option Role
variable_role r o = option_map (λ v. r v.ty) o

-- the role, by what each of the lists has
abbrev first_role : (e f : Option EventPort) → (i o l : Option Variable) → Option Role
first_role e f i o l =
    or_else (event_role EventInput e) (or_else (event_role EventOutput f) (or_else (variable_role (λ t. Input t) i)
    (or_else (variable_role (λ t. Output t) o) (variable_role (λ t. Internal t) l))))

event_segment : (r : Role) (es : List EventPort) (n : Name) → option_map (λ d. d.1) (named (λ d. d.0) n (events_as r es)) ≡ event_role r (event_at es n)
event_segment r [] n = refl
event_segment r (e ∷ es) n =
    elim (same_name e.name n) as
    (λ b. option_map (λ d. d.1) (cond b (Some (e.name, r)) (named (λ d. d.0) n (events_as r es))) ≡ event_role r (cond b (Some e) (event_at es n))) [
      | true ↦ refl
      | false ↦ event_segment r es n
    ]

variable_segment : (r : Ty → Role) (vs : List Variable) (n : Name) → option_map (λ d. d.1) (named (λ d. d.0) n (variables_as r vs)) ≡ variable_role r (variable_at vs n)
variable_segment r [] n = refl
variable_segment r (v ∷ vs) n =
    elim (same_name v.name n) as
    (λ b. option_map (λ d. d.1) (cond b (Some (v.name, r v.ty)) (named (λ d. d.0) n (variables_as r vs))) ≡ variable_role r (cond b (Some v) (variable_at vs n))) [
      | true ↦ refl
      | false ↦ variable_segment r vs n
    ]

abbrev role_in : List (Name × Role) → Name → Option Role
role_in ds n = option_map (λ d. d.1) (named (λ d. d.0) n ds)

role_in-append : (xs ys : List (Name × Role)) (n : Name) → role_in (xs ++ ys) n ≡ or_else (role_in xs n) (role_in ys n)
role_in-append xs ys n =
    ap (option_map (λ d. d.1)) (named-append (λ d. d.0) n xs ys) ∙ or_else-map (λ d. d.1) (named (λ d. d.0) n xs) (named (λ d. d.0) n ys)

abbrev past_outputs : Declared → List (Name × Role)
past_outputs d = variables_as (λ t. Internal t) d.internals

abbrev past_inputs : Declared → List (Name × Role)
past_inputs d = variables_as (λ t. Output t) d.ports.outputs ++ past_outputs d

abbrev past_events : Declared → List (Name × Role)
past_events d = variables_as (λ t. Input t) d.ports.inputs ++ past_inputs d

abbrev past_event_inputs : Declared → List (Name × Role)
past_event_inputs d = events_as EventOutput d.ports.event_outputs ++ past_events d

role_by_lists : (d : Declared) (n : Name) → role_of d n
    ≡ first_role (event_at d.ports.event_inputs n) (event_at d.ports.event_outputs n) (variable_at d.ports.inputs n) (variable_at d.ports.outputs n) (variable_at d.internals n)
role_by_lists d n =
    let E : Option Role → Option Role = λ r. or_else (event_role EventInput (event_at d.ports.event_inputs n)) r in
    let F : Option Role → Option Role = λ r. or_else (event_role EventOutput (event_at d.ports.event_outputs n)) r in
    let I : Option Role → Option Role = λ r. or_else (variable_role (λ t. Input t) (variable_at d.ports.inputs n)) r in
    let O : Option Role → Option Role = λ r. or_else (variable_role (λ t. Output t) (variable_at d.ports.outputs n)) r in
    let e = role_in-append (events_as EventInput d.ports.event_inputs) (past_event_inputs d) n
    ∙ ap (λ r. or_else r (role_in (past_event_inputs d) n)) (event_segment EventInput d.ports.event_inputs n) in
    let f = role_in-append (events_as EventOutput d.ports.event_outputs) (past_events d) n
    ∙ ap (λ r. or_else r (role_in (past_events d) n)) (event_segment EventOutput d.ports.event_outputs n) in
    let i = role_in-append (variables_as (λ t. Input t) d.ports.inputs) (past_inputs d) n
    ∙ ap (λ r. or_else r (role_in (past_inputs d) n)) (variable_segment (λ t. Input t) d.ports.inputs n) in
    let o = role_in-append (variables_as (λ t. Output t) d.ports.outputs) (past_outputs d) n
    ∙ ap (λ r. or_else r (role_in (past_outputs d) n)) (variable_segment (λ t. Output t) d.ports.outputs n) in
    let l = variable_segment (λ t. Internal t) d.internals n in
    e ∙ ap E (f ∙ ap F (i ∙ ap I (o ∙ ap O l)))

-- Of the five lists at most one has the name.
record IsOne {A B : Type 0} (e f : Option A) (i o l : Option B) : Type 0 where
  after_first : is_some e ≡ true → (is_some f || (is_some i || (is_some o || is_some l))) ≡ false
  after_second : is_some f ≡ true → (is_some i || (is_some o || is_some l)) ≡ false
  after_third : is_some i ≡ true → (is_some o || is_some l) ≡ false
  after_fourth : is_some o ≡ true → is_some l ≡ false

or_or : {b c d e : Bool} → (b ≡ d) → (c ≡ e) → (b || c) ≡ (d || e)
or_or p q = λ k. p k || q k

names_right : (d : Declared) → names_of d
    ≡ event_names d.ports.event_inputs ++ (event_names d.ports.event_outputs ++ (variable_names d.ports.inputs ++ (variable_names d.ports.outputs ++ variable_names d.internals)))
names_right d =
    let es = event_names d.ports.event_inputs in
    let fs = event_names d.ports.event_outputs in
    let is = variable_names d.ports.inputs in
    let os = variable_names d.ports.outputs in
    let ls = variable_names d.internals in
    append_assoc ((es ++ fs) ++ is) os ls ∙ append_assoc (es ++ fs) is (os ++ ls) ∙ append_assoc es fs (is ++ (os ++ ls))

among-append : (n : Name) (xs ys : List Name) → among (xs ++ ys) n ≡ (among xs n || among ys n)
among-append n xs ys = list_any-append (same_name n) xs ys

in_one : (d : Declared) (n : Name) → ¬ (Twice (names_of d))
    → IsOne (event_at d.ports.event_inputs n) (event_at d.ports.event_outputs n) (variable_at d.ports.inputs n) (variable_at d.ports.outputs n) (variable_at d.internals n)
in_one d n differ =
    let es : List Name = event_names d.ports.event_inputs in
    let fs : List Name = event_names d.ports.event_outputs in
    let is : List Name = variable_names d.ports.inputs in
    let os : List Name = variable_names d.ports.outputs in
    let ls : List Name = variable_names d.internals in
    let e : is_some (event_at d.ports.event_inputs n) ≡ among es n = is_some-named (λ (x : EventPort). x.name) n d.ports.event_inputs in
    let f : is_some (event_at d.ports.event_outputs n) ≡ among fs n = is_some-named (λ (x : EventPort). x.name) n d.ports.event_outputs in
    let i : is_some (variable_at d.ports.inputs n) ≡ among is n = is_some-named (λ (x : Variable). x.name) n d.ports.inputs in
    let o : is_some (variable_at d.ports.outputs n) ≡ among os n = is_some-named (λ (x : Variable). x.name) n d.ports.outputs in
    let l : is_some (variable_at d.internals n) ≡ among ls n = is_some-named (λ (x : Variable). x.name) n d.internals in
    let ol = or_or o l ∙ sym (among-append n os ls) in
    let iol = or_or i ol ∙ sym (among-append n is (os ++ ls)) in
    let fiol = or_or f iol ∙ sym (among-append n fs (is ++ (os ++ ls))) in
    let P : List Name → Type 0 = λ ns. ¬ (Twice ns) in
    let once : ¬ (Twice (es ++ (fs ++ (is ++ (os ++ ls))))) = subst P (names_right d) differ in
    let once_f : ¬ (Twice (fs ++ (is ++ (os ++ ls)))) = λ t. once (Twice-append_right es (fs ++ (is ++ (os ++ ls))) t) in
    let once_i : ¬ (Twice (is ++ (os ++ ls))) = λ t. once_f (Twice-append_right fs (is ++ (os ++ ls)) t) in
    let once_o : ¬ (Twice (os ++ ls)) = λ t. once_i (Twice-append_right is (os ++ ls) t) in
    record {
      after_first = λ h. fiol ∙ apart n es (fs ++ (is ++ (os ++ ls))) once (sym e ∙ h);
      after_second = λ h. iol ∙ apart n fs (is ++ (os ++ ls)) once_f (sym f ∙ h);
      after_third = λ h. ol ∙ apart n is (os ++ ls) once_i (sym i ∙ h);
      after_fourth = λ h. l ∙ apart n os ls once_o (sym o ∙ h);
    }

-- ---- What the role says

abbrev pub says : (Role → Bool) → Option Role → Bool
says p o = elim o [ None ↦ false | Some r ↦ p r ]

abbrev pub says_type : Option Role → Option Ty
says_type o = elim o [ None ↦ None | Some r ↦ type_in r ]

or_false : (b c : Bool) → (b || c) ≡ false → (b ≡ false) × (c ≡ false)
or_false true c h = absurd (true≢false h)
or_false false c h = (refl, h)

event_input_said : (e f : Option EventPort) (i o l : Option Variable) → says is_event_input (first_role e f i o l) ≡ is_some e
event_input_said (Some x) f i o l = refl
event_input_said None (Some x) i o l = refl
event_input_said None None (Some x) o l = refl
event_input_said None None None (Some x) l = refl
event_input_said None None None None (Some x) = refl
event_input_said None None None None None = refl

event_output_said : (e f : Option EventPort) (i o l : Option Variable) → IsOne e f i o l → says is_event_output (first_role e f i o l) ≡ is_some f
event_output_said (Some x) f i o l one = sym (or_false (is_some f) _ (one.after_first refl)).0
event_output_said None (Some x) i o l one = refl
event_output_said None None (Some x) o l one = refl
event_output_said None None None (Some x) l one = refl
event_output_said None None None None (Some x) one = refl
event_output_said None None None None None one = refl

input_said : (e f : Option EventPort) (i o l : Option Variable) → IsOne e f i o l → says is_input (first_role e f i o l) ≡ is_some i
input_said (Some x) f i o l one = sym (or_false (is_some i) _ (or_false (is_some f) _ (one.after_first refl)).1).0
input_said None (Some x) i o l one = sym (or_false (is_some i) _ (one.after_second refl)).0
input_said None None (Some x) o l one = refl
input_said None None None (Some x) l one = refl
input_said None None None None (Some x) one = refl
input_said None None None None None one = refl

output_said : (e f : Option EventPort) (i o l : Option Variable) → IsOne e f i o l → says is_output (first_role e f i o l) ≡ is_some o
output_said (Some x) f i o l one = sym (or_false (is_some o) _ (or_false (is_some i) _ (or_false (is_some f) _ (one.after_first refl)).1).1).0
output_said None (Some x) i o l one = sym (or_false (is_some o) _ (or_false (is_some i) _ (one.after_second refl)).1).0
output_said None None (Some x) o l one = sym (or_false (is_some o) _ (one.after_third refl)).0
output_said None None None (Some x) l one = refl
output_said None None None None (Some x) one = refl
output_said None None None None None one = refl

abbrev variable_type : Option Variable → Option Ty
variable_type o = option_map (λ v. v.ty) o

type_is : (e f : Option EventPort) (i o l : Option Variable) → IsOne e f i o l → says_type (first_role e f i o l) ≡ variable_type (or_else (or_else i o) l)
type_is (Some x) f i o l one =
    let iol = (or_false (is_some f) _ (one.after_first refl)).1 in
    let ol = (or_false (is_some i) _ iol).1 in
    sym (ap variable_type (λ k. or_else (or_else (none_from_is_some i (or_false (is_some i) _ iol).0 k) (none_from_is_some o (or_false (is_some o) _ ol).0 k)) (none_from_is_some l (or_false (is_some o) _ ol).1 k)))
type_is None (Some x) i o l one =
    let iol = one.after_second refl in
    let ol = (or_false (is_some i) _ iol).1 in
    sym (ap variable_type (λ k. or_else (or_else (none_from_is_some i (or_false (is_some i) _ iol).0 k) (none_from_is_some o (or_false (is_some o) _ ol).0 k)) (none_from_is_some l (or_false (is_some o) _ ol).1 k)))
type_is None None (Some x) o l one = refl
type_is None None None (Some x) l one = refl
type_is None None None None (Some x) one = refl
type_is None None None None None one = refl

-- ---- What each method returns

pub event_input_says : (d : Declared) (n : Name) (r : Option Role) → r ≡ role_of d n → says is_event_input r ≡ among (event_names d.ports.event_inputs) n
event_input_says d n r is =
    ap (says is_event_input) (is ∙ role_by_lists d n)
    ∙ event_input_said (event_at d.ports.event_inputs n) (event_at d.ports.event_outputs n) (variable_at d.ports.inputs n) (variable_at d.ports.outputs n) (variable_at d.internals n)
    ∙ is_some-named (λ (x : EventPort). x.name) n d.ports.event_inputs

pub event_output_says : (d : Declared) (n : Name) (r : Option Role) → r ≡ role_of d n → ¬ (Twice (names_of d))
    → says is_event_output r ≡ among (event_names d.ports.event_outputs) n
event_output_says d n r is once =
    ap (says is_event_output) (is ∙ role_by_lists d n)
    ∙ event_output_said (event_at d.ports.event_inputs n) (event_at d.ports.event_outputs n) (variable_at d.ports.inputs n) (variable_at d.ports.outputs n) (variable_at d.internals n) (in_one d n once)
    ∙ is_some-named (λ (x : EventPort). x.name) n d.ports.event_outputs

pub input_says : (d : Declared) (n : Name) (r : Option Role) → r ≡ role_of d n → ¬ (Twice (names_of d))
    → says is_input r ≡ among (variable_names d.ports.inputs) n
input_says d n r is once =
    ap (says is_input) (is ∙ role_by_lists d n)
    ∙ input_said (event_at d.ports.event_inputs n) (event_at d.ports.event_outputs n) (variable_at d.ports.inputs n) (variable_at d.ports.outputs n) (variable_at d.internals n) (in_one d n once)
    ∙ is_some-named (λ (x : Variable). x.name) n d.ports.inputs

pub output_says : (d : Declared) (n : Name) (r : Option Role) → r ≡ role_of d n → ¬ (Twice (names_of d))
    → says is_output r ≡ among (variable_names d.ports.outputs) n
output_says d n r is once =
    ap (says is_output) (is ∙ role_by_lists d n)
    ∙ output_said (event_at d.ports.event_inputs n) (event_at d.ports.event_outputs n) (variable_at d.ports.inputs n) (variable_at d.ports.outputs n) (variable_at d.internals n) (in_one d n once)
    ∙ is_some-named (λ (x : Variable). x.name) n d.ports.outputs

pub port_says :
    (s : PortKind) (d : Declared) (n : Name) (r : Option Role) → r ≡ role_of d n → ¬ (Twice (names_of d))
    → says (is_port s) r ≡ among (names_of_kind s d.ports) n
port_says value_kind.EventInput d n r is once = event_input_says d n r is
port_says value_kind.EventOutput d n r is once = event_output_says d n r is once
port_says value_kind.Input d n r is once = input_says d n r is once
port_says value_kind.Output d n r is once = output_says d n r is once

pub type_says : (d : Declared) (n : Name) (r : Option Role) → r ≡ role_of d n → ¬ (Twice (names_of d)) → says_type r ≡ type_named (variables_of d) n
type_says d n r is once =
    ap says_type (is ∙ role_by_lists d n)
    ∙ type_is (event_at d.ports.event_inputs n) (event_at d.ports.event_outputs n) (variable_at d.ports.inputs n) (variable_at d.ports.outputs n) (variable_at d.internals n) (in_one d n once)
    ∙ ap variable_type (sym (named-append (λ v. v.name) n (d.ports.inputs ++ d.ports.outputs) d.internals
    ∙ ap (λ r. or_else r (variable_at d.internals n)) (named-append (λ v. v.name) n d.ports.inputs d.ports.outputs)))

-- ---- By indexes

events_named : (r : Role) (es : List EventPort) → map (λ d. d.0) (events_as r es) ≡ event_names es
events_named r [] = refl
events_named r (e ∷ es) = ap (λ ns. e.name ∷ ns) (events_named r es)

variables_named : (r : Ty → Role) (vs : List Variable) → map (λ d. d.0) (variables_as r vs) ≡ variable_names vs
variables_named r [] = refl
variables_named r (v ∷ vs) = ap (λ ns. v.name ∷ ns) (variables_named r vs)

abbrev fst_of : List (Name × Role) → List Name
fst_of ds = map (λ d. d.0) ds

same_names : (d : Declared) → fst_of (with_roles d) ≡ names_of d
same_names d =
    let es : List Name = event_names d.ports.event_inputs in
    let fs : List Name = event_names d.ports.event_outputs in
    let is : List Name = variable_names d.ports.inputs in
    let os : List Name = variable_names d.ports.outputs in
    let e = map-append (λ r. r.0) (events_as EventInput d.ports.event_inputs) (past_event_inputs d)
    ∙ ap (λ ns. ns ++ fst_of (past_event_inputs d)) (events_named EventInput d.ports.event_inputs) in
    let f = map-append (λ r. r.0) (events_as EventOutput d.ports.event_outputs) (past_events d)
    ∙ ap (λ ns. ns ++ fst_of (past_events d)) (events_named EventOutput d.ports.event_outputs) in
    let i = map-append (λ r. r.0) (variables_as (λ t. Input t) d.ports.inputs) (past_inputs d)
    ∙ ap (λ ns. ns ++ fst_of (past_inputs d)) (variables_named (λ t. Input t) d.ports.inputs) in
    let o = map-append (λ r. r.0) (variables_as (λ t. Output t) d.ports.outputs) (past_outputs d)
    ∙ ap (λ ns. ns ++ fst_of (past_outputs d)) (variables_named (λ t. Output t) d.ports.outputs) in
    let l = variables_named (λ t. Internal t) d.internals in
    e ∙ ap (λ ns. es ++ ns) (f ∙ ap (λ ns. fs ++ ns) (i ∙ ap (λ ns. is ++ ns) (o ∙ ap (λ ns. os ++ ns) l))) ∙ sym (names_right d)

-- what the index leads to is the meaning of the name
pub role_found : (d : Declared) (n : Name) (o : Option ℕ) → o ≡ position (same_name n) (names_of d)
    → option_and_then (λ i. option_map (λ r. r.1) (slice_get (with_roles d) i)) o ≡ role_of d n
role_found d n o at =
    (elim o as (λ o. option_and_then (λ i. option_map (λ r. r.1) (slice_get (with_roles d) i)) o ≡ option_map (λ r. r.1) (option_and_then (slice_get (with_roles d)) o)) [
      | None ↦ refl
      | Some i ↦ refl
    ])
    ∙ ap (λ q. option_map (λ r. r.1) (option_and_then (slice_get (with_roles d)) q)) (at ∙ ap (position (same_name n)) (sym (same_names d)))
    ∙ ap (option_map (λ r. r.1)) (sym (named-position (λ r. r.0) n (with_roles d)))

-- ---- What is at an index

minus : (i n : ℕ) → suc i - suc n ≡ i - n
minus i n = omega arith

past : {A B : Type 0} (g : A → B) (xs : List A) (rest : List B) (i : ℕ) → length xs ≤ i → slice_get (map g xs ++ rest) i ≡ slice_get rest (i - length xs)
past g [] rest i h = let e : i ≡ i - 0 = omega arith in ap (slice_get rest) e
past g (x ∷ xs) rest zero h = absurd (omega (arith, h))
past g (x ∷ xs) rest (suc i) h = past g xs rest i (omega (arith, h)) ∙ ap (slice_get rest) (sym (minus i (length xs)))

here : {A B : Type 0} (g : A → B) (xs : List A) (rest : List B) (i : ℕ) (x : A) → slice_get xs i ≡ Some x → slice_get (map g xs ++ rest) i ≡ Some (g x)
here g [] rest i x h = absurd (cc)
here g (y ∷ xs) rest zero x h = let e : y ≡ x = cc in ap (λ z. Some (g z)) e
here g (y ∷ xs) rest (suc i) x h = here g xs rest i x h

abbrev second : Option (Name × Role) → Option Role
second o = option_map (λ d. d.1) o

abbrev pub role_at : Declared → ℕ → Option Role
role_at d i = second (slice_get (with_roles d) i)

-- among the events of one kind
event_here : (r : Role) (es : List EventPort) (rest : List (Name × Role)) (i : ℕ) → ¬ (length es ≤ i)
    → Some r ≡ second (slice_get (events_as r es ++ rest) i)
event_here r es rest i h =
    let x = element_at es i (omega (arith, h)) in
    sym (ap second (here (λ e. (e.name, r)) es rest i x.0 x.1))

pub at_event_input : (d : Declared) (i n : ℕ) → n ≡ length d.ports.event_inputs → ¬ (n ≤ i) → Some EventInput ≡ role_at d i
at_event_input d i n e h =
    event_here EventInput d.ports.event_inputs (past_event_inputs d) i (λ g. h (omega (arith, e, g)))

past_first : (d : Declared) (i j n : ℕ) → n ≡ length d.ports.event_inputs → n ≤ i → j ≡ i - n
    → role_at d i ≡ second (slice_get (past_event_inputs d) j)
past_first d i j n e h is =
    ap second (past (λ (x : EventPort). (x.name, EventInput)) d.ports.event_inputs (past_event_inputs d) i (omega (arith, e, h)))
    ∙ ap (λ k. second (slice_get (past_event_inputs d) k)) (ap (λ m. i - m) (sym e) ∙ sym is)

pub at_event_output : (d : Declared) (i j n m : ℕ) → n ≡ length d.ports.event_inputs → n ≤ i → j ≡ i - n
    → m ≡ length d.ports.event_outputs → ¬ (m ≤ j) → Some EventOutput ≡ role_at d i
at_event_output d i j n m e h is f g =
    event_here EventOutput d.ports.event_outputs (past_events d) j (λ k. g (omega (arith, f, k))) ∙ sym (past_first d i j n e h is)

-- if an index past the events is among the variables
pub record IsPast (d : Declared) (i k : ℕ) : Type 0 where
  pub rest : role_at d i ≡ second (slice_get (past_events d) k)

pub is_past : (d : Declared) (i j k n m : ℕ) → n ≡ length d.ports.event_inputs → n ≤ i → j ≡ i - n
    → m ≡ length d.ports.event_outputs → m ≤ j → k ≡ j - m → IsPast d i k
is_past d i j k n m e h is f g ks = record {
  rest = past_first d i j n e h is
      ∙ ap second (past (λ (x : EventPort). (x.name, EventOutput)) d.ports.event_outputs (past_events d) j (omega (arith, f, g)))
      ∙ ap (λ k. second (slice_get (past_events d) k)) (ap (λ o. j - o) (sym f) ∙ sym ks);
}

pub at_input : (d : Declared) (i k : ℕ) (v : Variable) → IsPast d i k → slice_get d.ports.inputs k ≡ Some v → Some (Input v.ty) ≡ role_at d i
at_input d i k v p h = sym (p.rest ∙ ap second (here (λ (x : Variable). (x.name, Input x.ty)) d.ports.inputs (past_inputs d) k v h))

pub not_there : {A : Type 0} (xs : List A) (i : ℕ) → slice_get xs i ≡ None → length xs ≤ i
not_there [] i h = omega arith
not_there (x ∷ xs) zero h = absurd (cc)
not_there (x ∷ xs) (suc i) h = let r = not_there xs i h in omega (arith, r)

past_third : (d : Declared) (i k n : ℕ) → IsPast d i k → slice_get d.ports.inputs k ≡ None → n ≡ length d.ports.inputs
    → role_at d i ≡ second (slice_get (past_inputs d) (k - n))
past_third d i k n p h e =
    p.rest ∙ ap second (past (λ (v : Variable). (v.name, Input v.ty)) d.ports.inputs (past_inputs d) k (not_there d.ports.inputs k h))
    ∙ ap (λ m. second (slice_get (past_inputs d) (k - m))) (sym e)

pub at_output : (d : Declared) (i k n : ℕ) (v : Variable) → IsPast d i k → slice_get d.ports.inputs k ≡ None → n ≡ length d.ports.inputs
    → slice_get d.ports.outputs (k - n) ≡ Some v → Some (Output v.ty) ≡ role_at d i
at_output d i k n v p h e g =
    sym (past_third d i k n p h e ∙ ap second (here (λ (x : Variable). (x.name, Output x.ty)) d.ports.outputs (past_outputs d) (k - n) v g))

pub at_internal : (d : Declared) (i k n m : ℕ) → IsPast d i k → slice_get d.ports.inputs k ≡ None → n ≡ length d.ports.inputs
    → slice_get d.ports.outputs (k - n) ≡ None → m ≡ length d.ports.outputs
    → option_map (λ v. Internal v.ty) (slice_get d.internals ((k - n) - m)) ≡ role_at d i
at_internal d i k n m p h e g f =
    sym (past_third d i k n p h e
    ∙ ap second (past (λ (v : Variable). (v.name, Output v.ty)) d.ports.outputs (past_outputs d) (k - n) (not_there d.ports.outputs (k - n) g))
    ∙ ap (λ o. second (slice_get (past_outputs d) ((k - n) - o))) (sym f)
    ∙ ap second (slice_get-map (λ (v : Variable). (v.name, Internal v.ty)) d.internals ((k - n) - m))
    ∙ map_map (slice_get d.internals ((k - n) - m)))
  where
    map_map : (o : Option Variable) → second (option_map (λ v. (v.name, Internal v.ty)) o) ≡ option_map (λ v. Internal v.ty) o
    map_map None = refl
    map_map (Some v) = refl

pub is_some-type_named : (vs : List Variable) (n : Name) → is_some (type_named vs n) ≡ among (variable_names vs) n
is_some-type_named vs n = map_some (named (λ v. v.name) n vs) ∙ is_some-named (λ (v : Variable). v.name) n vs
  where
    map_some : (o : Option Variable) → is_some (option_map (λ v. v.ty) o) ≡ is_some o
    map_some None = refl
    map_some (Some v) = refl
