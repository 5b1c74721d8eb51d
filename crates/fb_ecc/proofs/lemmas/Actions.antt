-- Actions, put together from their parts.
use Rattle.fb_types.proofs.Common.{◌≡◌, ℕ, zero, suc, ◌+◌, ◌<◌, ◌≤◌, true, false, cond, List, [], ◌∷◌, ◌++◌, length, get_or, drop, map, Option, Some, None, Result, Ok, Err, OnOk, OnErr, refl, sym, ◌∙◌, ap, subst, arith, add-one, append-nil, append_assoc, fun_ext, option_map, option_and_then, slice_get, unwrap_or, map-append, length-map, All-push, slice_get-map, slice_get_within, slice_get-get_or, same_Some, Name, same_name, named, bound, outputs_with, types_of, variables_of, Bound, Emission, Point, End, Went, Left, Returned, Stopped, RunsAll, RunsBody, ended, Position, Moving, Halts, Performs, Acts, emitting, at_point, algorithm_of, event_at, emission_of, pair_up, Stmts, no_stmt, body_of, Values, Types}
use Rattle.fb_types.specs.declared.library.Action.{Action}
use Rattle.fb_types.specs.declared.library.Algorithm.{Algorithm}
use Rattle.fb_types.specs.declared.library.BasicType.{BasicType}
use Rattle.fb_types.specs.declared.library.EventPort.{EventPort}
use Rattle.fb_types.specs.declared.library.Variable.{Variable}
use Rattle.fb_types.specs.declared.run.Halt.{Halt}
use Rattle.fb_types.specs.declared.value.Reason.{Reason}
use Rattle.fb_types.specs.declared.value.Ty.{Ty}
use Rattle.std.specs.List.{All}
use Rattle.fb_types.specs.declared.run.Emission as run
use Rattle.fb_types.specs.declared.run.Halt.TheVariants as halt
use Rattle.fb_types.specs.declared.value.Ty.TheVariants.{Bool as Boolean}
use Rattle.fb_types.proofs.lemmas.names.NameLaws.{same_from_same_name}
use Rattle.fb_st.specs.Frames.{Declared, types_in, values_of}
use Rattle.fb_st.specs.declared.frame.Slot.{Slot}
use Rattle.fb_st.proofs.lemmas.Indexes.{named_at_index}
use Rattle.fb_st.specs.Flows.{end_of}
use Rattle.fb_st.specs.declared.meter.Flow.{Flow}
use Rattle.fb_st.specs.declared.meter.Flow.TheVariants as flow
use Rattle.fb_ecc.specs.Actions.{AreActions, IsAction, IsAlgorithm, IsOutput, with_slots}
use Rattle.fb_ecc.specs.declared.chart.Act.{Act}
use Rattle.fb_ecc.specs.Blocks.{BeginsWith}
use Rattle.fb_ecc.specs.Located.{AreAt, slots_with, slots_with_each}
use Rattle.fb_ecc.specs.Numbered.{number_in}
use Rattle.fb_ecc.specs.Indexes.{index, Ended, IsWellFormed}
use Rattle.fb_ecc.specs.Sound.{declared_as, declared_by}
use Rattle.fb_ecc.proofs.lemmas.Located.{outputs_at}
use Rattle.fb_ecc.proofs.lemmas.Trials.{IsFirst, stands, number_is}

-- ---- What was emitted before

pub begins_same : (old : List run.Emission) → BeginsWith old old
begins_same old = ([], sym (append-nil old))

pub begins_push : (old new : List run.Emission) (e : run.Emission) → new ≡ old ++ e ∷ [] → BeginsWith old new
begins_push old new e is = (e ∷ [], is)

pub begins_unchanged : (old new : List run.Emission) → new ≡ old → BeginsWith old new
begins_unchanged old new is = ([], is ∙ sym (append-nil old))

pub begins_on : (old between new : List run.Emission) → BeginsWith old between → BeginsWith between new → BeginsWith old new
begins_on old between new (xs, first) (ys, after) =
    (xs ++ ys, after ∙ ap (λ (l : List run.Emission). l ++ ys) first ∙ append_assoc old xs ys)

-- ---- An action, and what follows

pub performs_then :
    (t : BasicType) (n : Option Name) (rest : Moving) (p m q : Position) (stop : Option Reason) → Performs t n (Halts None) p None m → rest m stop q → Performs t n rest p stop q
performs_then t None rest p m q stop (e, is) after = subst (λ (x : Position). rest x stop q) is after
performs_then t (Some a) rest p m q stop (Went, x, run, (e, is)) after = (Went, x, run, subst (λ (y : Position). rest y stop q) is after)
performs_then t (Some a) rest p m q stop (Left, x, run, (e, is)) after = (Left, x, run, subst (λ (y : Position). rest y stop q) is after)
performs_then t (Some a) rest p m q stop (Returned, x, run, (e, is)) after = (Returned, x, run, subst (λ (y : Position). rest y stop q) is after)
performs_then t (Some a) rest p m q stop (Stopped r, x, run, (e, is)) after = absurd (cc)

pub performs_stops :
    (t : BasicType) (n : Option Name) (rest : Moving) (p q : Position) (r : Reason) → Performs t n (Halts None) p (Some r) q → Performs t n rest p (Some r) q
performs_stops t None rest p q r (e, is) = absurd (cc)
performs_stops t (Some a) rest p q r (Went, x, run, (e, is)) = absurd (cc)
performs_stops t (Some a) rest p q r (Left, x, run, (e, is)) = absurd (cc)
performs_stops t (Some a) rest p q r (Returned, x, run, (e, is)) = absurd (cc)
performs_stops t (Some a) rest p q r (Stopped s, x, run, after) = (Stopped s, x, run, after)

-- ---- Types and algorithms

named_declared : (vs : List Variable) (n : Name) → named (λ d. d.0) n (map declared_as vs) ≡ option_map declared_as (named (λ v. v.name) n vs)
named_declared [] n = refl
named_declared (v ∷ vs) n =
    elim (same_name v.name n) as (λ b. cond b (Some (declared_as v)) (named (λ d. d.0) n (map declared_as vs)) ≡ option_map declared_as (cond b (Some v) (named (λ w. w.name) n vs))) [
      | true ↦ refl
      | false ↦ named_declared vs n
    ]

abbrev type_or : Option Declared → Ty
type_or o = elim o [ None ↦ Boolean | Some d ↦ d.1 ]

type_declared : (o : Option Variable) → type_or (option_map declared_as o) ≡ (elim o [ None ↦ Boolean | Some v ↦ v.ty ])
type_declared None = refl
type_declared (Some v) = refl

pub types_declared : (t : BasicType) → types_in (declared_by t) ≡ types_of t
types_declared t = fun_ext (λ n. ap type_or (named_declared (variables_of t) n) ∙ type_declared (named (λ v. v.name) n (variables_of t)))

abbrev body_or : Option Algorithm → Stmts
body_or o = elim o [ None ↦ no_stmt | Some x ↦ body_of x.body ]

pub algorithm_is : (t : BasicType) (n : Name) (s : IsFirst (λ a. a.name) t.algorithms n) → algorithm_of t n ≡ body_of s.element.body
algorithm_is t n s =
    let there : named (λ a. a.name) n t.algorithms ≡ Some s.element =
    named_at_index (λ a. a.name) n t.algorithms ∙ ap (option_and_then (slice_get t.algorithms)) s.first ∙ s.at in
    ap body_or there

-- ---- Emissions

pub pair_up-bound : (ns : List Name) (vars : Values) → pair_up ns (map vars ns) ≡ bound ns vars
pair_up-bound [] vars = refl
pair_up-bound (n ∷ ns) vars = ap (λ bs. record { variable = n; value = vars n } ∷ bs) (pair_up-bound ns vars)

pub event_is : (events : List EventPort) (n : Name) (s : IsFirst (λ p. p.name) events n) → event_at events s.index ≡ n
event_is events n s =
    ap (λ (o : Option Name). unwrap_or o []) (slice_get-map (λ (e : EventPort). e.name) events s.index ∙ ap (option_map (λ (e : EventPort). e.name)) s.at)
    ∙ sym (same_from_same_name n s.element.name s.named)

-- what the index of an event output says
pub record Output (t : BasicType) (k : ℕ) (name : Option Name) : Type 0 where
  pub event : Name
  pub is : name ≡ Some event
  pub within : k < length t.ports.event_outputs
  pub named : event_at t.ports.event_outputs k ≡ event
  pub shown : slice_get (slots_with_each t.ports.event_outputs t.ports.outputs (length t.ports.inputs)) k ≡ Some (slots_with t.ports.event_outputs t.ports.outputs (length t.ports.inputs) event)

pub output_here : (t : BasicType) (k : ℕ) (name : Option Name) → IsOutput t (Some k) name → Output t k name
output_here t k None o = absurd (let e = o.is in cc)
output_here t k (Some n) o =
    let events : List EventPort = t.ports.event_outputs in
    let first : ℕ = length t.ports.inputs in
    let s = stands (λ p. p.name) events n o.known in
    let numbered : Some k ≡ Some (number_in (λ p. p.name) events n) = o.is in
    let here : k ≡ s.index = same_Some k (number_in (λ p. p.name) events n) numbered ∙ number_is (λ p. p.name) events n s in
    let names : s.element.name ≡ n = sym (same_from_same_name n s.element.name s.named) in
    record {
      event = n;
      is = refl;
      within = subst (λ i. i < length events) (sym here) (slice_get_within events s.index s.element s.at);
      named = ap (event_at events) here ∙ event_is events n s;
      shown = ap (slice_get (slots_with_each events t.ports.outputs first)) here
          ∙ slice_get-map (λ (e : EventPort). slots_with events t.ports.outputs first e.name) events s.index
          ∙ ap (option_map (λ (e : EventPort). slots_with events t.ports.outputs first e.name)) s.at
          ∙ ap (λ (m : Name). Some (slots_with events t.ports.outputs first m)) names;
    }

-- the slots of the variables WITH an output event, where they are read
pub shown_here :
    (t : BasicType) (k : ℕ) (name : Option Name) (o : Output t k name) (shown : List (List ℕ)) (read d : List ℕ) (ds : List Declared)
    → shown ≡ slots_with_each t.ports.event_outputs t.ports.outputs (length t.ports.inputs) → k < length shown → read ≡ get_or shown k d → ds ≡ declared_by t
    → AreAt ds (outputs_with t.ports o.event) read
shown_here t k name o shown read d ds all within is declared =
    let slots : List ℕ = slots_with t.ports.event_outputs t.ports.outputs (length t.ports.inputs) o.event in
    let here : read ≡ slots =
    is ∙ same_Some (get_or shown k d) slots (sym (subst (λ (l : List (List ℕ)). slice_get l k ≡ Some (get_or shown k d)) all (slice_get-get_or shown k d within)) ∙ o.shown) in
    subst (λ (l : List Declared). AreAt l (outputs_with t.ports o.event) read) (sym declared)
    (subst (λ (l : List ℕ). AreAt (declared_by t) (outputs_with t.ports o.event) l) (sym here) (outputs_at t o.event))

pub shown_within :
    (t : BasicType) (k : ℕ) (name : Option Name) (o : Output t k name) (shown : List (List ℕ))
    → shown ≡ slots_with_each t.ports.event_outputs t.ports.outputs (length t.ports.inputs) → k < length shown
shown_within t k name o shown all =
    let first : ℕ = length t.ports.inputs in
    subst (λ (l : List (List ℕ)). k < length l) (sym all)
    (slice_get_within (slots_with_each t.ports.event_outputs t.ports.outputs first) k (slots_with t.ports.event_outputs t.ports.outputs first o.event) o.shown)

emission_meant :
    (t : BasicType) (k : ℕ) (name : Option Name) (o : Output t k name) (vars : Values) (read : List Name) → read ≡ outputs_with t.ports o.event
    → emission_of t.ports (record { event = k; values = map vars read }) ≡ record { event = o.event; values = bound (outputs_with t.ports o.event) vars }
emission_meant t k name o vars read is =
    ap (λ (ns : List Name). emission_of t.ports (record { event = k; values = map vars ns })) is
    ∙ ap (λ (n : Name). record { event = n; values = pair_up (outputs_with t.ports n) (map vars (outputs_with t.ports o.event)) }) o.named
    ∙ ap (λ (bs : List Bound). record { event = o.event; values = bs }) (pair_up-bound (outputs_with t.ports o.event) vars)

pub emitted_some :
    (t : BasicType) (k : ℕ) (name : Option Name) (o : Output t k name) (state left : ℕ) (slots : List Slot) (old new : List run.Emission) (read : List Name)
    → read ≡ outputs_with t.ports o.event → new ≡ old ++ record { event = k; values = map (values_of slots) read } ∷ []
    → index t state slots left new ≡ emitting t name (index t state slots left old)
emitted_some t k name o state left slots old new read is grown =
    let es : List Emission = map (emission_of t.ports) old in
    let more : map (emission_of t.ports) new ≡ es ++ record { event = o.event; values = bound (outputs_with t.ports o.event) (values_of slots) } ∷ [] =
    ap (map (emission_of t.ports)) grown
    ∙ map-append (emission_of t.ports) old (record { event = k; values = map (values_of slots) read } ∷ [])
    ∙ ap (λ (e : Emission). es ++ e ∷ []) (emission_meant t k name o (values_of slots) read is) in
    ap (λ (l : List Emission). record (index t state slots left old) { emitted = l }) more
    ∙ ap (λ (n : Option Name). emitting t n (index t state slots left old)) (sym o.is)

pub fit_some :
    (t : BasicType) (k : ℕ) (name : Option Name) (o : Output t k name) (vars : Values) (old new : List run.Emission) (read : List Name)
    → read ≡ outputs_with t.ports o.event → new ≡ old ++ record { event = k; values = map vars read } ∷ [] → All (IsWellFormed t) old → All (IsWellFormed t) new
fit_some t k name o vars old new read is grown all =
    let counted : length (map vars read) ≡ length (outputs_with t.ports (event_at t.ports.event_outputs k)) =
    length-map read vars ∙ ap length is ∙ ap (λ (n : Name). length (outputs_with t.ports n)) (sym o.named) in
    let P : List run.Emission → Type 0 = λ l. All (IsWellFormed t) l in
    subst P (sym grown) (All-push (IsWellFormed t) old (record { event = k; values = map vars read }) all (o.within, counted))

-- what the index of an algorithm says
pub record Named (t : BasicType) (k : ℕ) (name : Option Name) : Type 0 where
  pub algorithm : Name
  pub element : Algorithm
  pub is : name ≡ Some algorithm
  pub at : slice_get t.algorithms k ≡ Some element
  pub body : algorithm_of t algorithm ≡ body_of element.body

pub algorithm_here : (t : BasicType) (k : ℕ) (name : Option Name) → IsAlgorithm t (Some k) name → Named t k name
algorithm_here t k None o = absurd (let e = o.is in cc)
algorithm_here t k (Some n) o =
    let s = stands (λ a. a.name) t.algorithms n o.known in
    let numbered : Some k ≡ Some (number_in (λ a. a.name) t.algorithms n) = o.is in
    let here : k ≡ s.index = same_Some k (number_in (λ a. a.name) t.algorithms n) numbered ∙ number_is (λ a. a.name) t.algorithms n s in
    record {
      algorithm = n;
      element = s.element;
      is = refl;
      at = ap (slice_get t.algorithms) here ∙ s.at;
      body = algorithm_is t n s;
    }

-- ---- Algorithms that ran

-- the statements ran, and RETURN among them ends the algorithm alone
runs_as :
    (t : BasicType) (k : ℕ) (name : Option Name) (n : Named t k name) (y : Algorithm) (ds : List Declared) (p q : Point) (e : End) → slice_get t.algorithms k ≡ Some y
    → ds ≡ declared_by t → RunsAll (types_in ds) (body_of y.body) p e q → RunsBody (types_of t) (algorithm_of t n.algorithm) p (ended e) q
runs_as t k name n y ds p q e at declared run =
    let same : y ≡ n.element = same_Some y n.element (sym at ∙ n.at) in
    let body : body_of y.body ≡ algorithm_of t n.algorithm = ap (λ (a : Algorithm). body_of a.body) same ∙ sym n.body in (
      e,
      subst (λ (types : Types). RunsAll types (algorithm_of t n.algorithm) p e q) (ap types_in declared ∙ types_declared t)
          (subst (λ (b : Stmts). RunsAll (types_in ds) b p e q) body run),
      refl,
    )

performs_some :
    (t : BasicType) (n : Name) (p : Position) (m : Point) (f : Flow) → RunsBody (types_of t) (algorithm_of t n) (record { vars = p.vars; left = p.left }) (ended (end_of (Ok f))) m
    → Performs t (Some n) (Halts None) p None (at_point p m)
performs_some t n p m flow.Went run = (Went, m, run, (refl, refl))
performs_some t n p m flow.Left run = (Left, m, run, (refl, refl))
performs_some t n p m flow.Returned run = (Went, m, run, (refl, refl))

pub performed_ok :
    (t : BasicType) (k : ℕ) (name : Option Name) (n : Named t k name) (y : Algorithm) (ds : List Declared) (p : Position) (slots new : List Slot) (left less : ℕ)
    (result : Result Flow Reason) (f : Flow) → slice_get t.algorithms k ≡ Some y → ds ≡ declared_by t → result ≡ Ok f
    → RunsAll (types_in ds) (body_of y.body) (record { vars = values_of slots; left = left }) (end_of result) (record { vars = values_of new; left = less })
    → Performs t name (Halts None) (with_slots p slots left) None (with_slots p new less)
performed_ok t k name n y ds p slots new left less result f at declared ok run =
    let m : Point = record { vars = values_of new; left = less } in
    let ran = runs_as t k name n y ds (record { vars = values_of slots; left = left }) m (end_of (Ok f)) at declared
    (subst (λ (r : Result Flow Reason). RunsAll (types_in ds) (body_of y.body) (record { vars = values_of slots; left = left }) (end_of r) m) ok run) in
    subst (λ (o : Option Name). Performs t o (Halts None) (with_slots p slots left) None (with_slots p new less)) (sym n.is)
    (performs_some t n.algorithm (with_slots p slots left) m f ran)

pub performed_err :
    (t : BasicType) (k : ℕ) (name : Option Name) (n : Named t k name) (y : Algorithm) (ds : List Declared) (p : Position) (slots new : List Slot) (left less : ℕ)
    (result : Result Flow Reason) (r : Reason) → slice_get t.algorithms k ≡ Some y → ds ≡ declared_by t → result ≡ Err r
    → RunsAll (types_in ds) (body_of y.body) (record { vars = values_of slots; left = left }) (end_of result) (record { vars = values_of new; left = less })
    → Performs t name (Halts None) (with_slots p slots left) (Some r) (with_slots p new less)
performed_err t k name n y ds p slots new left less result r at declared err run =
    let m : Point = record { vars = values_of new; left = less } in
    let ran = runs_as t k name n y ds (record { vars = values_of slots; left = left }) m (Stopped r) at declared
    (subst (λ (s : Result Flow Reason). RunsAll (types_in ds) (body_of y.body) (record { vars = values_of slots; left = left }) (end_of s) m) err run) in
    subst (λ (o : Option Name). Performs t o (Halts None) (with_slots p slots left) (Some r) (with_slots p new less)) (sym n.is)
    (Stopped r, m, ran, (refl, refl))

-- an action without an algorithm
pub performed_none : (t : BasicType) (name : Option Name) (p : Position) → IsAlgorithm t None name → Performs t name (Halts None) p None p
performed_none t None p here = (refl, refl)
performed_none t (Some a) p here = absurd (let e = here.is in cc)

-- an algorithm that is read
pub read_here :
    (t : BasicType) (k : ℕ) (read : List Algorithm) (y : Algorithm) → read ≡ t.algorithms → k < length read → slice_get t.algorithms k ≡ Some (get_or read k y)
read_here t k read y all within = subst (λ (l : List Algorithm). slice_get l k ≡ Some (get_or read k y)) all (slice_get-get_or read k y within)

-- ---- Actions, one after the other

pub acts_stops :
    (t : BasicType) (a : Action) (rest : List Action) (p q : Position) (left less : ℕ) (r : Reason) → left ≡ suc less
    → Performs t a.algorithm (Halts None) (record p { left = less }) (Some r) q → Acts t (a ∷ rest) left p (Some r) q
acts_stops t a rest p q left less r fewer run =
    subst (λ n. Acts t (a ∷ rest) n p (Some r) q) (sym fewer)
    (performs_stops t a.algorithm (λ m stop q. Acts t rest (emitting t a.output m).left (emitting t a.output m) stop q) (record p { left = less }) q r run)

pub acts_goes :
    (t : BasicType) (a : Action) (p m q : Position) (left less : ℕ) → left ≡ suc less → Performs t a.algorithm (Halts None) (record p { left = less }) None m
    → q ≡ emitting t a.output m → Acts t (a ∷ []) left p None q
acts_goes t a p m q left less fewer run is =
    subst (λ n. Acts t (a ∷ []) n p None q) (sym fewer)
    (performs_then t a.algorithm (λ m stop q. Acts t [] (emitting t a.output m).left (emitting t a.output m) stop q) (record p { left = less }) m q None run (refl, is))

-- where one action ended, the next ones go on
performs_more :
    (t : BasicType) (n : Option Name) (f : Position → Position) (rest : Moving) (p m q : Position) (stop : Option Reason)
    → Performs t n (λ x s y. Halts None (f x) s y) p None m → rest m stop q → Performs t n (λ x s y. rest (f x) s y) p stop q
performs_more t None f rest p m q stop (e, is) after = subst (λ (x : Position). rest x stop q) is after
performs_more t (Some a) f rest p m q stop (Went, x, run, (e, is)) after = (Went, x, run, subst (λ (y : Position). rest y stop q) is after)
performs_more t (Some a) f rest p m q stop (Left, x, run, (e, is)) after = (Left, x, run, subst (λ (y : Position). rest y stop q) is after)
performs_more t (Some a) f rest p m q stop (Returned, x, run, (e, is)) after = (Returned, x, run, subst (λ (y : Position). rest y stop q) is after)
performs_more t (Some a) f rest p m q stop (Stopped r, x, run, (e, is)) after = absurd (cc)

performs_no_more :
    (t : BasicType) (n : Option Name) (f : Position → Position) (rest : Moving) (p q : Position) (r : Reason)
    → Performs t n (λ x s y. Halts None (f x) s y) p (Some r) q → Performs t n (λ x s y. rest (f x) s y) p (Some r) q
performs_no_more t None f rest p q r (e, is) = absurd (cc)
performs_no_more t (Some a) f rest p q r (Went, x, run, (e, is)) = absurd (cc)
performs_no_more t (Some a) f rest p q r (Left, x, run, (e, is)) = absurd (cc)
performs_no_more t (Some a) f rest p q r (Returned, x, run, (e, is)) = absurd (cc)
performs_no_more t (Some a) f rest p q r (Stopped s, x, run, after) = (Stopped s, x, run, after)

pub next_acts :
    (t : BasicType) (a : Action) (rest : List Action) (p m q : Position) (left : ℕ) (stop : Option Reason) → Acts t (a ∷ []) left p None m
    → Acts t rest m.left m stop q → Acts t (a ∷ rest) left p stop q
next_acts t a rest p m q zero stop (e, is) after = absurd (cc)
next_acts t a rest p m q (suc left) stop run after =
    performs_more t a.algorithm (emitting t a.output) (λ n s y. Acts t rest n.left n s y) (record p { left = left }) m q stop run after

pub no_next_acts :
    (t : BasicType) (a : Action) (rest : List Action) (p q : Position) (left : ℕ) (r : Reason) → Acts t (a ∷ []) left p (Some r) q → Acts t (a ∷ rest) left p (Some r) q
no_next_acts t a rest p q zero r run = run
no_next_acts t a rest p q (suc left) r run =
    performs_no_more t a.algorithm (emitting t a.output) (λ n s y. Acts t rest n.left n s y) (record p { left = left }) q r run

-- the action at an index
pub record ActionAt (t : BasicType) (act : Act) (rest : List Action) (i : ℕ) : Type 0 where
  pub action : Action
  pub is : IsAction t act action
  pub here : drop i rest ≡ action ∷ drop (i + 1) rest

action_at :
    (t : BasicType) (acts : List Act) (actions : List Action) (i : ℕ) (d : Act) → AreActions t acts actions → i < length acts
    → (a : Action) × IsAction t (get_or acts i d) a × (drop i actions ≡ a ∷ drop (suc i) actions)
action_at t [] actions i d are h = absurd (omega arith)
action_at t (x ∷ xs) [] i d are h = absurd are
action_at t (x ∷ xs) (a ∷ as') zero d are h = (a, are.0, refl)
action_at t (x ∷ xs) (a ∷ as') (suc i) d are h = action_at t xs as' i d are.1 (omega arith)

pub action_here :
    (t : BasicType) (acts : List Act) (actions : List Action) (i : ℕ) (d : Act) → AreActions t acts actions → i < length acts → ActionAt t (get_or acts i d) actions i
action_here t acts actions i d are h =
    let x = action_at t acts actions i d are h in
    record { action = x.0; is = x.1; here = x.2 ∙ rw add-one refl }

-- ---- Results

pub on_ok : {A B E T : Type 0} (result : Result T E) → OnOk result A → (A → B) → OnOk result B
on_ok (Ok u) a f = f a
on_ok (Err e) a f = a

pub either : {A B P E T : Type 0} (result : Result T E) → OnOk result A → OnErr result B → (A → P) → (B → P) → P
either (Ok u) a b f g = f a
either (Err e) a b f g = g b

-- a call that ended early ends what it belongs to
pub ended_early :
    (h : Halt) (one all : Moving) (p m q : Position) → ((r : Reason) → one m (Some r) q → all p (Some r) q) → Ended (Err h) one m q → Ended (Err h) all p q
ended_early (halt.Stop r) one all p m q goes run = goes r run
ended_early halt.Memory one all p m q goes run = run

pub no_action_left :
    (t : BasicType) (acts : List Act) (actions : List Action) (i : ℕ) → AreActions t acts actions → length acts ≤ i → drop i actions ≡ []
no_action_left t [] [] zero are h = refl
no_action_left t [] [] (suc i) are h = refl
no_action_left t [] (a ∷ as') i are h = absurd are
no_action_left t (x ∷ xs) [] i are h = absurd are
no_action_left t (x ∷ xs) (a ∷ as') zero are h = absurd (omega arith)
no_action_left t (x ∷ xs) (a ∷ as') (suc i) are h = no_action_left t xs as' i are.1 (omega arith)
