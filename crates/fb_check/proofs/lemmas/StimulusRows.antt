-- Stimuli by number, one after another.
use Rattle.fb_check.proofs.lemmas.Common.{◌≡◌, ℕ, ◌<◌, ◌≤◌, ◌+◌, Bool, true, false, not, ◌&&◌, List, [], ◌∷◌, ◌++◌, length, get_or, map, take, Contains, Option, Some, None, Result, refl, sym, ◌∙◌, ap, subst, arith, All, is_some, option_and_then, option_map, position, slice_get, unwrap_or, list_all, map-append, All-append, Contains-append_left, Contains-append_right, slice_get-map, slice_get_read, same_Some, Name, same_name, fits, event_names, variable_names, kind_of_instance, Twice, event_ins, data_ins, Setting, Stimulus, EventPort, Instance, Library, Ports, Variable, InputValue, each_or_none, index_of, index_in, IsFound, slot_of, TypeInputs, IsBadAt, StimulusLocation}
use Rattle.fb_types.proofs.Common.{Ok, Err, ⊎_elim, length-append, if◌then◌else◌, cases_lt, All-cons, All-nil, slice_get_within, instance_in, IsGood}
use Rattle.fb_types.specs.declared.value.Value.{Value}
use Rattle.fb_types.specs.Accepted.{kind_of_stimulus, set_names}
use Rattle.fb_check_names.proofs.lemmas.Each.{each_parts, is_some-each}
use Rattle.fb_types.proofs.lemmas.lists.Positions.{named-position, position_is}
use Rattle.fb_types.proofs.lemmas.lists.ByIndex.{slice_get-push}
use Rattle.fb_types.proofs.lemmas.lists.Elements.{Contains-here}
use Rattle.fb_system.specs.declared.rows.StimulusRow.{StimulusRow}
use Rattle.fb_system.specs.Rows.{IsSet, AreSets, IsRow, AreRows, AreRowsUpTo}
use Rattle.fb_check.specs.Directory.{IsDirectory, IsInputs, IsTaken, has_pair, held_slot, holds, input_in, input_of, is_settable, ports_at}
use Rattle.fb_check.specs.declared.directory_making.Input.{Input}
use Rattle.fb_check.specs.declared.directory.Directory.{Directory}
use Rattle.fb_check.specs.Stimuli.{AreAllBad, AreAllBadUpTo, IsAdded, IsRowOr, IsUnfit}
use Rattle.fb_check.specs.declared.location.StimulusFault.{StimulusFault}
use Rattle.fb_check_names.proofs.lemmas.Listing.{none_right}
use Rattle.fb_check.proofs.lemmas.GoodStimuli.{IsFoundAt, Known, all-is, can_take, first_index, found_at, good_from, kind_of_ports, the_ports, unfit}
use Rattle.fb_check.proofs.lemmas.RefusedStimuli.{HasRefused, refused_more}

-- ---- Slots

held_some : (o : Option Input) (v : Value) → is_some (held_slot o v) ≡ elim o as (λ _. Bool) [ None ↦ false | Some i ↦ fits i.ty v ]
held_some None v = refl
held_some (Some i) v =
    let it : InputValue = record { index = i.index; value = v } in
    elim (fits i.ty v) as (λ b. is_some (if b then Some it else None) ≡ b) [ true ↦ refl | false ↦ refl ]

-- there is a slot exactly for a setting that can be made
slot_some : (d : Directory) (x : TypeInputs) (s : Stimulus) (v : Setting) → is_some (slot_of d x s v) ≡ is_settable d x s v
slot_some d x s v =
    let held : Option InputValue = held_slot (input_in x.variables v.variable) v.value in
    let can : Bool = holds x v.variable v.value in
    let free : Bool = not (has_pair d.targets s.instance v.variable) in
    elim (has_pair x.withs s.event v.variable) as (λ b. is_some (if b && free then held else None) ≡ (b && (free && can))) [
      | false ↦ refl
      | true ↦ (elim free as (λ b. is_some (if b then held else None) ≡ (b && can)) [
        | false ↦ refl
        | true ↦ held_some (input_in x.variables v.variable) v.value
      ])
    ]

pub slots_some :
    (d : Directory) (x : TypeInputs) (s : Stimulus) → is_some (each_or_none (slot_of d x s) s.settings) ≡ list_all (is_settable d x s) s.settings
slots_some d x s =
    is_some-each (slot_of d x s) s.settings ∙ all-is (λ v. is_some (slot_of d x s v)) (is_settable d x s) s.settings (slot_some d x s)

-- what the index of a variable sets is the variable
set_is : (p : Ports) (s : Setting) (k n : ℕ) → index_of (data_ins p) s.variable ≡ Some k → n ≡ k → IsSet p.inputs s (record { index = n; value = s.value })
set_is p s k n h e =
    let at = position_is (λ (v : Variable). v.name) s.variable p.inputs k h in
    let name : slice_get (variable_names p.inputs) n ≡ Some s.variable =
    ap (slice_get (variable_names p.inputs)) e ∙ slice_get-map (λ (v : Variable). v.name) p.inputs k
    ∙ ap (option_map (λ (v : Variable). v.name)) at.1 ∙ ap (λ (m : Name). Some m) at.2 in
    record {
      named = ap (λ (o : Option Name). record { variable = unwrap_or o []; value = s.value }) name;
      within = subst (λ (j : ℕ). j < length p.inputs) (sym e) (slice_get_within p.inputs k at.0 at.1);
    }

held_set : (p : Ports) (x : TypeInputs) (v : Setting) (y : InputValue) → IsInputs p x → held_slot (input_in x.variables v.variable) v.value ≡ Some y → IsSet p.inputs v y
held_set p x v y is h =
    let name : Variable → Name = λ w. w.name in
    let index : Option ℕ = position (same_name v.variable) (variable_names p.inputs) in
    elim index as (λ o. index ≡ o → held_slot (option_and_then (λ k. option_map (input_of k) (slice_get p.inputs k)) o) v.value ≡ Some y → IsSet p.inputs v y) [
      | None ↦ λ e g. absurd (cc)
      | Some k ↦ λ e g.
          let at = position_is name v.variable p.inputs k e in
          let it : InputValue = record { index = k; value = v.value } in
          (elim (fits at.0.ty v.value) as (λ b. (if b then Some it else None) ≡ Some y → IsSet p.inputs v y) [
            | false ↦ λ f. absurd (cc)
            | true ↦ λ f. subst (λ (z : InputValue). IsSet p.inputs v z) (same_Some it y f) (set_is p v k k e refl)
          ]) (sym (ap (λ (o : Option Variable). held_slot (option_map (input_of k) o) v.value) at.1) ∙ g)
    ] refl (sym (ap (λ (o : Option Input). held_slot o v.value) (is.variables.first v.variable)) ∙ h)

slot_set : (p : Ports) (d : Directory) (x : TypeInputs) (s : Stimulus) (v : Setting) (y : InputValue) → IsInputs p x → slot_of d x s v ≡ Some y → IsSet p.inputs v y
slot_set p d x s v y is h =
    elim (has_pair x.withs s.event v.variable && not (has_pair d.targets s.instance v.variable)) as
    (λ b. (if b then held_slot (input_in x.variables v.variable) v.value else None) ≡ Some y → IsSet p.inputs v y) [
      | false ↦ λ g. absurd (cc)
      | true ↦ λ g. held_set p x v y is g
    ] h

slots_set :
    (p : Ports) (d : Directory) (x : TypeInputs) (s : Stimulus) (vs : List Setting) (ys : List InputValue) → IsInputs p x → each_or_none (slot_of d x s) vs ≡ Some ys
    → AreSets p.inputs vs ys
slots_set p d x s [] ys is h =
    let none : [] ≡ ys = cc in
    subst (λ (zs : List InputValue). AreSets p.inputs [] zs) none (record { named = refl; within = All-nil (λ (y : InputValue). y.index < length p.inputs) })
slots_set p d x s (v ∷ vs) ys is h =
    let r = each_parts (slot_of d x s) v vs ys h in
    let here = slot_set p d x s v r.0 is r.2 in
    let rest = slots_set p d x s vs r.1 is r.3 in
    subst (λ (zs : List InputValue). AreSets p.inputs (v ∷ vs) zs) (sym r.4) (record {
      named = λ j. here.named j ∷ rest.named j;
      within = All-cons (λ (y : InputValue). y.index < length p.inputs) r.0 r.1 here.within rest.within;
    })

-- ---- Events

event_at_index : (p : Ports) (n : Name) (k j : ℕ) → index_of (event_ins p) n ≡ Some k → j ≡ k → slice_get (event_names p.event_inputs) j ≡ Some n
event_at_index p n k j h e =
    let at = position_is (λ (e : EventPort). e.name) n p.event_inputs k h in
    ap (slice_get (event_names p.event_inputs)) e ∙ slice_get-map (λ (e : EventPort). e.name) p.event_inputs k
    ∙ ap (option_map (λ (e : EventPort). e.name)) at.1 ∙ ap (λ (m : Name). Some m) at.2

-- ---- One row

-- what was made of a stimulus that can be taken
pub taken_is :
    (lib : Library) (d : Directory) (s : Stimulus) (x : TypeInputs) (row : StimulusRow) (k e : ℕ) → IsDirectory lib d → IsFoundAt lib s k (Some x)
    → index_in x.events s.event ≡ Some e → ¬ (Twice (set_names s)) → each_or_none (slot_of d x s) s.settings ≡ Some row.sets
    → row.tick ≡ s.tick → row.instance ≡ k → row.event ≡ e → IsTaken lib s row
taken_is lib d s x row k e directory placed event distinct slots tick instance event_is =
    let instances = lib.application.network.instances in
    let found = found_at lib s k (Some x) placed in
    let all : list_all (is_settable d x s) s.settings ≡ true = sym (slots_some d x s) ∙ ap is_some slots in
    let its = the_ports (ports_at lib s.instance) x found in
    let p : Ports = its.0 in
    let kind = kind_of_ports (kind_of_stimulus lib s) p its.1 in
    let at = position_is (λ (i : Instance). i.name) s.instance instances k placed.0 in
    let named_is : instance_in lib.application.network s.instance ≡ Some at.0 =
    named-position (λ (i : Instance). i.name) s.instance instances ∙ ap (option_and_then (slice_get instances)) placed.0 ∙ at.1 in
    let index : index_of (event_ins p) s.event ≡ Some e =
    sym (first_index (λ (e : EventPort). e.name) p.event_inputs s.event) ∙ sym (its.2.events.first s.event) ∙ event in
    let Event : Ports → Type 0 = λ q. slice_get (event_names q.event_inputs) row.event ≡ Some s.event in
    let Sets : Ports → Type 0 = λ q. AreSets q.inputs s.settings row.sets in
    record {
      takes = (can_take lib d x s directory found (ap is_some event) distinct).0 all;
      row = record {
        tick = tick;
        instance = at.0;
        at = ap (slice_get instances) instance ∙ at.1;
        called = at.2;
        found = named_is;
        kind = kind.0;
        of_instance = sym (ap (option_and_then (kind_of_instance lib)) named_is) ∙ kind.1;
        of_kind = kind.1;
        event = subst Event (sym kind.2) (event_at_index p s.event e row.event index event_is);
        sets = subst Sets (sym kind.2) (slots_set p d x s s.settings row.sets its.2 slots);
      };
    }

-- a setting without a slot
pub slot_none :
    (lib : Library) (d : Directory) (x : TypeInputs) (s : Stimulus) (v : Setting) → Known lib → IsDirectory lib d → IsFound (ports_at lib s.instance) (Some x) → slot_of d x s v ≡ None
    → IsUnfit lib s v
slot_none lib d x s v known directory found none = unfit lib d x s v known directory found (sym (slot_some d x s v) ∙ ap is_some none)

-- ---- Rows

pub rows_none : (lib : Library) (ss : List Stimulus) (rows : List StimulusRow) → rows ≡ [] → AreRowsUpTo 0 lib ss rows
rows_none lib ss rows none =
    subst (λ (l : List StimulusRow). AreRowsUpTo 0 lib ss l) (sym none) (record { counted = refl; each = λ k s row h g. absurd (cc) })

-- one more stimulus
pub rows_more :
    (lib : Library) (ss : List Stimulus) (n : ℕ) (s : Stimulus) (all more : List StimulusRow) (row : StimulusRow) → n < length ss → s ≡ get_or ss n s
    → AreRowsUpTo n lib ss all → IsRow lib s row → more ≡ all ++ row ∷ [] → AreRowsUpTo (n + 1) lib ss more
rows_more lib ss n s all more row h e so_far is grown =
    let P : ℕ → StimulusRow → Type 0 = λ k x. (t : Stimulus) → slice_get ss k ≡ Some t → IsRow lib t x in
    let there = slice_get_read ss (length ss) n s refl h e in
    let here : P n row = λ t g. let same : s ≡ t = same_Some s t (sym there ∙ g) in subst (λ (u : Stimulus). IsRow lib u row) same is in
    subst (λ (l : List StimulusRow). AreRowsUpTo (n + 1) lib ss l) (sym grown) (record {
      counted = length-append all (row ∷ []) ∙ ap (λ m. m + 1) so_far.counted;
      each = λ k t x g l. slice_get-push P all row (λ k x l t g. so_far.each k t x g l) (subst (λ (m : ℕ). P m row) (sym so_far.counted) here) k x l t g;
    })

pub rows_all :
    (lib : Library) (ss : List Stimulus) (n : ℕ) (rows : List StimulusRow) → n ≤ length ss → length ss ≤ n → AreRowsUpTo n lib ss rows → AreRows lib ss rows
rows_all lib ss n rows within all is =
    let e : n ≡ length ss = omega (arith, within, all) in subst (λ (m : ℕ). AreRowsUpTo m lib ss rows) e is

-- ---- What is added for a stimulus

abbrev row_at : StimulusLocation → ℕ
row_at p = p.row

pub added_bad :
    (lib : Library) (ss : List Stimulus) (k : ℕ) (s : Stimulus) (made : Result StimulusRow StimulusFault) (rows more : List StimulusRow) (old new : List StimulusLocation)
    → slice_get ss k ≡ Some s → IsRowOr lib s made → IsAdded k made rows more old new → All (IsBadAt lib ss) old → All (IsBadAt lib ss) new
added_bad lib ss k s (Ok x) rows more old new at is added each = subst (λ (ps : List StimulusLocation). All (IsBadAt lib ss) ps) (sym added.1) each
added_bad lib ss k s (Err f) rows more old new at is added each =
    let P : StimulusLocation → Type 0 = IsBadAt lib ss in
    let here : StimulusLocation = record { row = k; fault = f } in
    subst (λ (ps : List StimulusLocation). All P ps) (sym added.1) (All-append P old (here ∷ []) each (All-cons P here [] (s, at, is) (All-nil P)))

pub added_all :
    (lib : Library) (ss : List Stimulus) (n : ℕ) (s : Stimulus) (made : Result StimulusRow StimulusFault) (rows more : List StimulusRow) (old new : List StimulusLocation)
    → Known lib → slice_get ss n ≡ Some s → IsRowOr lib s made → IsAdded n made rows more old new → AreAllBadUpTo n lib ss old → AreAllBadUpTo (n + 1) lib ss new
added_all lib ss n s (Ok x) rows more old new known at is added all = λ k t below found bad.
    subst (λ (ps : List StimulusLocation). Contains (map row_at ps) k) (sym added.1)
    (⊎_elim (λ (l : k < n). all k t l found bad)
    (λ (h : n ≤ k).
    let same : n ≡ k = omega arith in
    let there : Some s ≡ Some t = sym at ∙ ap (slice_get ss) same ∙ found in
    absurd (bad (subst (λ (u : Stimulus). IsGood lib u) (same_Some s t there) (good_from lib s known is.takes))))
    (cases_lt k n))
added_all lib ss n s (Err f) rows more old new known at is added all = λ k t below found bad.
    let here : StimulusLocation = record { row = n; fault = f } in
    subst (λ (ps : List StimulusLocation). Contains (map row_at ps) k) (sym added.1)
    (subst (λ (ks : List ℕ). Contains ks k) (sym (map-append row_at old (here ∷ [])))
    (⊎_elim (λ (l : k < n). Contains-append_left (map row_at old) (n ∷ []) k (all k t l found bad))
    (λ (h : n ≤ k).
    let same : n ≡ k = omega arith in
    Contains-append_right (map row_at old) (n ∷ []) k (subst (λ (j : ℕ). Contains (n ∷ []) j) same (Contains-here n [])))
    (cases_lt k n)))

pub all_of : (lib : Library) (ss : List Stimulus) (n : ℕ) (found : List StimulusLocation) → length ss ≤ n → AreAllBadUpTo n lib ss found → AreAllBad lib ss found
all_of lib ss n found end all = λ k t below at bad. all k t (omega (arith, end, below)) at bad

-- the rows so far, of stimuli of which none is refused
abbrev pub AreGoodUpTo : ℕ → Library → List Stimulus → List StimulusRow → Type 0
AreGoodUpTo n lib ss rows = (¬ (HasRefused lib (take n ss))) × AreRowsUpTo n lib ss rows

pub added_rows :
    (lib : Library) (ss : List Stimulus) (n : ℕ) (s : Stimulus) (made : Result StimulusRow StimulusFault) (rows more : List StimulusRow) (old new : List StimulusLocation)
    → n < length ss → s ≡ get_or ss n s → IsRowOr lib s made → IsAdded n made rows more old new → (old ≡ [] → AreGoodUpTo n lib ss rows) → new ≡ [] → AreGoodUpTo (n + 1) lib ss more
added_rows lib ss n s (Ok x) rows more old new within at is added before none =
    let so_far = before (sym added.1 ∙ none) in (
      refused_more lib ss n s within at so_far.0 is.takes,
      rows_more lib ss n s rows more x within at so_far.1 is.row added.0,
    )
added_rows lib ss n s (Err f) rows more old new within at is added before none =
    absurd (let no = none_right old (record { row = n; fault = f } ∷ []) (sym added.1 ∙ none) in cc)
