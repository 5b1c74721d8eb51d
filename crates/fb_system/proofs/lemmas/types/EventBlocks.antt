-- The indexes of the variables WITH an event of an event block, one more variable at a time, and the entries of all
-- event blocks.
use Rattle.fb_types.proofs.Common.{◌≡◌, ℕ, ◌<◌, ◌+◌, Bool, true, false, cond, ◌&&◌, List, [], ◌∷◌, ◌++◌, length, take, get_or, Option, Some, refl, sym, ◌∙◌, ap, subst, length-append, append-nil, slice_get, unwrap_or, option_map, filter, list_any, map-append, All-push, slice_get-get_or, slice_get-map, slice_get_read, slice_get_within, same_Some, get_or_from_slice_get, Name, same_name, among, variable_names, variables_with, ports_of_event_block, kind_index, event_at}
use Rattle.fb_types.specs.declared.event_kind.EventKind.{EventKind}
use Rattle.fb_types.specs.declared.event_kind.EventKind.TheVariants.{Restart}
use Rattle.fb_types.specs.declared.library.EventPort.{EventPort}
use Rattle.fb_types.specs.declared.library.Variable.{Variable}
use Rattle.fb_types.specs.declared.library.Ports.{Ports}
use Rattle.std.proofs.lemmas.List.Elements.{filter-append}
use Rattle.fb_types.proofs.lemmas.events.AllKinds.{kinds, kind_stands}
use Rattle.fb_types.proofs.lemmas.lists.LoopSteps.{map_take_more}
use Rattle.fb_system.specs.declared.with_indexes.WithIndexes.{WithIndexes}
use Rattle.fb_system.specs.IndexLists.{AreIndexes, AreIndexesUpTo, AreIndexesOfEach, AreWithIndexes, variable_at}
use Rattle.fb_types.proofs.lemmas.lists.ByIndex.{slice_get-push, element_at}
use Rattle.fb_system.specs.Tables.{AreOfEventBlocks}

abbrev pub goes_with : List EventPort → Name → Name → Bool
goes_with events e v = list_any (λ p. same_name p.name e && among p.with v) events

with_more :
    (events : List EventPort) (vs : List Variable) (e : Name) (i : ℕ) (x : Variable) → i < length vs → x ≡ get_or vs i x
    → variables_with events (take (i + 1) vs) e ≡ variables_with events (take i vs) e ++ cond (goes_with events e x.name) (x.name ∷ []) []
with_more events vs e i x h is =
    ap (filter (goes_with events e)) (map_take_more (λ (v : Variable). v.name) vs i x h is)
    ∙ filter-append (goes_with events e) (variable_names (take i vs)) (x.name ∷ [])

variable_at_is : (vs : List Variable) (i : ℕ) (x : Variable) → i < length vs → x ≡ get_or vs i x → variable_at vs i ≡ x.name
variable_at_is vs i x h is =
    ap (λ (o : Option Name). unwrap_or o []) (slice_get-map (λ (v : Variable). v.name) vs i ∙ ap (option_map (λ (v : Variable). v.name)) (slice_get_read vs (length vs) i x refl h is))

pub indexes_skip :
    (events : List EventPort) (vs : List Variable) (e : Name) (i : ℕ) (x : Variable) (ks : List ℕ) → i < length vs → x ≡ get_or vs i x
    → goes_with events e x.name ≡ false → AreIndexes vs (variables_with events (take i vs) e) ks
    → AreIndexes vs (variables_with events (take (i + 1) vs) e) ks
indexes_skip events vs e i x ks h is apart are = record {
  named = are.named
      ∙ sym (with_more events vs e i x h is ∙ ap (λ b. variables_with events (take i vs) e ++ cond b (x.name ∷ []) []) apart ∙ append-nil (variables_with events (take i vs) e));
  within = are.within;
}

pub indexes_take :
    (events : List EventPort) (vs : List Variable) (e : Name) (i : ℕ) (x : Variable) (ks ls : List ℕ) → i < length vs → x ≡ get_or vs i x
    → goes_with events e x.name ≡ true → ls ≡ ks ++ i ∷ [] → AreIndexes vs (variables_with events (take i vs) e) ks
    → AreIndexes vs (variables_with events (take (i + 1) vs) e) ls
indexes_take events vs e i x ks ls h is with_it grown are =
    let P : List ℕ → Type 0 = λ ls. AreIndexes vs (variables_with events (take (i + 1) vs) e) ls in
    subst P (sym grown) (record {
      named = map-append (variable_at vs) ks (i ∷ [])
          ∙ ap (λ ns. ns ++ variable_at vs i ∷ []) are.named
          ∙ ap (λ n. variables_with events (take i vs) e ++ n ∷ []) (variable_at_is vs i x h is)
          ∙ sym (with_more events vs e i x h is ∙ ap (λ b. variables_with events (take i vs) e ++ cond b (x.name ∷ []) []) with_it);
      within = All-push (λ k. k < length vs) ks i are.within h;
    })

-- ---- Entries

event_at_is : (es : List EventPort) (i : ℕ) (x : EventPort) → i < length es → x ≡ get_or es i x → x.name ≡ event_at es i
event_at_is es i x h is =
    sym (ap (λ (o : Option Name). unwrap_or o []) (slice_get-map (λ (v : EventPort). v.name) es i ∙ ap (option_map (λ (v : EventPort). v.name)) (slice_get_read es (length es) i x refl h is)))

pub each_more :
    (events : List EventPort) (vs : List Variable) (i : ℕ) (x : EventPort) (all more : List (List ℕ)) (ks : List ℕ) → i < length events → x ≡ get_or events i x
    → AreIndexesUpTo i events vs all → AreIndexes vs (variables_with events vs x.name) ks → more ≡ all ++ ks ∷ [] → AreIndexesUpTo (i + 1) events vs more
each_more events vs i x all more ks h is so_far new grown =
    let P : ℕ → List ℕ → Type 0 = λ e ks. AreIndexes vs (variables_with events vs (event_at events e)) ks in
    let Q : List (List ℕ) → Type 0 = λ all. AreIndexesUpTo (i + 1) events vs all in
    let here : P (length all) ks =
    subst (λ (n : ℕ). P n ks) (sym so_far.counted) (subst (λ (n : Name). AreIndexes vs (variables_with events vs n) ks) (event_at_is events i x h is) new) in
    subst Q (sym grown) (record {
      counted = length-append all (ks ∷ []) ∙ ap (λ n. n + 1) so_far.counted;
      each = slice_get-push P all ks so_far.each here;
    })

pub with_indexes_are :
    (its : Ports) (x : WithIndexes) → AreIndexesOfEach its.event_inputs its.inputs x.inputs → AreIndexesOfEach its.event_outputs its.outputs x.outputs
    → AreWithIndexes its x
with_indexes_are its x ins outs = record { inputs_counted = ins.counted; inputs = ins.each; outputs_counted = outs.counted; outputs = outs.each }

-- the entries of the first kinds
pub record AreFirst (n : ℕ) (all : List WithIndexes) : Type 0 where
  pub counted : length all ≡ n
  pub each : (i : ℕ) (x : WithIndexes) → slice_get all i ≡ Some x → (k : EventKind) → slice_get kinds i ≡ Some k → AreWithIndexes (ports_of_event_block k) x

first_more :
    (n : ℕ) (all more : List WithIndexes) (x : WithIndexes) (k : EventKind) → slice_get kinds n ≡ Some k → AreWithIndexes (ports_of_event_block k) x
    → AreFirst n all → more ≡ all ++ x ∷ [] → AreFirst (n + 1) more
first_more n all more x k stands is so_far grown =
    let P : ℕ → WithIndexes → Type 0 = λ i x. (k : EventKind) → slice_get kinds i ≡ Some k → AreWithIndexes (ports_of_event_block k) x in
    let Q : List WithIndexes → Type 0 = λ all. AreFirst (n + 1) all in
    let here : P n x = λ j h. let same : k ≡ j = same_Some k j (sym stands ∙ h) in subst (λ (k : EventKind). AreWithIndexes (ports_of_event_block k) x) same is in
    subst Q (sym grown) (record {
      counted = length-append all (x ∷ []) ∙ ap (λ n. n + 1) so_far.counted;
      each = slice_get-push P all x so_far.each (subst (λ (n : ℕ). P n x) (sym so_far.counted) here);
    })

pub first_next :
    (n : ℕ) (all more : List WithIndexes) (x : WithIndexes) → n < 14 → AreWithIndexes (ports_of_event_block (get_or kinds n Restart)) x
    → AreFirst n all → more ≡ all ++ x ∷ [] → AreFirst (n + 1) more
first_next n all more x h is so_far grown =
    first_more n all more x (get_or kinds n Restart) (slice_get-get_or kinds n Restart h) is so_far grown

pub first_all : (all : List WithIndexes) → AreFirst 14 all → AreOfEventBlocks all
first_all all are k =
    let within : kind_index k < length all = rw are.counted (slice_get_within kinds (kind_index k) k (kind_stands k)) in
    let x = element_at all (kind_index k) within in
    (x.0, x.1, are.each (kind_index k) x.0 x.1 k (kind_stands k))

pub entry_within : (all : List WithIndexes) (k : EventKind) (i : ℕ) → AreOfEventBlocks all → i ≡ kind_index k → i < length all
entry_within all k i are e =
    let x = are k in subst (λ (n : ℕ). n < length all) (sym e) (slice_get_within all (kind_index k) x.0 x.1)

pub entry_stands : (all : List WithIndexes) (k : EventKind) (i : ℕ) (d : WithIndexes) → AreOfEventBlocks all → i ≡ kind_index k → AreWithIndexes (ports_of_event_block k) (get_or all i d)
entry_stands all k i d are e =
    let x = are k in
    subst (λ (n : ℕ). AreWithIndexes (ports_of_event_block k) (get_or all n d)) (sym e)
    (subst (λ (y : WithIndexes). AreWithIndexes (ports_of_event_block k) y) (sym (get_or_from_slice_get all (kind_index k) x.0 d x.1)) x.2)
