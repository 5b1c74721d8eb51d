-- Where a chart is after a part of a reaction, and what holds of the last call of a function.
use Rattle.fb_inspect.proofs.lemmas.Common.{◌≡◌, ◌<◌, get_or, length, ℕ, List, [], Option, Some, None, Result, Ok, Err, refl, sym, ◌∙◌, ap, subst, IfOk, IfSome, OnErr, OnOk, option_map, slice_get, Inputs, Name, BasicType, state_at, PortTable, ChartMarks}
use Rattle.fb_types.proofs.Common.{IsSome, get_or_from_slice_get}
use Rattle.fb_types.proofs.lemmas.lists.ByIndex.{element_at}
use Rattle.fb_st.specs.declared.frame.Slot.{Slot}
use Rattle.fb_ecc.specs.Indexes.{index}
use Rattle.fb_inspect.specs.Markings.{with_lost_if}
use Rattle.fb_inspect.specs.walk.Notes.{lost_if}

-- steps were used
pub moved_at : (t : BasicType) (i j : ℕ) (f g : List Slot) (left k : ℕ) → j ≡ i → g ≡ f → index t j g k [] ≡ record (index t i f left []) { left = k }
moved_at t i j f g left k same frame = ap (λ (n : ℕ). index t n g k []) same ∙ ap (λ (s : List Slot). index t i s k []) frame

-- another state was entered
pub entered_at :
    (t : BasicType) (i j : ℕ) (f g : List Slot) (left k : ℕ) (target : Name) → state_at t j ≡ target → g ≡ f
    → index t j g k [] ≡ record (index t i f left []) { state = target; left = k }
entered_at t i j f g left k target entered frame =
    ap (λ (s : List Slot). index t j s k []) frame ∙ ap (λ (n : Name). record (index t i f left []) { state = n; left = k }) entered

-- an event is lost, by its index or by its name
pub lost_any : {A B : Type 0} (o : Option A) (f : A → B) (s : Name) → lost_if o s ≡ lost_if (option_map f o) s
lost_any None f s = refl
lost_any (Some x) f s = refl

pub marks_any : {A B : Type 0} (o : Option A) (f : A → B) (m : ChartMarks) → with_lost_if o m ≡ with_lost_if (option_map f o) m
marks_any None f m = refl
marks_any (Some x) f m = refl

-- something more holds of what a call answers
pub ok_then : {A E : Type 0} (r : Result A E) (P Q : A → Type 0) → IfOk r P → ((x : A) → P x → Q x) → IfOk r Q
ok_then (Ok x) P Q h f = f x h
ok_then (Err e) P Q h f = tt

pub ok_on : {A E : Type 0} (r : Result A E) (P : A → Type 0) (Q : Type 0) → IfOk r P → ((x : A) → P x → Q) → OnOk r Q
ok_on (Ok x) P Q h f = f x h
ok_on (Err e) P Q h f = tt

-- where a call fails
pub err_then : {A E : Type 0} (r : Result A E) (P Q : Type 0) → OnErr r P → (P → Q) → OnErr r Q
err_then (Ok x) P Q h f = tt
err_then (Err e) P Q h f = f h

pub err_any : {A E : Type 0} (r : Result A E) (P : Type 0) → P → OnErr r P
err_any (Ok x) P p = tt
err_any (Err e) P p = p

pub on_both : {A E : Type 0} (r : Result A E) (P Q R : Type 0) → OnOk r P → OnOk r Q → (P → Q → R) → OnOk r R
on_both (Ok x) P Q R h k f = f h k
on_both (Err e) P Q R h k f = tt

-- an element of a list, by what it is or else it
pub item_is : {A : Type 0} (xs : List A) (i : ℕ) (x : A) → i < length xs → x ≡ get_or xs i x → slice_get xs i ≡ Some x
item_is xs i x within is =
    let one = element_at xs i within in
    one.1 ∙ ap Some (sym (is ∙ get_or_from_slice_get xs i one.0 x one.1))

-- the table of a system
pub of_table : (o : Option PortTable) (t : PortTable) (s : Inputs) → o ≡ Some t → IfSome o (λ t. t.system.now ≡ s) → t.system.now ≡ s
of_table o t s is are = subst (λ (o : Option PortTable). IfSome o (λ t. t.system.now ≡ s)) is are

pub no_table : (o : Option PortTable) → o ≡ None → IsSome o → ⊥
no_table None none some = absurd cc
no_table (Some t) none some = absurd cc
