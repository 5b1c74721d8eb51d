-- Changes of one instance, and held copies, one after another.
use Rattle.fb_net.proofs.lemmas.Common.{◌≡◌, ℕ, ◌+◌, ◌<◌, Bool, true, false, cond, List, [], ◌∷◌, ◌++◌, length, get_or, map, take, refl, sym, ◌∙◌, ap, subst, arith, fun_ext, take_more, map-append, Bound, Inputs, system_of, Name, Path, Port, same_path, path_at, carried_of, pair_up, World, with_block, with_values, System, Variable, Carried, Value, InputValue, InstanceVariable, AreIndexes, variable_at, Changes, block_in, with_instance, IsForest, Forest, HoldsAll, all_sampled}
use Rattle.fb_types.proofs.Common.{Bor, hold_all}
use Rattle.std.specs.List.{zip}
use Rattle.fb_types.specs.Reactions.{with_held}
use Rattle.fb_types.specs.States as model
use Rattle.fb_types.proofs.lemmas.names.PathLaws.{same_path_is, same_path_itself}
use Rattle.fb_system.specs.Stimuli.{set_of}
use Rattle.fb_net.specs.Changes.{Holds, input_sampled, slot_set}
use Rattle.fb_net.specs.Samples.{slots_set}

-- ---- Worlds with another block

-- the later of two choices at one index is kept
chosen_twice : {A : Type 0} (b : Bool) (x y z : A) → cond b x (cond b y z) ≡ cond b x z
chosen_twice true x y z = refl
chosen_twice false x y z = refl

chosen_itself : (b : Bool) (blocks : Path → model.Block) (p q : Path) → (b ≡ true → q ≡ p) → cond b (blocks p) (blocks q) ≡ blocks q
chosen_itself true blocks p q is = ap blocks (sym (is refl))
chosen_itself false blocks p q is = refl

with_block-here : (p : Path) (b : model.Block) (w : World) → (with_block p b w).blocks p ≡ b
with_block-here p b w = rw (same_path_itself p) refl

with_block-twice : (p : Path) (b c : model.Block) (w : World) → with_block p c (with_block p b w) ≡ with_block p c w
with_block-twice p b c w =
    ap (λ (blocks : Path → model.Block). record w { blocks = blocks }) (fun_ext (λ q. chosen_twice (same_path q p) c b (w.blocks q)))

with_block-itself : (p : Path) (w : World) → with_block p (w.blocks p) w ≡ w
with_block-itself p w =
    ap (λ (blocks : Path → model.Block). record w { blocks = blocks }) (fun_ext (λ q. chosen_itself (same_path q p) w.blocks p q (same_path_is q p)))

-- what is made of a block that was put there
with_block-next : (p : Path) (b : model.Block) (g : model.Block → model.Block) (w : World)
    → with_block p (g ((with_block p b w).blocks p)) (with_block p b w) ≡ with_block p (g b) w
with_block-next p b g w =
    ap (λ (x : model.Block). with_block p (g x) (with_block p b w)) (with_block-here p b w) ∙ with_block-twice p b (g b) w

-- ---- Changes of one instance

-- a forest that stays as it is
pub changes_none : (i : Inputs) (a : Forest) (k : ℕ) → Changes i a k (λ b. b) a
changes_none i a k = record {
  resource = refl;
  represents = λ w h lies. subst (λ (x : World). IsForest i a x) (sym (with_block-itself (path_at (system_of i) k) w)) h;
}

-- two changes of one instance, one after the other
pub changes_twice : {i : Inputs} {a b c : Forest} {k : ℕ} {f g : model.Block → model.Block}
    → Changes i a k f b → Changes i b k g c → Changes i a k (λ m. g (f m)) c
changes_twice {i} {a} {b} {c} {k} {f} {g} first second = record {
  resource = second.resource ∙ first.resource;
  represents = λ w h lies.
      subst (λ (x : World). IsForest i c x) (with_block-next (path_at (system_of i) k) (f (block_in i w k)) g w)
      (second.represents (with_instance i k (f (block_in i w k)) w) (first.represents w h lies) (lies ∙ sym first.resource));
}

-- what each element of a list makes of a block, one after another
abbrev pub one_by_one : {X : Type 0} → (X → model.Block → model.Block) → List X → model.Block → model.Block
one_by_one change [] b = b
one_by_one change (x ∷ xs) b = one_by_one change xs (change x b)

one_by_one-push : {X : Type 0} (change : X → model.Block → model.Block) (xs : List X) (x : X) (b : model.Block)
    → one_by_one change (xs ++ x ∷ []) b ≡ change x (one_by_one change xs b)
one_by_one-push change [] x b = refl
one_by_one-push change (y ∷ ys) x b = one_by_one-push change ys x (change y b)

-- the change by one more element
pub changes_push : {X : Type 0} {i : Inputs} {a b c : Forest} {k : ℕ} (change : X → model.Block → model.Block) (xs : List X) (x : X)
    → Changes i a k (one_by_one change xs) b → Changes i b k (change x) c → Changes i a k (one_by_one change (xs ++ x ∷ [])) c
changes_push {X} {i} {a} {b} {c} {k} change xs x before next =
    subst (λ (f : model.Block → model.Block). Changes i a k f c) (sym (fun_ext (one_by_one-push change xs x))) (changes_twice before next)

-- the change by the next element of a list, after those before it
pub changes_more : {X : Type 0} {i : Inputs} {a b c : Forest} {k : ℕ} (change : X → model.Block → model.Block) (xs : List X) (n : ℕ) (d : X)
    → Changes i a k (one_by_one change (take n xs)) b → n < length xs → Changes i b k (change (get_or xs n d)) c
    → Changes i a k (one_by_one change (take (n + 1) xs)) c
changes_more {X} {i} {a} {b} {c} {k} change xs n d before within next =
    subst (λ (l : List X). Changes i a k (one_by_one change l) c) (sym (take_more xs n d within)) (changes_push change (take n xs) (get_or xs n d) before next)

-- the same change, in other words
pub changes_as : {i : Inputs} {a b : Forest} {k : ℕ} {f : model.Block → model.Block} (g : model.Block → model.Block)
    → Changes i a k f b → ((m : model.Block) → f m ≡ g m) → Changes i a k g b
changes_as {i} {a} {b} {k} g changes is = subst (λ (f : model.Block → model.Block). Changes i a k f b) (fun_ext is) changes

-- ---- The result of the changes

-- a value for a variable
abbrev pub variable_sampled : Bound → model.Block → model.Block
variable_sampled x = input_sampled x.variable x.value

abbrev pub value_set : System → (instance : ℕ) → InputValue → model.Block → model.Block
value_set sys k x = slot_set (set_of sys k x).variable x.value

-- the variable at an index, with a value
abbrev pub bound_at : List Variable → ℕ × Value → Bound
bound_at vs x = record { variable = variable_at vs x.0; value = x.1 }

pub bounds-zip : (vs : List Variable) (indexes : List ℕ) (values : List Value)
    → map (bound_at vs) (zip indexes values) ≡ pair_up (map (variable_at vs) indexes) values
bounds-zip vs [] values = refl
bounds-zip vs (k ∷ ks) [] = refl
bounds-zip vs (k ∷ ks) (x ∷ xs) = ap (λ (bs : List Bound). bound_at vs (k, x) ∷ bs) (bounds-zip vs ks xs)

-- an index and a value that are lent
abbrev pub lent : Bor ℕ × Bor Value → ℕ × Value
lent y = (y.0.now, y.1.now)

abbrev pub lent_bounds : List Variable → List (Bor ℕ × Bor Value) → List Bound
lent_bounds vs ys = map (λ y. bound_at vs (lent y)) ys

bounds-lent : (vs : List Variable) (ys : List (Bor ℕ × Bor Value)) → lent_bounds vs ys ≡ map (bound_at vs) (map lent ys)
bounds-lent vs [] = refl
bounds-lent vs (y ∷ ys) = ap (λ (bs : List Bound). bound_at vs (lent y) ∷ bs) (bounds-lent vs ys)

pub one_by_one-sampled : (bs : List Bound) (b : model.Block) → one_by_one variable_sampled bs b ≡ record b { variables = with_values bs b.variables }
one_by_one-sampled [] b = refl
one_by_one-sampled (x ∷ xs) b = one_by_one-sampled xs (variable_sampled x b)

nothing_sampled : (names : List Name) (b : model.Block) → all_sampled names [] b ≡ b
nothing_sampled [] b = refl
nothing_sampled (n ∷ ns) b = refl

-- no values: nothing has changed
pub samples_none : (i : Inputs) (a : Forest) (k : ℕ) (names : List Name) (values : List Value) → length values ≡ 0 → Changes i a k (all_sampled names values) a
samples_none i a k names [] none = changes_as (all_sampled names []) (changes_none i a k) (λ m. sym (nothing_sampled names m))
samples_none i a k names (v ∷ vs) none = absurd (omega arith)

-- one more value, with its index
pub samples_push : {i : Inputs} {a b c : Forest} {k : ℕ} (vs : List Variable) (ys : List (Bor ℕ × Bor Value)) (y : Bor ℕ × Bor Value)
    → Changes i a k (one_by_one variable_sampled (lent_bounds vs ys)) b → Changes i b k (variable_sampled (bound_at vs (lent y))) c
    → Changes i a k (one_by_one variable_sampled (lent_bounds vs (ys ++ y ∷ []))) c
samples_push {i} {a} {b} {c} {k} vs ys y before next =
    subst (λ (bs : List Bound). Changes i a k (one_by_one variable_sampled bs) c)
    (sym (map-append (λ (x : Bor ℕ × Bor Value). bound_at vs (lent x)) ys (y ∷ [])))
    (changes_push variable_sampled (lent_bounds vs ys) (bound_at vs (lent y)) before next)

-- all values, with their indexes
pub samples_all : {i : Inputs} {a b : Forest} {k : ℕ} (vs : List Variable) (names : List Name) (indexes : List ℕ) (values : List Value) (ys : List (Bor ℕ × Bor Value))
    → Changes i a k (one_by_one variable_sampled (lent_bounds vs ys)) b → map lent ys ≡ zip indexes values → AreIndexes vs names indexes
    → Changes i a k (all_sampled names values) b
samples_all vs names indexes values ys changes all stand =
    let bounds : lent_bounds vs ys ≡ pair_up names values =
    bounds-lent vs ys ∙ ap (map (bound_at vs)) all ∙ bounds-zip vs indexes values ∙ ap (λ (ns : List Name). pair_up ns values) stand.named in
    changes_as (all_sampled names values) changes
    (λ m. ap (λ (bs : List Bound). one_by_one variable_sampled bs m) bounds ∙ one_by_one-sampled (pair_up names values) m)

pub one_by_one-set : (sys : System) (k : ℕ) (sets : List InputValue) (b : model.Block) → one_by_one (value_set sys k) sets b ≡ slots_set sys k sets b
one_by_one-set sys k [] b = refl
one_by_one-set sys k (x ∷ xs) b = one_by_one-set sys k xs (value_set sys k x b)

-- ---- Held copies

hold_all-push : (cs : List (Port × Value)) (q : Port) (v : Value) (held : Port → Value)
    → hold_all (cs ++ (q, v) ∷ []) held ≡ with_held q v (hold_all cs held)
hold_all-push [] q v held = refl
hold_all-push (c ∷ cs) q v held = hold_all-push cs q v (with_held c.0 c.1 held)

pub holds_none : (i : Inputs) (a : Forest) → HoldsAll i a [] a
holds_none i a = record { resource = refl; represents = λ w h. h }

-- the variable that a value is carried for
abbrev pub index_of : Carried → InstanceVariable
index_of x = record { instance = x.instance; variable = x.variable; is_output = true }

-- the next value of a message, after those before it
pub holds_more : {i : Inputs} {a b c : Forest} (cs : List Carried) (n : ℕ) (d : Carried)
    → HoldsAll i a (take n cs) b → n < length cs → Holds i b (index_of (get_or cs n d)) (get_or cs n d).value c
    → HoldsAll i a (take (n + 1) cs) c
holds_more {i} {a} {b} {c} cs n d before within next =
    let held_of = carried_of (system_of i) in
    let x = get_or cs n d in
    let mapped : map held_of (take (n + 1) cs) ≡ map held_of (take n cs) ++ held_of x ∷ [] =
    ap (map held_of) (take_more cs n d within) ∙ map-append held_of (take n cs) (x ∷ []) in
    record {
      resource = next.resource ∙ before.resource;
      represents = λ w h.
          let late : Port → Value = hold_all (map held_of (take n cs)) w.held in
          let e : with_held (held_of x).0 (held_of x).1 late ≡ hold_all (map held_of (take (n + 1) cs)) w.held =
          sym (ap (λ (l : List (Port × Value)). hold_all l w.held) mapped ∙ hold_all-push (map held_of (take n cs)) (held_of x).0 (held_of x).1 w.held) in
          subst (λ (held : Port → Value). IsForest i c (record w { held = held })) e
          (next.represents (record w { held = late }) (before.represents w h));
    }

-- the single value of a message
pub holds_one : {i : Inputs} {a c : Forest} (d : Carried) → Holds i a (index_of d) d.value c → HoldsAll i a (d ∷ []) c
holds_one {i} {a} {c} d next = holds_more (d ∷ []) 0 d (holds_none i a) (omega arith) next
