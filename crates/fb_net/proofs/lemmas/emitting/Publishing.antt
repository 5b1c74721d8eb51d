-- Values that are published one after another.
use Rattle.fb_net.proofs.lemmas.Common.{◌≡◌, ℕ, ◌+◌, ◌<◌, Bool, true, false, cond, List, [], ◌∷◌, ◌++◌, map, take, zero, suc, length, get_or, refl, sym, ap, subst, ◌∙◌, arith, fun_ext, take_all, take_more, Bound, Inputs, system_of, Name, Path, same_path, with_value, pair_up, path_at, ports_at, World, with_block, with_values, System, Values, Value, variable_at, Changes, block_in, IsForest, Forest, outputs_at, outputs_shown}
use Rattle.fb_types.proofs.Common.{min, length-map, get_or-map}
use Rattle.fb_types.specs.States as model
use Rattle.fb_types.proofs.lemmas.names.PathLaws.{same_path_itself}
use Rattle.fb_types.proofs.lemmas.events.ReactionLaws.{kept_at}
use Rattle.fb_net.specs.Changes.{output_shown}

-- ---- Lists

with_values-push : (bs : List Bound) (b : Bound) (vars : Values) → with_values (bs ++ b ∷ []) vars ≡ with_value b.variable b.value (with_values bs vars)
with_values-push [] b vars = refl
with_values-push (a ∷ bs) b vars = with_values-push bs b (with_value a.variable a.value vars)

shown-push : (bs : List Bound) (b : Bound) (x : model.Block) → outputs_shown (bs ++ b ∷ []) x ≡ output_shown b.variable b.value (outputs_shown bs x)
shown-push bs b x = ap (λ (vs : Values). record x { published = vs }) (with_values-push bs b x.published)

length-pair_up : (ns : List Name) (vs : List Value) → length (pair_up ns vs) ≡ min (length ns) (length vs)
length-pair_up [] vs = omega arith
length-pair_up (n ∷ ns) [] = omega arith
length-pair_up (n ∷ ns) (v ∷ vs) = let rest = length-pair_up ns vs in omega arith

get_or-pair_up :
    (ns : List Name) (vs : List Value) (j : ℕ) (d : Bound) → j < length ns → j < length vs
    → get_or (pair_up ns vs) j d ≡ record { variable = get_or ns j d.variable; value = get_or vs j d.value }
get_or-pair_up [] vs j d h h' = absurd (omega arith)
get_or-pair_up (n ∷ ns) [] j d h h' = absurd (omega arith)
get_or-pair_up (n ∷ ns) (v ∷ vs) zero d h h' = refl
get_or-pair_up (n ∷ ns) (v ∷ vs) (suc j) d h h' = get_or-pair_up ns vs j d (omega arith) (omega arith)

-- the values of one turn more
take-outputs :
    (sys : System) (k j index : ℕ) (indexes : List ℕ) (values : List Value) (v : Value) → j < length indexes → j < length values → index ≡ get_or indexes j 0 → v ≡ get_or values j v
    → take (j + 1) (outputs_at sys k indexes values)
    ≡ take j (outputs_at sys k indexes values) ++ record { variable = variable_at (ports_at sys (path_at sys k)).outputs index; value = v } ∷ []
take-outputs sys k j index indexes values v h h' is value =
    let name = variable_at (ports_at sys (path_at sys k)).outputs in
    let ns = map name indexes in
    let long : length ns ≡ length indexes = length-map indexes name in
    let d : Bound = record { variable = name 0; value = v } in
    let counted = length-pair_up ns values in
    let named : get_or ns j (name 0) ≡ name index = get_or-map name indexes j 0 (name 0) h ∙ ap name (sym is) in
    let last : get_or (pair_up ns values) j d ≡ record { variable = name index; value = v } =
    get_or-pair_up ns values j d (omega arith) h' ∙ (λ i. record { variable = named i; value = sym value i }) in
    take_more (pair_up ns values) j d (omega arith) ∙ ap (λ (b : Bound). take j (pair_up ns values) ++ b ∷ []) last

pub all-outputs :
    (sys : System) (k j : ℕ) (indexes : List ℕ) (values : List Value) → j ≡ min (length indexes) (length values)
    → take j (outputs_at sys k indexes values) ≡ outputs_at sys k indexes values
all-outputs sys k j indexes values e =
    let name = variable_at (ports_at sys (path_at sys k)).outputs in
    let long : length (map name indexes) ≡ length indexes = length-map indexes name in
    let counted = length-pair_up (map name indexes) values in
    take_all j (outputs_at sys k indexes values) (omega arith)

-- ---- Worlds

-- a block that is put in its own place
pub same_again : (p : Path) (w : World) → with_block p (w.blocks p) w ≡ w
same_again p w = ap (λ (f : Path → model.Block). record w { blocks = f }) (fun_ext (kept_at (λ b. b) p (w.blocks p) w.blocks refl))

-- what is at a path where a block was put
pub put_there : (p : Path) (b : model.Block) (w : World) → (with_block p b w).blocks p ≡ b
put_there p b w = ap (λ t. cond t b (w.blocks p)) (same_path_itself p)

-- the last block that is put at a path stays
pub last_stays : (p : Path) (b c : model.Block) (w : World) → with_block p c (with_block p b w) ≡ with_block p c w
last_stays p b c w = ap (λ (f : Path → model.Block). record w { blocks = f }) (fun_ext (λ q. go (same_path q p) (w.blocks q)))
  where
    go : (t : Bool) (a : model.Block) → cond t c (cond t b a) ≡ cond t c a
    go true a = refl
    go false a = refl

-- ---- Changes

pub nothing_shown : (i : Inputs) (k : ℕ) (f : Forest) → Changes i f k (outputs_shown []) f
nothing_shown i k f = record {
  resource = refl;
  represents = λ w forest here. subst (λ (w : World). IsForest i f w) (sym (same_again (path_at (system_of i) k) w)) forest;
}

one_more :
    (i : Inputs) (k : ℕ) (f g h : Forest) (bs : List Bound) (b : Bound) → Changes i f k (outputs_shown bs) g → Changes i g k (output_shown b.variable b.value) h
    → Changes i f k (outputs_shown (bs ++ b ∷ [])) h
one_more i k f g h bs b first then = record {
  resource = then.resource ∙ first.resource;
  represents = λ w forest here.
      let p = path_at (system_of i) k in
      let x = outputs_shown bs (block_in i w k) in
      let after = then.represents (with_block p x w) (first.represents w forest here) (here ∙ sym first.resource) in
      let block : output_shown b.variable b.value (block_in i (with_block p x w) k) ≡ outputs_shown (bs ++ b ∷ []) (block_in i w k) =
      ap (output_shown b.variable b.value) (put_there p x w) ∙ sym (shown-push bs b (block_in i w k)) in
      subst (λ (w : World). IsForest i h w)
      (ap (λ (c : model.Block). with_block p c (with_block p x w)) block ∙ last_stays p x (outputs_shown (bs ++ b ∷ []) (block_in i w k)) w) after;
}

pub one_more_shown :
    (i : Inputs) (k : ℕ) (f g h : Forest) (j index : ℕ) (indexes : List ℕ) (values : List Value) (v : Value)
    → Changes i f k (outputs_shown (take j (outputs_at (system_of i) k indexes values))) g
    → j < length indexes → j < length values → index ≡ get_or indexes j 0 → v ≡ get_or values j v
    → Changes i g k (output_shown (variable_at (ports_at (system_of i) (path_at (system_of i) k)).outputs index) v) h
    → Changes i f k (outputs_shown (take (j + 1) (outputs_at (system_of i) k indexes values))) h
one_more_shown i k f g h j index indexes values v first lt lt' is value then =
    let sys = system_of i in
    subst (λ (bs : List Bound). Changes i f k (outputs_shown bs) h) (sym (take-outputs sys k j index indexes values v lt lt' is value))
    (one_more i k f g h (take j (outputs_at sys k indexes values)) (record { variable = variable_at (ports_at sys (path_at sys k)).outputs index; value = v }) first then)
