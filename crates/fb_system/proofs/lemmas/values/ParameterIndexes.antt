-- Parameters that are put at the indexes of the inputs that they set, one after another.
use Rattle.fb_types.proofs.Common.{◌≡◌, ℕ, zero, suc, ◌<◌, ◌+◌, List, [], ◌∷◌, ◌++◌, length, take, map, get_or, Option, Some, None, Contains, refl, sym, ◌∙◌, ap, subst, inl, inr, arith, slice_get, take_more, length-map, slice_get-get_or, slice_get_read, slice_get_within, Name, initial_of, named, variable_names, Twice, data_ins}
use Rattle.fb_types.specs.declared.library.Parameter.{Parameter}
use Rattle.fb_types.specs.declared.library.Ports.{Ports}
use Rattle.fb_types.specs.declared.library.Variable.{Variable}
use Rattle.fb_types.specs.declared.value.Value.{Value}
use Rattle.std.proofs.Math.ListN.{set}
use Rattle.fb_types.proofs.lemmas.lists.LoopSteps.{twice_of_part}
use Rattle.fb_types.proofs.lemmas.lists.Positions.{position_is, slice_get-Contains}
use Rattle.fb_types.proofs.lemmas.lists.Elements.{Contains-here, Contains-there}
use Rattle.fb_types.proofs.lemmas.lists.TwiceLaws.{Twice-push}
use Rattle.fb_check_names.specs.Numbers.{each_or_none, index_of}
use Rattle.fb_check_names.proofs.lemmas.Each.{each-length, each_at}
use Rattle.fb_system.specs.Begins.{begin_value, parameter_names}
use Rattle.fb_system.proofs.lemmas.lists.Named.{named_other, named_new}

abbrev name_of : Variable → Name
name_of v = v.name

abbrev called : Parameter → Name
called x = x.name

abbrev value_from : Variable → Option Parameter → Value
value_from v o = elim o as (λ _. Value) [ None ↦ initial_of v | Some x ↦ x.value ]

begin_new : (ps : List Parameter) (x : Parameter) (v : Variable) → ¬ (Contains (parameter_names ps) x.name) → x.name ≡ v.name → begin_value (ps ++ x ∷ []) v ≡ x.value
begin_new ps x v new same =
    ap (λ (n : Name). value_from v (named called n (ps ++ x ∷ []))) (sym same) ∙ ap (value_from v) (named_new called ps x new)

begin_old : (ps : List Parameter) (x : Parameter) (v : Variable) → ¬ (x.name ≡ v.name) → begin_value (ps ++ x ∷ []) v ≡ begin_value ps v
begin_old ps x v apart = ap (value_from v) (named_other called v.name ps x apart)

-- variables of which none has the parameter's name
all_old : (ps : List Parameter) (x : Parameter) (vs : List Variable) → ¬ (Contains (variable_names vs) x.name) → map (begin_value (ps ++ x ∷ [])) vs ≡ map (begin_value ps) vs
all_old ps x [] h = refl
all_old ps x (v ∷ vs) h =
    let head = begin_old ps x v (λ e. h (subst (λ (n : Name). Contains (v.name ∷ variable_names vs) n) (sym e) (Contains-here v.name (variable_names vs)))) in
    let tail = all_old ps x vs (λ c. h (Contains-there v.name (variable_names vs) x.name c)) in
    λ i. head i ∷ tail i

-- one more parameter, put at its index
put_at :
    (vs : List Variable) (ps : List Parameter) (x : Parameter) (k : ℕ) (v : Variable) → ¬ (Twice (variable_names vs)) → ¬ (Contains (parameter_names ps) x.name)
    → slice_get vs k ≡ Some v → v.name ≡ x.name → set (map (begin_value ps) vs) k x.value ≡ map (begin_value (ps ++ x ∷ [])) vs
put_at [] ps x k v once new at same = absurd (cc)
put_at (w ∷ ws) ps x zero v once new at same =
    let e : w ≡ v = cc in
    let name : x.name ≡ w.name = sym same ∙ ap name_of (sym e) in
    let head = begin_new ps x w new name in
    let tail = all_old ps x ws (λ c. once (inl (subst (λ (n : Name). Contains (variable_names ws) n) name c))) in
    λ i. sym head i ∷ sym tail i
put_at (w ∷ ws) ps x (suc k) v once new at same =
    let apart : ¬ (x.name ≡ w.name) = λ e.
    once (inl (subst (λ (n : Name). Contains (variable_names ws) n) (same ∙ e) (slice_get-Contains name_of ws k v at))) in
    let head = begin_old ps x w apart in
    let tail = put_at ws ps x k v (λ t. once (inr t)) new at same in
    λ i. sym head i ∷ tail i

-- Where the parameters have their indexes.
abbrev pub ArePlaced : Ports → List Parameter → List ℕ → Type 0
ArePlaced its ps ks = each_or_none (λ (x : Parameter). index_of (data_ins its) x.name) ps ≡ Some ks

pub index_within : (its : Ports) (ps : List Parameter) (ks : List ℕ) (i : ℕ) → ArePlaced its ps ks → i < length ps → i < length ks
index_within its ps ks i are h = let e = each-length (λ (x : Parameter). index_of (data_ins its) x.name) ps ks are in omega (arith, e, h)

-- the index of a parameter is that of an input
index_is :
    (its : Ports) (ps : List Parameter) (ks : List ℕ) (i k : ℕ) (x : Parameter) → ArePlaced its ps ks → i < length ps → x ≡ get_or ps i x → k ≡ get_or ks i 0
    → index_of (data_ins its) x.name ≡ Some k
index_is its ps ks i k x are h e g =
    let f = λ (x : Parameter). index_of (data_ins its) x.name in
    let at = each_at f ps ks i x are (slice_get_read ps (length ps) i x refl h e) in
    let there : slice_get ks i ≡ Some k = slice_get-get_or ks i 0 (index_within its ps ks i are h) ∙ ap (λ (n : ℕ). Some n) (sym g) in
    at.2 ∙ sym at.1 ∙ there

pub input_within :
    (its : Ports) (ps qs : List Parameter) (ks : List ℕ) (vs : List Value) (i k : ℕ) (x : Parameter) → ArePlaced its ps ks → i < length ps → x ≡ get_or ps i x
    → k ≡ get_or ks i 0 → vs ≡ map (begin_value qs) its.inputs → k < length vs
input_within its ps qs ks vs i k x are h e g so_far =
    let at = position_is name_of x.name its.inputs k (index_is its ps ks i k x are h e g) in
    let within : k < length its.inputs = slice_get_within its.inputs k at.0 at.1 in
    let counted : length vs ≡ length its.inputs = ap length so_far ∙ length-map its.inputs (begin_value qs) in
    omega (arith, within, counted)

-- one more parameter
pub values_more :
    (its : Ports) (ps : List Parameter) (ks : List ℕ) (vs ws : List Value) (i k : ℕ) (x : Parameter) → ArePlaced its ps ks → ¬ (Twice (variable_names its.inputs))
    → ¬ (Twice (parameter_names ps)) → i < length ps → x ≡ get_or ps i x → k ≡ get_or ks i 0 → vs ≡ map (begin_value (take i ps)) its.inputs
    → ws ≡ set vs k x.value → ws ≡ map (begin_value (take (i + 1) ps)) its.inputs
values_more its ps ks vs ws i k x are inputs once h e g so_far made =
    let at = position_is name_of x.name its.inputs k (index_is its ps ks i k x are h e g) in
    let new : ¬ (Contains (parameter_names (take i ps)) x.name) = λ c.
    once (twice_of_part called ps i x x.name h e refl (Twice-push (parameter_names (take i ps)) x.name c)) in
    made ∙ ap (λ (l : List Value). set l k x.value) so_far ∙ put_at its.inputs (take i ps) x k at.0 inputs new at.1 at.2
    ∙ ap (λ (qs : List Parameter). map (begin_value qs) its.inputs) (sym (take_more ps i x h ∙ ap (λ (y : Parameter). take i ps ++ y ∷ []) (sym e)))
