-- Values that are read at indexes, one after another.
use Rattle.fb_net.proofs.lemmas.Common.{◌≡◌, ℕ, ◌+◌, ◌<◌, ◌≤◌, List, [], ◌∷◌, ◌++◌, length, get_or, map, take, refl, sym, ◌∙◌, ap, length-append, map-append, take_all, take_more, Inputs, system_of, Name, World, sampled_from, path_at, ports_at, Variable, Target, Value, AreIndexes, variable_at, InForest, IsForest, Forest}
use Rattle.fb_types.proofs.Common.{from_inside}
use Rattle.fb_system.specs.Ports.{data_input, data_output}
use Rattle.fb_net.specs.Samples.{AreShown, names_out}

-- The values are what is read at the first of some indexes, in each world that a forest represents.
pub record AreReadUpTo (i : Inputs) (f : Forest) (k : ℕ) (at_index : World → ℕ → Value) (n : ℕ) (indexes : List ℕ) (values : List Value) : Type 0 where
  pub counted : length values ≡ n
  pub read : (w : World) → IsForest i f w → InForest i f k → values ≡ map (at_index w) (take n indexes)

-- what is read at one index more is among the values too
pub read_more : (i : Inputs) (f : Forest) (k : ℕ) (at_index : World → ℕ → Value) (n : ℕ) (indexes : List ℕ) (values new : List Value) (value : Value) → AreReadUpTo i f k at_index n indexes values
    → n < length indexes → new ≡ values ++ value ∷ [] → ((w : World) → IsForest i f w → InForest i f k → value ≡ at_index w (get_or indexes n 0)) → AreReadUpTo i f k at_index (n + 1) indexes new
read_more i f k at_index n indexes values new value before within is reads = record {
  counted = ap length is ∙ length-append values (value ∷ []) ∙ ap (λ m. m + 1) before.counted;
  read = λ w h lies.
      is
      ∙ ap (λ (vs : List Value). vs ++ value ∷ []) (before.read w h lies)
      ∙ ap (λ (v : Value). map (at_index w) (take n indexes) ++ v ∷ []) (reads w h lies)
      ∙ sym (ap (map (at_index w)) (take_more indexes n 0 within) ∙ map-append (at_index w) (take n indexes) (get_or indexes n 0 ∷ []));
}

-- what the data input at an index samples
abbrev pub sampled_at : Inputs → Forest → (instance : ℕ) → World → ℕ → Value
sampled_at i f k w index = sampled_from (system_of i) f.resource w (data_input (system_of i) k index)

-- what the data output at an index of a composite shows from inside
abbrev pub shown_at : Inputs → Forest → (instance : ℕ) → World → ℕ → Value
shown_at i f k w index =
    let q = data_output (system_of i) k index in from_inside (system_of i) f.resource w q.at q.name

map-twice : {A B C : Type 0} (g : B → C) (f : A → B) (xs : List A) → map (λ x. g (f x)) xs ≡ map g (map f xs)
map-twice g f [] = refl
map-twice g f (x ∷ xs) = ap (λ l. g (f x) ∷ l) (map-twice g f xs)

-- the values at indexes that represent names
pub read_all : {i : Inputs} {f : Forest} {k : ℕ} (vs : List Variable) (names : List Name) (of_name : World → Name → Value) (n : ℕ) (indexes : List ℕ) (values : List Value)
    → AreReadUpTo i f k (λ w index. of_name w (variable_at vs index)) n indexes values → length indexes ≤ n → AreIndexes vs names indexes
    → (w : World) → IsForest i f w → InForest i f k → values ≡ map (of_name w) names
read_all vs names of_name n indexes values values_read past stand w h lies =
    values_read.read w h lies
    ∙ ap (map (λ index. of_name w (variable_at vs index))) (take_all n indexes past)
    ∙ map-twice (of_name w) (variable_at vs) indexes
    ∙ ap (map (of_name w)) stand.named

-- no variable WITH the event, and one
pub none-shown : (i : Inputs) (f : Forest) (at : Target) (values : List Value)
    → AreIndexes (ports_at (system_of i) (path_at (system_of i) at.instance)).outputs (names_out (system_of i) at) [] → values ≡ [] → AreShown i f at values
none-shown i f at values stand empty w h lies =
    empty ∙ ap (map (from_inside (system_of i) f.resource w (path_at (system_of i) at.instance))) stand.named

pub one-shown : (i : Inputs) (f : Forest) (at : Target) (index : ℕ) (value : Value) (values : List Value)
    → AreIndexes (ports_at (system_of i) (path_at (system_of i) at.instance)).outputs (names_out (system_of i) at) (index ∷ [])
    → ((w : World) → IsForest i f w → InForest i f at.instance → value ≡ shown_at i f at.instance w index)
    → values ≡ value ∷ [] → AreShown i f at values
one-shown i f at index value values stand shown is w h lies =
    is
    ∙ ap (λ (v : Value). v ∷ []) (shown w h lies)
    ∙ ap (map (from_inside (system_of i) f.resource w (path_at (system_of i) at.instance))) stand.named
