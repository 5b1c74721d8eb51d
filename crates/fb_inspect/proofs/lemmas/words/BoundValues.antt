-- The values of a line, as far as they were read.
use Rattle.fb_inspect.proofs.lemmas.Common.{◌≡◌, ℕ, ◌<◌, List, [], ◌∷◌, ◌++◌, length, get_or, sym, ap, subst, ◌∙◌, Option, Some, None, length-map, Name, pair_up, System, Variable, Value, AreIndexes, type_at, Port}
use Rattle.fb_types.proofs.Common.{MatchOption, values_text}
use Rattle.fb_types.specs.declared.value.Ty.{Ty}
use Rattle.fb_wave.specs.Lines.{AreValuesOf, port_side, port_variables}
use Rattle.fb_wave.specs.Reading.{AreRead, IsNoValue, IsUnbound, name_at}
use Rattle.fb_wave.proofs.lemmas.Valued.{AreSoFar, name_at-get_or, type_at-get_or}
use Rattle.fb_inspect.specs.refused.LineFaults.{HasFirst, IsPortValueFault, IsValueFault}
use Rattle.fb_inspect.specs.declared.refused.line_fault.ValueFault.{ValueFault}

pub has_first :
    (us : List Variable) (ks text : List ℕ) (i j : ℕ) (vs : List Value) (rest : List ℕ) → i ≡ j → AreSoFar us ks text i vs rest → HasFirst us ks text j rest
has_first us ks text i j vs rest same soFar =
    subst (λ (n : ℕ). HasFirst us ks text n rest) same (record { values = vs; counted = soFar.counted; typed = soFar.typed; parts = soFar.parts })

pub unbound_at :
    (us : List Variable) (k : ℕ) (d : Variable) (text : List ℕ) → k < length us → IsUnbound (get_or us k d).name (get_or us k d).ty text → IsUnbound (name_at us k) (type_at us k) text
unbound_at us k d text within none =
    subst (λ (n : Name). IsUnbound n (type_at us k) text) (sym (name_at-get_or us k d within))
    (subst (λ (t : Ty). IsUnbound (get_or us k d).name t text) (sym (type_at-get_or us k d within)) none)

-- the name and the type of the variable at an index
pub same_variable : (us : List Variable) (k : ℕ) (d : Variable) (bytes : List ℕ) → k < length us → bytes ≡ (get_or us k d).name → bytes ≡ name_at us k
same_variable us k d bytes within named = named ∙ sym (name_at-get_or us k d within)

pub no_value_at : (us : List Variable) (k : ℕ) (d : Variable) (text : List ℕ) → k < length us → IsNoValue (get_or us k d).ty text → IsNoValue (type_at us k) text
no_value_at us k d text within none = subst (λ (t : Ty). IsNoValue t text) (sym (type_at-get_or us k d within)) none

-- the values of the variables WITH a port are those of its lines
pub port_values :
    (sys : System) (p : Port) (ks text : List ℕ) (values : List Value) → AreIndexes (port_side sys p) (port_variables sys p) ks
    → AreRead (port_side sys p) ks text values → AreValuesOf sys p text values
port_values sys p ks text values stand are =
    record {
      indexes = ks;
      stand = stand;
      typed = are.typed;
      counted = are.counted ∙ sym (length-map ks (name_at (port_side sys p))) ∙ ap length stand.named;
      parts = are.parts ∙ ap (λ (ns : List Name). values_text (pair_up ns values) ++ 10 ∷ []) stand.named;
    }

-- what is wrong with the values of the variables WITH a port
pub port_fault :
    (sys : System) (p : Port) (us : List Variable) (ks text : List ℕ) (o : Option ValueFault) → us ≡ port_side sys p → AreIndexes (port_side sys p) (port_variables sys p) ks
    → MatchOption o ((values : List Value) × AreRead us ks text values) (IsValueFault us ks text)
    → MatchOption o ((values : List Value) × AreValuesOf sys p text values) (IsPortValueFault sys p text)
port_fault sys p us ks text None same stand are =
    (are.0, port_values sys p ks text are.0 stand (subst (λ (vs : List Variable). AreRead vs ks text are.0) same are.1))
port_fault sys p us ks text (Some f) same stand is = (ks, stand, subst (λ (vs : List Variable). IsValueFault vs ks text f) same is)
