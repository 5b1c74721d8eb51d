use Rattle.fb_types.proofs.Common.{◌≡◌, ℕ, zero, suc, ◌<◌, List, [], ◌∷◌, length, map, get_or, sym, ap, ◌∙◌, arith, variable_names, Name}
use Rattle.fb_types.specs.declared.library.Variable.{Variable}
use Rattle.fb_types.specs.declared.value.Value.{Value}
use Rattle.fb_wave.specs.Scopes.{carried_declarations, variable_begun, variable_declarations}
use Rattle.fb_wave.proofs.lemmas.Declaring.{variables_go}
use Rattle.fb_wave.proofs.lemmas.Listing.{going_on, gone_all}
use Rattle.fb_wave.proofs.begun.put_values.Goals as goal

-- the value at an index is that of the variable there
value_at :
    (initial : Name → Value) (vs : List Variable) (i : ℕ) (v : Variable) (d : Value) → i < length vs → v ≡ get_or vs i v
    → get_or (map initial (variable_names vs)) i d ≡ initial v.name
value_at initial [] i v d within is = absurd (omega arith)
value_at initial (w ∷ vs) zero v d within is = ap (λ (u : Variable). initial u.name) (sym is)
value_at initial (w ∷ vs) (suc i) v d within is = value_at initial vs i v d (omega arith) is

value_of :
    (initial : Name → Value) (vs : List Variable) (values : List Value) (i : ℕ) (v : Variable) (d : Value) → values ≡ map initial (variable_names vs) → i < length vs
    → v ≡ get_or vs i v → get_or values i d ≡ initial v.name
value_of initial vs values i v d are within is = ap (λ (l : List Value). get_or l i d) are ∙ value_at initial vs i v d within is

pub loop-index-preserved : goal.loop-index-preserved
loop-index-preserved c =
    let events = c.args.events.now in
    let vs = c.args.variables.now in
    let i = c.loop-index.index in
    record {
      number = omega (arith, c.loop-index.invariant.number);
      text = λ initial are.
          going_on (variable_declarations (variable_begun initial) events) (carried_declarations (variable_begun initial) events) c.args.text.now.items c.loop-index.text.items
          c.put_carried.new.text.items c.args.first c.loop-index.signal i vs c.index-variables-index.result (variables_go (variable_begun initial) events) c.loop-index-test.true
          c.index-variables-index.is
          (c.in_ok-put_carried.ensures initial
          (value_of initial vs c.args.values.now i c.index-variables-index.result _ are c.loop-index-test.true c.index-variables-index.is))
          (c.loop-index.invariant.text initial are);
    }

pub returns : goal.returns
returns c initial are =
    gone_all (variable_declarations (variable_begun initial) c.args.events.now) (carried_declarations (variable_begun initial) c.args.events.now) c.args.text.now.items
    c.loop-index.text.items c.args.first c.loop-index.signal c.loop-index.index c.args.variables.now (variables_go (variable_begun initial) c.args.events.now)
    (omega (arith, c.loop-index-test.false)) (c.loop-index.invariant.text initial are)
