-- The port of the words of a line.
use Rattle.fb_inspect.proofs.lemmas.Common.{◌≡◌, ℕ, Bool, true, false, List, ◌∷◌, ◌++◌, codes, sym, ap, subst, ◌∙◌, append_assoc, event_at, path_at, ports_at, inputs_with, outputs_with, System, AreIndexes, Port}
use Rattle.fb_types.proofs.Common.{path_text}
use Rattle.fb_wave.specs.Lines.{port_side, port_variables}
use Rattle.fb_wave.specs.Ports.{BeginsWith, IsPortOf, holder_name, side}
use Rattle.fb_wave.specs.Words.{AreThree, three}
use Rattle.fb_wave.proofs.lemmas.Finding.{port_is_three}
use Rattle.fb_wave.proofs.lemmas.Gluing.{port_at}
use Rattle.fb_inspect.specs.refused.LineFaults.{path_and, path_event, sign_text}

-- words that are others
pub renamed : (text u v w rest x y : List ℕ) → v ≡ x → w ≡ y → AreThree text u v w rest → AreThree text u x y rest
renamed text u v w rest x y second third are =
    subst (λ (s : List ℕ). AreThree text u s y rest) second (subst (λ (p : List ℕ). AreThree text u v p rest) third are)

-- a path and a name after a full stop
pub path_is : (sys : System) (i : ℕ) (word path name : List ℕ) → word ≡ path ++ 46 ∷ name → path ≡ path_text (path_at sys i) → word ≡ path_and sys i name
path_is sys i word path name parts is = parts ∙ ap (λ (p : List ℕ). p ++ 46 ∷ name) is

dotted : (path name : List ℕ) → path ++ 46 ∷ name ≡ (path ++ codes ".") ++ name
dotted path name = sym (append_assoc path (codes ".") name)

-- a text with the words of a port begins with that of the port
pub begins_with :
    (sys : System) (p : Port) (text u v w rest : List ℕ) → IsPortOf sys p → AreThree text u v w rest → u ≡ holder_name sys p.instance → v ≡ sign_text p.taken → w ≡ path_event sys p
    → BeginsWith sys text p rest
begins_with sys p text u v w rest is are first second third =
    let n = event_at (side sys p.instance p.taken) p.event in
    record {
      port = is;
      ended = are.ended;
      parts =
          are.parts
          ∙ ap (λ (x : List ℕ). three x v w ++ rest) first
          ∙ ap (λ (x : List ℕ). three (holder_name sys p.instance) x w ++ rest) second
          ∙ ap (λ (x : List ℕ). three (holder_name sys p.instance) (sign_text p.taken) x ++ rest) (third ∙ dotted (path_text (path_at sys p.instance)) n)
          ∙ ap (λ (x : List ℕ). x ++ rest) (sym (port_is_three sys p));
    }

-- the variables WITH an event input, or with an event output
pub inputs_of :
    (sys : System) (i e : ℕ) (taken : Bool) (ks : List ℕ) → taken ≡ true
    → AreIndexes (ports_at sys (path_at sys i)).inputs (inputs_with (ports_at sys (path_at sys i)) (event_at (ports_at sys (path_at sys i)).event_inputs e)) ks
    → AreIndexes (port_side sys (port_at i e taken)) (port_variables sys (port_at i e taken)) ks
inputs_of sys i e true ks is are = are
inputs_of sys i e false ks is are = absurd (cc)

pub outputs_of :
    (sys : System) (i e : ℕ) (taken : Bool) (ks : List ℕ) → taken ≡ false
    → AreIndexes (ports_at sys (path_at sys i)).outputs (outputs_with (ports_at sys (path_at sys i)) (event_at (ports_at sys (path_at sys i)).event_outputs e)) ks
    → AreIndexes (port_side sys (port_at i e taken)) (port_variables sys (port_at i e taken)) ks
outputs_of sys i e true ks is are = absurd (cc)
outputs_of sys i e false ks is are = are
