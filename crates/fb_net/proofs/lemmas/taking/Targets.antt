-- Where an event goes from a port, target after target.
use Rattle.fb_net.proofs.lemmas.Common.{◌≡◌, ℕ, ◌+◌, ◌<◌, ◌≤◌, ◌≢◌, ◌==◌, Bool, true, false, List, [], ◌∷◌, ◌++◌, map, take, length, get_or, Option, Some, None, refl, sym, ap, subst, ◌∙◌, inl, inr, append_assoc, arith, All, if◌then◌else◌, option_map, slice_get, nat_tests, append-nil, length-append, map-append, take_all, take_more, slice_get-get_or, slice_get_within, Port, carried_of, path_at, port_of, spread, System, Carried, Value, IsOut, out_of, Out}
use Rattle.fb_types.proofs.Common.{false≢true, not, ◌↔◌, IsTrue, cases_lt, All-push, get_or_from_slice_get}
use Rattle.fb_types.specs.Reactions as reactions
use Rattle.fb_system.specs.declared.next_target.NextTarget.{NextTarget}
use Rattle.fb_system.specs.Ports.{AreTogether, IsCarried, IsTarget, link_of}
use Rattle.fb_net.specs.Emitting.{GoesTo, PutsOut, message_to, out_at, out_to}
use Rattle.fb_net.specs.declared.outbox.Out.TheVariants.{Local}
use Rattle.fb_net.proofs.lemmas.emitting.PortRows.{path-of_port}

-- ---- One target

-- a local event where the target is in the same resource, and else a message
pub kept_to : (n : NextTarget) (vs : List Carried) → n.here ≡ true → out_to n vs ≡ Local n.target
kept_to n vs e = ap (λ b. if b then Local n.target else message_to n vs) e

pub sent_to : (n : NextTarget) (vs : List Carried) → n.here ≡ false → out_to n vs ≡ message_to n vs
sent_to n vs e = ap (λ b. if b then Local n.target else message_to n vs) e

-- What is put out by the row of a target goes out to it.
pub puts_out :
    (sys : System) (from : ℕ) (n : NextTarget) (vs : List Carried) (before outs : List Out) → IsTarget sys n.target → IsTrue n.here ↔ AreTogether sys n.target.instance from
    → n.link ≡ link_of sys from n.target.instance → All (IsCarried sys) vs → outs ≡ before ++ out_to n vs ∷ []
    → PutsOut sys (sys.resource (path_at sys from)) (map (carried_of sys) vs) (port_of sys n.target) before outs
puts_out sys from n vs before outs target here link each is = (out_to n vs, by n.here refl, is)
  where
    by : (b : Bool) → n.here ≡ b → GoesTo sys (sys.resource (path_at sys from)) (map (carried_of sys) vs) (port_of sys n.target) (out_to n vs)
    by true e =
        let lies = here.0 e in
        let at : sys.resource (port_of sys n.target).at ≡ sys.resource (path_at sys from) = ap sys.resource (path-of_port sys n.target) ∙ lies in
        let test : (sys.resource (port_of sys n.target).at == sys.resource (path_at sys from)) ≡ true = grind (arith, nat_tests) in
        subst (λ (o : Out). GoesTo sys (sys.resource (path_at sys from)) (map (carried_of sys) vs) (port_of sys n.target) o) (sym (kept_to n vs e))
        (record {
          is = sym (ap (λ b. if b then reactions.Local (port_of sys n.target) else reactions.Sends (port_of sys n.target) (map (carried_of sys) vs)) test);
          belongs = record { target = target; here = lies };
        })
    by false e =
        let away : sys.resource (path_at sys n.target.instance) ≢ sys.resource (path_at sys from) = λ lies. false≢true (sym e ∙ here.1 lies) in
        let apart : sys.resource (port_of sys n.target).at ≢ sys.resource (path_at sys from) = λ at. away (sym (ap sys.resource (path-of_port sys n.target)) ∙ at) in
        let test : (sys.resource (port_of sys n.target).at == sys.resource (path_at sys from)) ≡ false = grind (arith, nat_tests) in
        subst (λ (o : Out). GoesTo sys (sys.resource (path_at sys from)) (map (carried_of sys) vs) (port_of sys n.target) o) (sym (sent_to n vs e))
        (record {
          is = sym (ap (λ b. if b then reactions.Local (port_of sys n.target) else reactions.Sends (port_of sys n.target) (map (carried_of sys) vs)) test);
          belongs = record { target = target; away = away; link = link; values = each };
        })

-- ---- Target after target

spread-append :
    (sys : System) (r : ℕ) (carried : List (Port × Value)) (ps qs : List Port) → spread sys r carried (ps ++ qs) ≡ spread sys r carried ps ++ spread sys r carried qs
spread-append sys r carried [] qs = refl
spread-append sys r carried (p ∷ ps) qs = ap (λ (os : List reactions.Out). out_at sys r carried p ∷ os) (spread-append sys r carried ps qs)

-- What has gone out to the first targets of a port.
pub record HaveGone (sys : System) (r : ℕ) (carried : List (Port × Value)) (targets : List Port) (before : List Out) (index : ℕ) (outs : List Out) : Type 0 where
  pub within : index ≤ length targets
  pub counted : length outs ≡ length before + index
  pub sent : map (out_of sys) outs ≡ map (out_of sys) before ++ spread sys r carried (take index targets)
  pub belong : All (IsOut sys r) before → All (IsOut sys r) outs

pub none_gone :
    (sys : System) (r : ℕ) (carried : List (Port × Value)) (targets : List Port) (outs : List Out) → HaveGone sys r carried targets outs 0 outs
none_gone sys r carried targets outs = record {
  within = omega arith;
  counted = omega arith;
  sent = sym (append-nil (map (out_of sys) outs));
  belong = λ were. were;
}

-- where the connection at an index leads, if there is one
abbrev pub leads_to : System → Option NextTarget → Option Port
leads_to sys o = option_map (λ r. port_of sys r.target) o

there : (sys : System) (targets : List Port) (index : ℕ) (o : Option NextTarget) (r : NextTarget) → leads_to sys o ≡ slice_get targets index → o ≡ Some r → slice_get targets index ≡ Some (port_of sys r.target)
there sys targets index o r leads is = sym leads ∙ ap (leads_to sys) is

pub one_more_gone :
    (sys : System) (r : ℕ) (carried : List (Port × Value)) (targets : List Port) (before : List Out) (index : ℕ) (outs : List Out) (o : Option NextTarget) (t : NextTarget) (out : Out)
    → HaveGone sys r carried targets before index outs → leads_to sys o ≡ slice_get targets index → o ≡ Some t → GoesTo sys r carried (port_of sys t.target) out
    → HaveGone sys r carried targets before (index + 1) (outs ++ out ∷ [])
one_more_gone sys r carried targets before index outs o t out gone leads is goes =
    let q = port_of sys t.target in
    let at : slice_get targets index ≡ Some q = there sys targets index o t leads is in
    let lt : index < length targets = slice_get_within targets index q at in
    let taken : take (index + 1) targets ≡ take index targets ++ q ∷ [] =
    take_more targets index q lt ∙ ap (λ (p : Port). take index targets ++ p ∷ []) (get_or_from_slice_get targets index q q at) in
    let so_far = gone.counted in
    record {
      within = omega arith;
      counted = omega (arith, length-append outs (out ∷ []));
      sent =
          map-append (out_of sys) outs (out ∷ [])
          ∙ ap (λ (os : List reactions.Out). os ++ out_of sys out ∷ []) gone.sent
          ∙ append_assoc (map (out_of sys) before) (spread sys r carried (take index targets)) (out_of sys out ∷ [])
          ∙ ap (λ (os : List reactions.Out). map (out_of sys) before ++ os)
          (ap (λ (x : reactions.Out). spread sys r carried (take index targets) ++ x ∷ []) goes.is
          ∙ sym (spread-append sys r carried (take index targets) (q ∷ []))
          ∙ ap (spread sys r carried) (sym taken));
      belong = λ were. All-push (IsOut sys r) outs out (gone.belong were) goes.belongs;
    }

following : (targets : List Port) (index : ℕ) → slice_get targets index ≡ None → length targets ≤ index
following targets index none =
    elim (cases_lt index (length targets)) [
      | inl lt ↦ let at : slice_get targets index ≡ Some (get_or targets index (record { at = []; name = [] })) = slice_get-get_or targets index _ lt in absurd (cc)
      | inr le ↦ le
    ]

-- no other target is after the one at an index
pub none_after : (more : Bool) (n m : ℕ) → IsTrue more ↔ (n < m) → not more ≡ true → m ≤ n
none_after true n m says off = absurd (false≢true off)
none_after false n m says off =
    elim (cases_lt n m) [
      | inl lt ↦ absurd (false≢true (says.1 lt))
      | inr le ↦ le
    ]

-- what goes out has gone to all targets, where no other one is after those to which it has gone
pub last_gone :
    (sys : System) (r : ℕ) (carried : List (Port × Value)) (targets : List Port) (before : List Out) (index : ℕ) (outs : List Out)
    → HaveGone sys r carried targets before index outs → length targets ≤ index → map (out_of sys) outs ≡ map (out_of sys) before ++ spread sys r carried targets
last_gone sys r carried targets before index outs gone past =
    gone.sent ∙ ap (λ (ps : List Port). map (out_of sys) before ++ spread sys r carried ps) (take_all index targets past)

pub all_gone :
    (sys : System) (r : ℕ) (carried : List (Port × Value)) (targets : List Port) (before : List Out) (index : ℕ) (outs : List Out) (o : Option NextTarget)
    → HaveGone sys r carried targets before index outs → leads_to sys o ≡ slice_get targets index → o ≡ None
    → map (out_of sys) outs ≡ map (out_of sys) before ++ spread sys r carried targets
all_gone sys r carried targets before index outs o gone leads is =
    let none : slice_get targets index ≡ None = sym leads ∙ ap (leads_to sys) is in
    last_gone sys r carried targets before index outs gone (following targets index none)
