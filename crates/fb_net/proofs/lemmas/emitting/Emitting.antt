-- What the emission of output events makes of a world, of the lines and of what goes out.
use Rattle.fb_net.proofs.lemmas.Common.{◌≡◌, ℕ, ◌<◌, false, List, [], ◌∷◌, ◌++◌, map, length, refl, sym, ap, subst, ◌∙◌, suc, append_assoc, arith, All, Some, slice_get, map-append, none-some, Bound, Emission, Inputs, system_of, Name, Path, Port, carried_of, emission_of, event_at, event_output, line_of, pair_up, path_at, ports_at, Outcome, World, emitted_all, spread, with_block, System, Key, Variable, Carried, Line, Value, AreIndexes, variable_at, IsEmission, Changes, IsForest, Forest, carried_by, outputs_at, outputs_shown, IsOut, RepresentsOutcome, out_of, Outbox}
use Rattle.fb_types.proofs.Common.{slice_index_or, All-append, All-push, outputs_with, carried_from, emitted}
use Rattle.fb_types.specs.Reactions as reactions
use Rattle.fb_types.specs.States as model
use Rattle.fb_types.specs.declared.run.Emission as run
use Rattle.fb_system.specs.Lines.{BelongsTo}
use Rattle.fb_system.specs.Ports.{IsCarried}
use Rattle.fb_net.specs.Emitting.{HasEmitted}
use Rattle.fb_net.specs.Outs.{Gathered}

-- ---- What messages carry

pub carried_named :
    (sys : System) (k : ℕ) (indexes : List ℕ) (values : List Value)
    → map (carried_of sys) (carried_by k indexes values) ≡ carried_from (path_at sys k) (outputs_at sys k indexes values)
carried_named sys k [] values = refl
carried_named sys k (index ∷ indexes) [] = refl
carried_named sys k (index ∷ indexes) (v ∷ values) =
    ap (λ (cs : List (Port × Value)). (record { at = path_at sys k; name = variable_at (ports_at sys (path_at sys k)).outputs index }, v) ∷ cs)
    (carried_named sys k indexes values)

-- where at most one variable is WITH the event
pub one_carried : (k index : ℕ) (values : List Value) (v : Value) → Some v ≡ slice_get values 0 → carried_by k (index ∷ []) values ≡ record { instance = k; variable = index; value = v } ∷ []
one_carried k index [] v first = absurd (none-some v (sym first))
one_carried k index (u ∷ values) v first =
    let same : u ≡ v = cc in
    let carried : Value → List Carried = λ x. record { instance = k; variable = index; value = x } ∷ [] in ap carried same

-- the value that is carried alone
pub carried_only : (k : ℕ) (indexes : List ℕ) (values : List Value) (v : Value) → length indexes ≡ 1 → Some v ≡ slice_get values 0
    → carried_by k indexes values ≡ record { instance = k; variable = slice_index_or indexes 0 0; value = v } ∷ []
carried_only k [] values v one first = absurd (omega (arith, one))
carried_only k (index ∷ []) values v one first = one_carried k index values v first
carried_only k (index ∷ next ∷ more) values v one first = absurd (omega (arith, one))

-- each element is among the first list's, or among the others
all_first : {A : Type 0} (P : A → Type 0) (x : A) (xs : List A) → P x → All P xs → All P (x ∷ xs)
all_first P x xs h hs = All-append P (x ∷ []) xs (All-push P [] x (λ k d lt. absurd (omega arith)) h) hs

-- what holds of each element holds of the one between two parts
pub middle_fits : {A : Type 0} (P : A → Type 0) (done : List A) (x : A) (rest all : List A) → all ≡ done ++ x ∷ rest → All P all → P x
middle_fits P done x rest all parts each = go done (subst (λ (xs : List _). All P xs) parts each)
  where
    go : (xs : List _) → All P (xs ++ x ∷ rest) → P x
    go [] h = h 0 x (omega arith)
    go (y ∷ ys) h = go ys (λ k d lt. h (suc k) d (omega arith))

pub are_carried :
    (sys : System) (k : ℕ) (indexes : List ℕ) (values : List Value) → k < length sys.paths
    → All (λ index. index < length (ports_at sys (path_at sys k)).outputs) indexes → All (IsCarried sys) (carried_by k indexes values)
are_carried sys k [] values h within = λ n d lt. absurd (omega arith)
are_carried sys k (index ∷ indexes) [] h within = λ n d lt. absurd (omega arith)
are_carried sys k (index ∷ indexes) (v ∷ values) h within =
    all_first (IsCarried sys) _ (carried_by k indexes values) (record { instance = h; variable = within 0 0 (omega arith) })
    (are_carried sys k indexes values h (λ n d lt. within (suc n) d (omega arith)))

-- ---- Emission after emission

emitted_all-append :
    (sys : System) (key : Key) (p : Path) (es ds : List Emission) (o : Outcome)
    → emitted_all sys key p (es ++ ds) o ≡ emitted_all sys key p ds (emitted_all sys key p es o)
emitted_all-append sys key p [] ds o = refl
emitted_all-append sys key p (e ∷ es) ds o = emitted_all-append sys key p es ds (emitted sys key p e o)

pub nothing_emitted :
    (i : Inputs) (key : Key) (k : ℕ) (f : Forest) (x : Outbox) → HasEmitted i key k f x [] f x
nothing_emitted i key k f x = record { emitted = λ before o h. h; outs = λ were. were; resource = refl }

pub more_emitted :
    (i : Inputs) (key : Key) (k : ℕ) (f g h : Forest) (x y z : Outbox) (es ds : List run.Emission)
    → HasEmitted i key k f x es g y → HasEmitted i key k g y ds h z → HasEmitted i key k f x (es ++ ds) h z
more_emitted i key k f g h x y z es ds first then =
    let sys = system_of i in
    let p = path_at sys k in
    let said = emission_of (ports_at sys p) in
    record {
      emitted = λ before o s.
          subst (λ (o : Outcome). RepresentsOutcome i before h z o)
          (sym (ap (λ (ms : List Emission). emitted_all sys key p ms o) (map-append said es ds) ∙ emitted_all-append sys key p (map said es) (map said ds) o))
          (then.emitted before (emitted_all sys key p (map said es) o) (first.emitted before o s));
      outs = λ were. then.outs (first.outs were);
      resource = then.resource ∙ first.resource;
    }

-- ---- One emission

-- the line of an emission
abbrev pub line_by : Key → (instance : ℕ) → run.Emission → Line
line_by key k e = record { key = key; taken = false; instance = k; event = e.event; values = e.values }

-- how an emission was done
pub record Doing (i : Inputs) (key : Key) (k : ℕ) (f : Forest) (x : Outbox) (e : run.Emission) (g : Forest) (y : Outbox) : Type 0 where
  pub indexes : List ℕ
  pub stand : AreIndexes (ports_at (system_of i) (path_at (system_of i) k)).outputs
      (outputs_with (ports_at (system_of i) (path_at (system_of i) k)) (event_at (ports_at (system_of i) (path_at (system_of i) k)).event_outputs e.event)) indexes
  pub published : Changes i f k (outputs_shown (outputs_at (system_of i) k indexes e.values)) g
  pub sent : map (out_of (system_of i)) y.outs.items ≡ map (out_of (system_of i)) x.outs.items
      ++ spread (system_of i) g.resource (map (carried_of (system_of i)) (carried_by k indexes e.values)) ((system_of i).targets (event_output (system_of i) k e.event))
  pub belong : All (IsOut (system_of i) g.resource) x.outs.items → All (IsOut (system_of i) g.resource) y.outs.items
  pub lines : y.lines.items ≡ x.lines.items ++ line_by key k e ∷ []
  pub timer : y.timer ≡ x.timer

-- where there is no variable WITH the event
pub no_indexes : (vs : List Variable) (names : List Name) → 0 ≡ length names → AreIndexes vs names []
no_indexes vs [] none = record { named = refl; within = λ n d lt. absurd (omega arith) }
no_indexes vs (n ∷ ns) none = absurd (omega arith)

-- the variables and values of an emission
same_values :
    (sys : System) (k : ℕ) (e : run.Emission) (indexes : List ℕ)
    → AreIndexes (ports_at sys (path_at sys k)).outputs (outputs_with (ports_at sys (path_at sys k)) (event_at (ports_at sys (path_at sys k)).event_outputs e.event)) indexes
    → outputs_at sys k indexes e.values ≡ (emission_of (ports_at sys (path_at sys k)) e).values
same_values sys k e indexes stand = ap (λ (ns : List Name). pair_up ns e.values) stand.named

module _ (i : Inputs) (key : Key) (k : ℕ) (f : Forest) (x : Outbox) (e : run.Emission) (g : Forest) (y : Outbox) (done : Doing i key k f x e g y) where
  abbrev sys : System
  sys = system_of i

  abbrev p : Path
  p = path_at sys k

  abbrev said : Emission
  said = emission_of (ports_at sys p) e

  goes : key.resource ≡ f.resource → map (out_of sys) y.outs.items ≡ map (out_of sys) x.outs.items
      ++ spread sys key.resource (carried_from p said.values) (sys.targets (record { at = p; name = said.event }))
  goes resource =
      let here : g.resource ≡ key.resource = done.published.resource ∙ sym resource in
      let carried : map (carried_of sys) (carried_by k done.indexes e.values) ≡ carried_from p said.values =
      carried_named sys k done.indexes e.values ∙ ap (carried_from p) (same_values sys k e done.indexes done.stand) in
      done.sent ∙ (λ n. map (out_of sys) x.outs.items ++ spread sys (here n) (carried n) (sys.targets (event_output sys k e.event)))

  shows : (w : World) → IsForest i f w → sys.resource p ≡ f.resource → IsForest i g (with_block p (outputs_shown said.values (w.blocks p)) w)
  shows w forest here =
      subst (λ (bs : List Bound). IsForest i g (with_block p (outputs_shown bs (w.blocks p)) w)) (same_values sys k e done.indexes done.stand)
      (done.published.represents w forest here)

  represents : sys.resource p ≡ f.resource → key.resource ≡ f.resource → (before : Gathered) (o : Outcome) → RepresentsOutcome i before f x o
      → RepresentsOutcome i before g y (emitted sys key p said o)
  represents here resource before o h = record {
    world = shows o.world h.world here;
    lines =
        ap (λ (ls : List Line). map (line_of sys) ls) done.lines
        ∙ map-append (line_of sys) x.lines.items (line_by key k e ∷ [])
        ∙ ap (λ (ls : List model.Line). ls ++ line_of sys (line_by key k e) ∷ []) h.lines
        ∙ append_assoc before.lines o.lines (line_of sys (line_by key k e) ∷ []);
    outs = goes resource ∙ ap (λ (os : List reactions.Out). os ++ spread sys key.resource (carried_from p said.values) (sys.targets (record { at = p; name = said.event }))) h.outs
        ∙ append_assoc before.outs o.outs (spread sys key.resource (carried_from p said.values) (sys.targets (record { at = p; name = said.event })));
    timer = done.timer ∙ h.timer;
  }

  pub has_emitted : k < length sys.paths → sys.resource p ≡ f.resource → key.resource ≡ f.resource → key.resource < length sys.resource_names
      → IsEmission (ports_at sys p) e → HasEmitted i key k f x (e ∷ []) g y
  has_emitted number here resource named emission =
      let line : BelongsTo sys (line_by key k e) = record { instance = number; resource = named; event = emission.event; values = emission.values } in
      record {
        emitted = represents here resource;
        outs = λ were. record {
          lines = subst (λ (ls : List Line). All (BelongsTo sys) ls) (sym done.lines) (All-push (BelongsTo sys) x.lines.items (line_by key k e) were.lines line);
          outs = done.belong (subst (λ (r : ℕ). All (IsOut sys r) x.outs.items) (sym done.published.resource) were.outs);
        };
        resource = done.published.resource;
      }
