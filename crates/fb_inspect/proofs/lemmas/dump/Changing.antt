-- What changes inside a block, and what is kept of it.
use Rattle.fb_inspect.proofs.lemmas.Common.{◌≡◌, ◌<◌, ℕ, Bool, cond, List, [], ◌∷◌, ◌++◌, length, get_or, map, Option, Some, None, refl, sym, ap, subst, ◌∙◌, append_assoc, append-nil, arith, IfNone, codes, decimal, slice_get, list_any, false_from_ne_true, Kind, Basic, Composite, Event, Name, Path, same_name, path_at, System, Values, Value, BasicType, is_loss, Look, Seen, Taking, AreKept, IsKept, Chart, Remembered, hidden_change, hidden_code}
use Rattle.fb_types.proofs.Common.{get_or-map}
use Rattle.fb_types.specs.Values.{same_value}
use Rattle.fb_types.proofs.lemmas.lists.ByIndex.{element_at}
use Rattle.fb_types.proofs.lemmas.names.NameLaws.{same_from_same_name, same_name-itself}
use Rattle.fb_wave.specs.Scopes.{declares}
use Rattle.fb_inspect.specs.declared.walk.blocks.Remembered.TheVariants as kept
use Rattle.fb_inspect.specs.dump.Inner.{chart_changes, lost_code, of_chart, state_change, state_changed, state_code, taking_changes, value_by}
use Rattle.fb_inspect.specs.dump.Saved.{IsBefore, IsSaved}
use Rattle.fb_inspect.specs.declared.dump.before.Before.{Before}

-- ---- States

pub state_same : (i : ℕ) (before after : Name) (text : List ℕ) → after ≡ before → text ≡ text ++ state_change i before after
state_same i before after text same =
    sym (append-nil text)
    ∙ ap (λ (b : Bool). text ++ cond b [] (state_changed i after)) (sym (ap (λ (n : Name). same_name after n) (sym same) ∙ same_name-itself after))

pub state_other : (i : ℕ) (before after : Name) → (after ≡ before → ⊥) → state_changed i after ≡ state_change i before after
state_other i before after other =
    ap (λ (b : Bool). cond b [] (state_changed i after)) (sym (false_from_ne_true (same_name after before) (λ e. other (same_from_same_name after before e))))

-- ---- Variables

-- a value that was kept
pub value_at : (xs : List Value) (f : Values) (ns : List Name) (k : ℕ) (n : Name) (d : Value) → xs ≡ map f ns → k < length ns → n ≡ get_or ns k n → get_or xs k d ≡ f n
value_at xs f ns k n d is within at = ap (λ (l : List Value). get_or l k d) is ∙ get_or-map f ns k n d within ∙ ap f (sym at)

pub change_as :
    (old : List ℕ) (i k : ℕ) (n : Name) (a b : Seen) (x y : Value) → x ≡ a.variables n → y ≡ b.variables n
    → old ++ cond (same_value y x) [] (value_by (hidden_code i k) y) ≡ old ++ hidden_change i a b k n
change_as old i k n a b x y was now =
    ap (λ (v : Value). old ++ cond (same_value y v) [] (value_by (hidden_code i k) y)) was
    ∙ ap (λ (v : Value). old ++ cond (same_value v (a.variables n)) [] (value_by (hidden_code i k) v)) now

-- ---- Kinds

-- the text of a basic block, and that of none
pub chart_text : (text : BasicType → List ℕ) (k : Option Kind) (t : BasicType) → k ≡ Some (Basic t) → of_chart text k ≡ text t
chart_text text k t is = ap (of_chart text) is

pub no_chart_text : (text : BasicType → List ℕ) (k : Option Kind) → ((t : BasicType) → k ≡ Some (Basic t) → ⊥) → of_chart text k ≡ []
no_chart_text text None none = refl
no_chart_text text (Some (Basic t)) none = absurd (none t refl)
no_chart_text text (Some (Event e)) none = refl
no_chart_text text (Some (Composite t)) none = refl

pub same_chart_text : (f g : BasicType → List ℕ) (k : Option Kind) → ((t : BasicType) → k ≡ Some (Basic t) → f t ≡ g t) → of_chart f k ≡ of_chart g k
same_chart_text f g None same = refl
same_chart_text f g (Some (Basic t)) same = same t refl
same_chart_text f g (Some (Event e)) same = refl
same_chart_text f g (Some (Composite t)) same = refl

-- what is kept of a basic block, and of another one
pub before_of : (k : Option Kind) (t : BasicType) (x : Before) (s : Seen) → k ≡ Some (Basic t) → IsSaved t x s → IsBefore k x s
before_of k t x s is saved = subst (λ (o : Option Kind). IsBefore o x s) (sym is) saved

pub saved_of : (k : Option Kind) (t : BasicType) (x : Before) (s : Seen) → k ≡ Some (Basic t) → IsBefore k x s → IsSaved t x s
saved_of k t x s is before = subst (λ (o : Option Kind). IsBefore o x s) is before

pub before_none : (k : Option Kind) (x : Before) (s : Seen) → ((t : BasicType) → k ≡ Some (Basic t) → ⊥) → IsBefore k x s
before_none None x s none = tt
before_none (Some (Basic t)) x s none = absurd (none t refl)
before_none (Some (Event e)) x s none = tt
before_none (Some (Composite t)) x s none = tt

-- ---- What is kept of an instance

kept_basic : (k : Option Kind) (t : BasicType) (b : Remembered) (s : Seen) → k ≡ Some (Basic t) → IsKept k b s → (c : Chart) × (b ≡ kept.Basic c)
kept_basic k t b s is h = by b (subst (λ (o : Option Kind). IsKept o b s) is h)
  where
    by : (b : Remembered) → IsKept (Some (Basic t)) b s → (c : Chart) × (b ≡ kept.Basic c)
    by (kept.Basic c) h = (c, refl)
    by (kept.Event e) h = absurd h
    by kept.Composite h = absurd h

-- a basic block is kept of an instance of a basic type
pub no_chart :
    (sys : System) (blocks : List Remembered) (look : Look) (i : ℕ) (t : BasicType) → AreKept sys blocks look → i < length sys.paths → sys.kind (path_at sys i) ≡ Some (Basic t)
    → ((c : Chart) → slice_get blocks i ≡ Some (kept.Basic c) → ⊥) → ⊥
no_chart sys blocks look i t are within is none =
    let one = element_at blocks i (let e = are.all in omega (arith, within, e)) in
    let chart = kept_basic (sys.kind (path_at sys i)) t one.0 (look.blocks (path_at sys i)) is (are.each i one.0 one.1) in
    none chart.0 (one.1 ∙ ap (λ (b : Remembered). Some b) chart.1)

pub none_any : {A : Type 0} (o : Option A) (P : Type 0) → P → IfNone o P
none_any None P p = p
none_any (Some x) P p = tt

-- ---- What a taking changes

pub taking_text :
    (sys : System) (here look after : Look) (x : Taking) (i : ℕ) (p : Path) (is_lost : Bool) → here ≡ look → x.first.at ≡ p → x.after ≡ after → sys.number p ≡ i
    → ((t : BasicType) → sys.kind p ≡ Some (Basic t) → list_any is_loss x.pieces ≡ is_lost)
    → of_chart (chart_changes i (look.blocks p) (after.blocks p) is_lost) (sys.kind p) ≡ taking_changes sys here x
taking_text sys here look after x i p is_lost same at then number lost =
    same_chart_text (chart_changes i (look.blocks p) (after.blocks p) is_lost) (chart_changes i (look.blocks p) (after.blocks p) (list_any is_loss x.pieces)) (sys.kind p)
    (λ t is. ap (λ (b : Bool). chart_changes i (look.blocks p) (after.blocks p) b t) (sym (lost t is)))
    ∙ ap (λ (k : ℕ). of_chart (chart_changes k (look.blocks p) (after.blocks p) (list_any is_loss x.pieces)) (sys.kind p)) (sym number)
    ∙ ap (λ (l : Look). of_chart (chart_changes (sys.number p) (l.blocks p) (after.blocks p) (list_any is_loss x.pieces)) (sys.kind p)) (sym same)
    ∙ ap (λ (l : Look). of_chart (chart_changes (sys.number p) (here.blocks p) (l.blocks p) (list_any is_loss x.pieces)) (sys.kind p)) (sym then)
    ∙ ap (λ (q : Path). of_chart (chart_changes (sys.number q) (here.blocks q) (x.after.blocks q) (list_any is_loss x.pieces)) (sys.kind q)) (sym at)

-- ---- Declarations

tail : (d a b e f : List ℕ) → d ++ (((a ++ b) ++ e) ++ f) ≡ (((d ++ a) ++ b) ++ e) ++ f
tail d a b e f = simp append_assoc

pub state_line : (i : ℕ) → codes "$var string 1 s" ++ (decimal i ++ codes " state $end\n") ≡ declares (codes "string 1") (state_code i) (codes "state")
state_line i = ap (λ (l : List ℕ). codes "$var string 1 s" ++ l) (tail (decimal i) (codes " ") (codes "state") (codes " $end") (10 ∷ []))

pub three_put : (o a d b : List ℕ) → ((o ++ a) ++ d) ++ b ≡ o ++ (a ++ (d ++ b))
three_put o a d b = simp append_assoc

pub lost_line : (i : ℕ) → codes "$var event 1 l" ++ (decimal i ++ codes " lost $end\n") ≡ declares (codes "event 1") (lost_code i) (codes "lost")
lost_line i = ap (λ (l : List ℕ). codes "$var event 1 l" ++ l) (tail (decimal i) (codes " ") (codes "lost") (codes " $end") (10 ∷ []))
