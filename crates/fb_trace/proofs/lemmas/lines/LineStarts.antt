-- A line as its key, its tick, the row of its head, its first value and the others.
use Rattle.fb_types.proofs.Common.{◌≡◌, ℕ, ◌-◌, ◌≤◌, List, [], ◌∷◌, ◌++◌, length, length-drop, drop, take, map, refl, sym, ap, ◌∙◌, append_assoc, append-nil, arith, take_all, codes, decimal, if◌then◌else◌, slice_get, unwrap_or, Name, line_of, pair_up, path_at, System, line_text, path_text, tick_and_resource_text, values_text}
use Rattle.fb_types.specs.declared.library.Variable.{Variable}
use Rattle.fb_types.specs.declared.run.Form.{Form}
use Rattle.fb_types.specs.declared.run.Form.TheVariants.{One}
use Rattle.fb_types.specs.declared.value.Value.{Value}
use Rattle.fb_types.specs.States.{Line}
use Rattle.fb_types.specs.Text.{key_text}
use Rattle.fb_types.specs.declared.run.Line as run
use Rattle.fb_system.specs.Heads.{first_text, head_event, head_text, head_variables}
use Rattle.fb_system.specs.Lines.{BelongsTo, line_variables}
use Rattle.fb_system.specs.IndexLists.{AreIndexes, variable_at}
use Rattle.fb_trace.specs.Starts.{first_value, head_of_line}
use Rattle.fb_trace.proofs.lemmas.lines.LineParts.{following, sign_text}
use Rattle.fb_trace.proofs.lemmas.lines.Values.{pair_up-none}

-- a line of any form begins with its key, and goes on as one of form one
pub with_key : (form : Form) (sys : System) (l : Line) → key_text form l.key ++ line_text One sys l ≡ line_text form sys l
with_key form sys l =
    let k = key_text form l.key in
    let index = tick_and_resource_text sys l.key.tick l.key.resource in
    let head = index ++ sign_text l ++ path_text l.at ++ codes "." ++ l.event in
    let values = values_text l.values in
    sym (append_assoc k (head ++ values) (10 ∷ []))
    ∙ ap (λ (t : List ℕ). t ++ 10 ∷ []) (sym (append_assoc k head values) ∙ ap (λ (t : List ℕ). t ++ values) (following k index (sign_text l) (path_text l.at) (codes ".") l.event))

-- the values after the first
others : (f : ℕ → Name) (ks : List ℕ) (vs : List Value) → pair_up (map f (drop 1 ks)) (drop 1 vs) ≡ drop 1 (pair_up (map f ks) vs)
others f [] vs = refl
others f (k ∷ ks) [] = pair_up-none (map f ks)
others f (k ∷ ks) (v ∷ vs) = refl

others_of :
    (sys : System) (l : run.Line) (vs : List Variable) (ks : List ℕ) → AreIndexes vs (line_variables sys l) ks
    → values_text (pair_up (map (variable_at vs) (drop 1 ks)) (drop 1 l.values)) ≡ values_text (drop 1 (line_of sys l).values)
others_of sys l vs ks are = ap values_text (others (variable_at vs) ks l.values ∙ ap (λ (ns : List Name). drop 1 (pair_up ns l.values)) are.named)

all_after : {X : Type 0} (xs : List X) → take (length xs - 1) (drop 1 xs) ≡ drop 1 xs
all_after xs = take_all (length xs - 1) (drop 1 xs) (omega (arith, length-drop 1 xs))

pub others_counted :
    {X Y : Type 0} (xs : List X) (ys : List Y) → length xs ≡ length ys → length (take (length xs - 1) (drop 1 xs)) ≡ length (take (length ys - 1) (drop 1 ys))
others_counted xs ys same =
    ap length (all_after xs) ∙ length-drop 1 xs ∙ ap (λ (n : ℕ). n - 1) same ∙ sym (length-drop 1 ys) ∙ sym (ap length (all_after ys))

-- the values after the first, as they are sliced
pub others_sliced :
    (sys : System) (l : run.Line) (vs : List Variable) (ks : List ℕ) → AreIndexes vs (line_variables sys l) ks
    → values_text (pair_up (map (variable_at vs) (take (length ks - 1) (drop 1 ks))) (take (length l.values - 1) (drop 1 l.values)))
    ≡ values_text (drop 1 (line_of sys l).values)
others_sliced sys l vs ks are = (λ j. values_text (pair_up (map (variable_at vs) (all_after ks j)) (all_after l.values j))) ∙ others_of sys l vs ks are

-- the first value and the others
values_parts :
    (ns : List Name) (vs : List Value) → length vs ≡ length ns
    → values_text (pair_up ns vs) ≡ first_text ns ++ first_value vs ++ values_text (drop 1 (pair_up ns vs))
values_parts [] [] h = refl
values_parts [] (v ∷ vs) h = absurd (omega (arith, h))
values_parts (n ∷ ns) [] h = absurd (omega (arith, h))
values_parts (n ∷ ns) (v ∷ vs) h = refl

-- no value after the first
pub no_others : (ns : List Name) (vs : List Value) → length vs ≤ 1 → values_text (drop 1 (pair_up ns vs)) ≡ []
no_others [] vs h = refl
no_others (n ∷ ns) [] h = refl
no_others (n ∷ []) (v ∷ []) h = refl
no_others (n ∷ m ∷ ns) (v ∷ []) h = refl
no_others (n ∷ ns) (v ∷ w ∷ vs) h = absurd (omega (arith, h))

-- three texts after what is before them
inward : (a b c d : List ℕ) → a ++ (b ++ c ++ d) ≡ a ++ b ++ c ++ d
inward a b c d = rw (append_assoc a b c, append_assoc a (b ++ c) d) refl

-- a line of form one, as it is put if its head is kept
pub by_head :
    (sys : System) (l : run.Line) → BelongsTo sys l
    → decimal l.key.tick ++ codes " " ++ head_text sys (head_of_line l) ++ first_value l.values ++ values_text (drop 1 (line_of sys l).values) ++ 10 ∷ []
    ≡ line_text One sys (line_of sys l)
by_head sys l belongs =
    let x = head_of_line l in
    let tick = decimal l.key.tick ++ codes " " in
    let name = unwrap_or (slice_get sys.resource_names l.key.resource) [] in
    let sign = if l.taken then codes " > " else codes " < " in
    let path = path_text (path_at sys l.instance) in
    let ns = head_variables sys x in
    let until = tick ++ name ++ sign ++ path ++ codes "." ++ head_event sys x in
    let others = values_text (drop 1 (line_of sys l).values) in
    let head : tick ++ head_text sys x ≡ until ++ first_text ns =
    sym (append_assoc tick (name ++ sign ++ path ++ codes "." ++ head_event sys x) (first_text ns))
    ∙ ap (λ (t : List ℕ). t ++ first_text ns) (following tick name sign path (codes ".") (head_event sys x)) in
    ap (λ (t : List ℕ). t ++ 10 ∷ [])
    (ap (λ (t : List ℕ). t ++ first_value l.values ++ others) head
    ∙ sym (inward until (first_text ns) (first_value l.values) others)
    ∙ ap (λ (t : List ℕ). until ++ t) (sym (values_parts ns l.values belongs.values)))

-- a line that has no value after the first
pub by_head_alone :
    (sys : System) (l : run.Line) → BelongsTo sys l → length l.values ≤ 1
    → decimal l.key.tick ++ codes " " ++ head_text sys (head_of_line l) ++ first_value l.values ++ 10 ∷ [] ≡ line_text One sys (line_of sys l)
by_head_alone sys l belongs few =
    let start = decimal l.key.tick ++ codes " " ++ head_text sys (head_of_line l) ++ first_value l.values in
    let none : start ++ values_text (drop 1 (line_of sys l).values) ≡ start =
    ap (λ (t : List ℕ). start ++ t) (no_others (line_variables sys l) l.values few) ∙ append-nil start in
    ap (λ (t : List ℕ). t ++ 10 ∷ []) (sym none) ∙ by_head sys l belongs
