-- The names of types and instances, and the lines for names that nothing has.
use Rattle.fbsim_command.proofs.lemmas.Common.{◌≡◌, ◌<◌, ◌+◌, ◌||◌, ℕ, Bool, true, false, Bor, List, [], ◌∷◌, ◌++◌, get_or, length, map, option_map, take, codes, Option, Some, None, Result, Ok, Err, IfOk, OnOk, inl, inr, refl, sym, ◌∙◌, ap, subst, append-nil, append_assoc, arith, length-map, take_more}
use Rattle.fb_types.proofs.Common.{not, map_push, list_any, nat_tests, ◌==◌}
use Rattle.std.proofs.lemmas.List.Folds.{list_any_more}
use Rattle.clap.specs.Words.{Text}
use Rattle.clap.proofs.WalkLemmas.{list_any-map}
use Rattle.fb_types.specs.Flat.{type_name}
use Rattle.fb_types.specs.Names.{Name, same_name}
use Rattle.fb_types.specs.declared.library.BlockType.{BlockType}
use Rattle.fb_types.specs.declared.library.BlockType.TheVariants as block
use Rattle.fb_types.specs.declared.library.BasicType.{BasicType}
use Rattle.fb_types.specs.declared.library.CompositeType.{CompositeType}
use Rattle.fb_types.specs.declared.library.Instance.{Instance}
use Rattle.fb_types.specs.declared.library.Library.{Library}
use Rattle.fbsim_command.specs.Nearest.{IsLeastOf, IsNearestName, name_at, name_distance}
use Rattle.fbsim_command.specs.SelectedNames.{AreNameLines, SaysAll, SaysName, SaysNames, SaysOf, all_block_names, are_unknown, block_names, inside_names, instance_names, is_known, is_unknown, names_of, unknown_line}
use Rattle.fbsim_command.specs.UnknownNames.{nearest_words, shown_bytes}
use Rattle.fbsim_command.specs.declared.selectors.Selector.{Selector}
use Rattle.fbsim_command.specs.declared.selectors.Sorting.{Sorting}

abbrev pub now : Bor Name → Name
now n = n.now

abbrev lent : List (Bor Name) → List Name
lent ns = map now ns

lent-push : (olds news : List (Bor Name)) (a : Bor Name) → news ≡ olds ++ a ∷ [] → lent news ≡ lent olds ++ a.now ∷ []
lent-push olds news a push = ap (map now) push ∙ map_push now olds a

-- ---- What there is

instance_names-push : (is : List Instance) (d : Instance) → instance_names (is ++ d ∷ []) ≡ instance_names is ++ d.name ∷ d.block_type ∷ []
instance_names-push [] d = refl
instance_names-push (i ∷ is) d = ap (λ (ns : List Name). i.name ∷ i.block_type ∷ ns) (instance_names-push is d)

-- one more instance
pub instance-more :
    (is : List Instance) (k : ℕ) (d : Instance) (front : List Name) (olds mids news : List (Bor Name)) (a b : Bor Name) → k < length is → d ≡ get_or is k d → a.now ≡ d.name → b.now ≡ d.block_type
    → mids ≡ olds ++ a ∷ [] → news ≡ mids ++ b ∷ [] → lent olds ≡ front ++ instance_names (take k is) → lent news ≡ front ++ instance_names (take (k + 1) is)
instance-more is k d front olds mids news a b within at first second one two before =
    let N = instance_names (take k is) in
    let pushed : lent news ≡ ((front ++ N) ++ a.now ∷ []) ++ b.now ∷ [] =
    lent-push mids news b two ∙ ap (λ (ns : List Name). ns ++ b.now ∷ []) (lent-push olds mids a one ∙ ap (λ (ns : List Name). ns ++ a.now ∷ []) before) in
    let joined : ((front ++ N) ++ a.now ∷ []) ++ b.now ∷ [] ≡ front ++ (N ++ a.now ∷ b.now ∷ []) =
    append_assoc (front ++ N) (a.now ∷ []) (b.now ∷ []) ∙ append_assoc front N (a.now ∷ b.now ∷ []) in
    let named : N ++ a.now ∷ b.now ∷ [] ≡ instance_names (take (k + 1) is) =
    ap (λ (n : Name). N ++ n ∷ b.now ∷ []) first ∙ ap (λ (n : Name). N ++ d.name ∷ n ∷ []) second ∙ ap (λ (x : Instance). N ++ x.name ∷ x.block_type ∷ []) at
    ∙ sym (instance_names-push (take k is) (get_or is k d)) ∙ ap instance_names (sym (take_more is k d within)) in
    pushed ∙ joined ∙ ap (λ (ns : List Name). front ++ ns) named

-- a block type
pub basic-pushed :
    (t : BlockType) (b : BasicType) (olds news : List (Bor Name)) (n : Bor Name) → t ≡ block.Basic b → n.now ≡ type_name t → news ≡ olds ++ n ∷ [] → lent news ≡ lent olds ++ block_names t
basic-pushed t b olds news n is named push =
    lent-push olds news n push ∙ ap (λ (m : Name). lent olds ++ m ∷ []) named ∙ ap (λ (ns : List Name). lent olds ++ type_name t ∷ ns) (sym (ap inside_names is))

pub composite-pushed :
    {U E : Type 0} (r : Result U E) (t : BlockType) (k : CompositeType) (is : List Instance) (olds mids news : List (Bor Name)) (n : Bor Name) → t ≡ block.Composite k → n.now ≡ type_name t → mids ≡ olds ++ n ∷ []
    → is ≡ k.network.instances → OnOk r (lent news ≡ lent mids ++ instance_names is) → OnOk r (lent news ≡ lent olds ++ block_names t)
composite-pushed (Ok u) t k is olds mids news n is-k named push inside done =
    done ∙ ap (λ (ns : List Name). ns ++ instance_names is) (lent-push olds mids n push) ∙ append_assoc (lent olds) (n.now ∷ []) (instance_names is)
    ∙ ap (λ (m : Name). lent olds ++ m ∷ instance_names is) named ∙ ap (λ (xs : List Instance). lent olds ++ type_name t ∷ instance_names xs) inside
    ∙ ap (λ (ns : List Name). lent olds ++ type_name t ∷ ns) (sym (ap inside_names is-k))
composite-pushed (Err e) t k is olds mids news n is-k named push inside done = tt

all_block_names-push : (ts : List BlockType) (d : BlockType) → all_block_names (ts ++ d ∷ []) ≡ all_block_names ts ++ block_names d
all_block_names-push [] d = append-nil (block_names d)
all_block_names-push (t ∷ ts) d =
    ap (λ (ns : List Name). block_names t ++ ns) (all_block_names-push ts d) ∙ sym (append_assoc (block_names t) (all_block_names ts) (block_names d))

-- one more block type
pub block-more :
    (ts : List BlockType) (k : ℕ) (d : BlockType) (front old new : List Name) → k < length ts → d ≡ get_or ts k d → new ≡ old ++ block_names d → old ≡ front ++ all_block_names (take k ts)
    → new ≡ front ++ all_block_names (take (k + 1) ts)
block-more ts k d front old new within at push before =
    push ∙ ap (λ (ns : List Name). ns ++ block_names d) before ∙ append_assoc front (all_block_names (take k ts)) (block_names d)
    ∙ ap (λ (x : BlockType). front ++ (all_block_names (take k ts) ++ block_names x)) at ∙ ap (λ (ns : List Name). front ++ ns) (sym (all_block_names-push (take k ts) (get_or ts k d)))
    ∙ ap (λ (xs : List BlockType). front ++ all_block_names xs) (sym (take_more ts k d within))

-- all of them
pub all-pushed :
    (lib : Library) (olds mids news : List (Bor Name)) (ts : List BlockType) (is : List Instance) → olds ≡ [] → ts ≡ lib.blocks → is ≡ lib.application.network.instances → lent mids ≡ lent olds ++ all_block_names ts
    → lent news ≡ lent mids ++ instance_names is → lent news ≡ names_of lib
all-pushed lib olds mids news ts is none blocks instances first second =
    second ∙ ap (λ (ns : List Name). ns ++ instance_names is) (first ∙ ap (λ (ns : List (Bor Name)). lent ns ++ all_block_names ts) none ∙ ap all_block_names blocks)
    ∙ ap (λ (xs : List Instance). all_block_names lib.blocks ++ instance_names xs) instances

-- ---- Lines

-- a name that something has
pub known-said : (option : Text) (ns : List (Bor Name)) (n : Name) (there : Bool) (line : Text) → there ≡ list_any (λ m. same_name n m.now) ns → there ≡ true → line ≡ [] → SaysName option (lent ns) n line
known-said option ns n there line is so none = inl (sym (list_any-map (same_name n) now ns) ∙ sym is ∙ so, none)

-- one that nothing has
pub unknown-said :
    {S E : Type 0} (bytes : S → Text) (r : Result S E) (option : Text) (ns : List (Bor Name)) (n text : Name) (near : Option Name) (there : Bool) → there ≡ list_any (λ m. same_name n m.now) ns → there ≡ false
    → text ≡ n → IsNearestName (lent ns) text near → IfOk r (λ s. bytes s ≡ unknown_line option n near) → IfOk r (λ s. SaysName option (lent ns) n (bytes s))
unknown-said bytes (Ok s) option ns n text near there is so same nearest said =
    inr (record {
      unknown = sym (list_any-map (same_name n) now ns) ∙ sym is ∙ so;
      near = near;
      nearest = subst (λ (t : Name). IsNearestName (lent ns) t near) same nearest;
      is = said;
    })
unknown-said bytes (Err e) option ns n text near there is so same nearest said = tt

-- the line is not empty
longer : (t : Text) → (length (45 ∷ t) == 0) ≡ false
longer t = grind (arith, nat_tests)

not-empty : (option : Text) (n : Name) (near : Option Name) → (length (unknown_line option n near) == 0) ≡ false
not-empty option n near = longer (codes "-" ++ (option ++ (codes ": there is no type or instance " ++ (shown_bytes n ++ (nearest_words near ++ codes "\n")))))

-- there is a line exactly if nothing has the name
some-line : (option : Text) (names : List Name) (o : Option Name) (line : Text) → SaysOf option names o line → not (length line == 0) ≡ is_unknown names o
some-line option names None line none = ap (λ (t : Text). not (length t == 0)) none
some-line option names (Some n) line (inl (known, none)) = ap (λ (t : Text). not (length t == 0)) none ∙ sym (ap not known)
some-line option names (Some n) line (inr says) =
    ap (λ (t : Text). not (length t == 0)) says.is ∙ ap not (not-empty option n says.near) ∙ sym (ap not says.unknown)

lines-push :
    (option : Text) (names : List Name) (ss : List Selector) (s : Selector) (text line : Text) → AreNameLines option names ss text → SaysOf option names s.about line
    → AreNameLines option names (ss ++ s ∷ []) (text ++ line)
lines-push option names [] s text line are says = (line, [], says, refl, ap (λ (t : Text). t ++ line) are ∙ sym (append-nil line))
lines-push option names (r ∷ ss) s text line are says =
    let rest = lines-push option names ss s are.1 line are.3 says in
    (are.0, are.1 ++ line, are.2, rest, ap (λ (t : Text). t ++ line) are.4 ∙ append_assoc are.0 are.1 line)

-- what was added to lines, and whether there is some
abbrev pub Adds : (option : Text) → List Name → List Selector → (old new : Text) → Bool → Type 0
Adds option names ss old new some = (added : Text) × (new ≡ old ++ added) × SaysAll option names ss added some

-- one more
pub says-more :
    (option : Text) (names : List Name) (ss : List Selector) (k : ℕ) (d : Selector) (old mid new line : Text) (some next empty : Bool) → k < length ss → d ≡ get_or ss k d → SaysOf option names d.about line
    → new ≡ mid ++ line → empty ≡ (length line == 0) → next ≡ (some || not empty) → Adds option names (take k ss) old mid some → Adds option names (take (k + 1) ss) old new next
says-more option names ss k d old mid new line some next empty within at says push none more (added, is, (are, are_some)) = (
  added ++ line,
  push ∙ ap (λ (t : Text). t ++ line) is ∙ append_assoc old added line,
  (
    subst (λ (xs : List Selector). AreNameLines option names xs (added ++ line)) (sym (take_more ss k d within))
        (lines-push option names (take k ss) (get_or ss k d) added line are (subst (λ (x : Selector). SaysOf option names x.about line) at says)),
    more ∙ ap (λ (b : Bool). b || not empty) are_some ∙ ap (λ (b : Bool). are_unknown names (take k ss) || not b) none
        ∙ ap (λ (b : Bool). are_unknown names (take k ss) || b) (some-line option names d.about line says)
        ∙ ap (λ (x : Selector). are_unknown names (take k ss) || is_unknown names x.about) at
        ∙ sym (list_any_more (λ (s : Selector). is_unknown names s.about) ss k d within),
  ),
)

-- those that are allowed, and then those that are denied
pub both-said :
    {E : Type 0} (r : Result Bool E) (lib : Library) (s : Sorting) (names : List Name) (allowed denies : List Selector) (old mid new : Text) (some : Bool) → names ≡ names_of lib → allowed ≡ s.allowed.items
    → denies ≡ s.denied.items → Adds (codes "allow") names allowed old mid some → IfOk r (Adds (codes "deny") names denies mid new)
    → IfOk r (λ denied. (added : Text) × (new ≡ old ++ added) × SaysNames lib s added denied)
both-said (Ok denied) lib s names allowed denies old mid new some are is_allowed is_denied first second = (
  first.0 ++ second.0,
  second.1 ∙ ap (λ (t : Text). t ++ second.0) first.1 ∙ append_assoc old first.0 second.0,
  record {
    allowed = first.0;
    of_allowed = subst (λ (xs : List Selector). AreNameLines (codes "allow") (names_of lib) xs first.0) is_allowed (subst (λ (ns : List Name). AreNameLines (codes "allow") ns allowed first.0) are first.2.0);
    denies = second.0;
    of_denied = subst (λ (xs : List Selector). AreNameLines (codes "deny") (names_of lib) xs second.0) is_denied (subst (λ (ns : List Name). AreNameLines (codes "deny") ns denies second.0) are second.2.0);
    are = refl;
    is_denied = second.2.1 ∙ ap (λ (ns : List Name). are_unknown ns denies) are ∙ ap (are_unknown (names_of lib)) is_denied;
  },
)
both-said (Err e) lib s names allowed denies old mid new some are is_allowed is_denied first second = tt
