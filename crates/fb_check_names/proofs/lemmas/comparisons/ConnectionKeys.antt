-- The names at both ends of a connection, as the key of a table.
use Rattle.fb_types.proofs.Common.{◌≡◌, Bool, List, [], ◌∷◌, Option, Some, None, Bor, refl, sym, ◌∙◌, ap, Decides, option_copied, is_eq, ordering_then, true≢false, same_Some, Name, Path, Port}
use Rattle.fb_types.specs.declared.library.Connection.{Connection}
use Rattle.std.proofs.Common.{Ordering}
use Rattle.std.specs.Cmp.Lexicographic.{slice_cmp}
use Rattle.std.specs.Option.{option_cmp}
use Rattle.fb_types.specs.NameOrder as names
use Rattle.fb_types.proofs.lemmas.names.NameOrders.{name_cmp-Decides}
use Rattle.fb_check_names.specs.Pairs.{Key, ends_of, key_names, names_at, same_ends}
use Rattle.fb_check_names.proofs.lemmas.twice.Repeating.{IsSame, same_Decides}
use Rattle.fb_check_names.proofs.lemmas.comparisons.SameNames.{ends_Decides}
use Rattle.fb_check_names.proofs.lemmas.comparisons.DecidedSame.{name_cmp, then-Decides}

abbrev pub key_cmp : Key → Key → Ordering
key_cmp k q = slice_cmp (option_cmp name_cmp) k q

-- the same of the names themselves
abbrev pub list_cmp : List (Option Name) → List (Option Name) → Ordering
list_cmp xs ys = slice_cmp (option_cmp names.name_cmp) xs ys

abbrev pub same_names : List (Option Name) → List (Option Name) → Bool
same_names xs ys = is_eq (list_cmp ys xs)

option_seen : (a b : Option (Bor Name)) → option_cmp name_cmp a b ≡ option_cmp names.name_cmp (option_copied a) (option_copied b)
option_seen None None = refl
option_seen None (Some y) = refl
option_seen (Some x) None = refl
option_seen (Some x) (Some y) = refl

key_seen : (k q : Key) → key_cmp k q ≡ list_cmp (key_names k) (key_names q)
key_seen [] [] = refl
key_seen [] (y ∷ q) = refl
key_seen (x ∷ k) [] = refl
key_seen (x ∷ k) (y ∷ q) = λ i. ordering_then (option_seen x y i) (key_seen k q i)

pub names_agree : IsSame key_cmp key_names same_names
names_agree k q = ap is_eq (key_seen k q)

-- ---- Connections with the same names join the same ports

option-Decides : (a b : Option Name) → Decides (is_eq (option_cmp names.name_cmp a b)) (a ≡ b)
option-Decides None None = (λ _. refl, λ _. refl)
option-Decides None (Some y) = (λ h. absurd (true≢false (sym h)), λ e. absurd (cc))
option-Decides (Some x) None = (λ h. absurd (true≢false (sym h)), λ e. absurd (cc))
option-Decides (Some x) (Some y) = (λ h. ap (λ (n : Name). Some n) ((name_cmp-Decides x y).0 h), λ e. (name_cmp-Decides x y).1 (same_Some x y e))

list-Decides : (xs ys : List (Option Name)) → Decides (is_eq (list_cmp xs ys)) (xs ≡ ys)
list-Decides [] [] = (λ _. refl, λ _. refl)
list-Decides [] (y ∷ ys) = (λ h. absurd (true≢false (sym h)), λ e. absurd (cc))
list-Decides (x ∷ xs) [] = (λ h. absurd (true≢false (sym h)), λ e. absurd (cc))
list-Decides (x ∷ xs) (y ∷ ys) =
    then-Decides (option_cmp names.name_cmp x y) (list_cmp xs ys) (option-Decides x y) (list-Decides xs ys) (λ a b. λ i. a i ∷ b i)
    (λ e. let s : x ≡ y = cc in s) (λ e. let s : xs ≡ ys = cc in s)

-- the port with this component, if there is one, and this name
abbrev port_at : Option Name → Name → Port
port_at o n = elim o [ None ↦ record { at = []; name = n } | Some c ↦ record { at = c ∷ []; name = n } ]

abbrev innermost : Path → Option Name
innermost [] = None
innermost (c ∷ p) = Some c

name_is : (o : Option Name) (n : Name) → (port_at o n).name ≡ n
name_is None n = refl
name_is (Some c) n = refl

component_is : (o : Option Name) (n : Name) → innermost (port_at o n).at ≡ o
component_is None n = refl
component_is (Some c) n = refl

same_name_in : (a b : Option Name) (n m : Name) → port_at a n ≡ port_at b m → n ≡ m
same_name_in a b n m e = sym (name_is a n) ∙ ap (λ (p : Port). p.name) e ∙ name_is b m

same_component : (a b : Option Name) (n m : Name) → port_at a n ≡ port_at b m → a ≡ b
same_component a b n m e = sym (component_is a n) ∙ ap (λ (p : Port). innermost p.at) e ∙ component_is b m

names_of_ends : (x y : Connection) → ends_of x ≡ ends_of y → names_at x ≡ names_at y
names_of_ends x y e =
    let f : port_at x.from.component x.from.port ≡ port_at y.from.component y.from.port = ap (λ (p : Port × Port). p.0) e in
    let t : port_at x.to.component x.to.port ≡ port_at y.to.component y.to.port = ap (λ (p : Port × Port). p.1) e in
    λ i. same_component x.from.component y.from.component x.from.port y.from.port f i ∷ Some (same_name_in x.from.component y.from.component x.from.port y.from.port f i)
    ∷ same_component x.to.component y.to.component x.to.port y.to.port t i ∷ Some (same_name_in x.to.component y.to.component x.to.port y.to.port t i) ∷ []

ends_of_names : (x y : Connection) → names_at y ≡ names_at x → ends_of x ≡ ends_of y
ends_of_names x y e =
    let a : x.from.component ≡ y.from.component = cc in
    let b : x.from.port ≡ y.from.port = cc in
    let c : x.to.component ≡ y.to.component = cc in
    let d : x.to.port ≡ y.to.port = cc in
    λ i. (port_at (a i) (b i), port_at (c i) (d i))

pub ends_compared : (x y : Connection) → same_names (names_at x) (names_at y) ≡ same_ends (ends_of x) (ends_of y)
ends_compared x y =
    let decided = list-Decides (names_at y) (names_at x) in
    same_Decides (same_names (names_at x) (names_at y)) (same_ends (ends_of x) (ends_of y)) (ends_of x ≡ ends_of y)
    (λ h. ends_of_names x y (decided.0 h), λ e. decided.1 (sym (names_of_ends x y e))) (ends_Decides (ends_of x) (ends_of y))
