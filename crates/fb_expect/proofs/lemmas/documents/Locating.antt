-- Where a document is refused, its bytes are.
use Rattle.std.proofs.Common.{◌≡◌, ◌≤◌, ℕ, zero, suc, ◌+◌, Bool, true, false, List, [], ◌∷◌, length, get_or, map, take, Vec, Global, Option, Some, None, Result, Ok, Err, refl, sym, ap, ap₂, subst, ◌∙◌, arith}
use Rattle.std.specs.Prelude.{◌<◌, ◌&&◌, not, if◌then◌else◌, IfNone, IfOk, IfSome, is_some, nat_le, option_map, slice_get, unwrap_or}
use Rattle.std.specs.List.{list_all}
use Rattle.std.specs.Option.{option_or}
use Rattle.std.proofs.lemmas.Bool.{and_parts, leb-true, true≢false}
use Rattle.std.proofs.lemmas.List.{take_all}
use Rattle.std.proofs.lemmas.Option.{none-some, same_Some}
use Rattle.toml.specs.Data.{Data, Members}
use Rattle.fb_types.specs.Names.{Name}
use Rattle.fb_expect.specs.Drafts.{RuleText, rule_text, rules_in, text_of, texts_of}
use Rattle.fb_expect.specs.Lists.{◌>>=◌, each, may}
use Rattle.fb_expect.specs.Locations.{IsAmongTexts, IsAmongValues, IsDocumentFault, IsLocation, has_numbers, has_shape, number_at, numbers_judged, refusal_of}
use Rattle.fb_expect.specs.Needs.{has_patterns, names_in, names_of, need_of, pairing_by, pairing_of, rule_of, with_names}
use Rattle.fb_expect.specs.OwnNames.{have_own_names}
use Rattle.fb_expect.specs.Reading.{accepted, document, most_bytes, most_rules, of_document, rules_of, rules_of_drafts}
use Rattle.fb_expect.specs.Refusals.{bad_number, bad_pattern, bad_shape}
use Rattle.fb_expect.specs.Words.{Text}
use Rattle.fb_expect.specs.Written.{pattern_of}
use Rattle.fb_expect.specs.declared.document.Draft.{Draft}
use Rattle.fb_expect.specs.declared.location.RulesLocation.{RulesLocation}
use Rattle.fb_expect.specs.declared.location.RulesLocation.TheVariants as location
use Rattle.fb_expect.specs.declared.pattern.Pattern.{Pattern}
use Rattle.fb_expect.specs.declared.rule.Need.{Need}
use Rattle.fb_expect.specs.declared.rule.Pairing.{Pairing}
use Rattle.fb_expect.specs.declared.rule.Rule.{Rule}

location-of : (bytes : Text) (keys : Members) (p : RulesLocation) → document bytes ≡ Some keys → IsDocumentFault keys p → IsLocation bytes p
location-of bytes keys location.Bytes is at = absurd at.2
location-of bytes keys (location.Document start) is at = absurd at.2
location-of bytes keys location.List is at = (keys, is, at)
location-of bytes keys (location.Rule i f) is at = (keys, is, at)
location-of bytes keys (location.Pattern i k) is at = (keys, is, at)
location-of bytes keys (location.Number i k) is at = (keys, is, at)
location-of bytes keys location.Crowded is at = (keys, is, at)
location-of bytes keys (location.Repeated i) is at = (keys, is, at)

pub located :
    {E : Type 0} (bytes : Text) (keys : Members) (r : Result (Option RulesLocation) E) → document bytes ≡ Some keys → IfOk r (λ o. IfSome o (IsDocumentFault keys))
    → IfOk r (λ o. IfSome o (IsLocation bytes))
located bytes keys (Err e) is at = tt
located bytes keys (Ok None) is at = tt
located bytes keys (Ok (Some p)) is at = location-of bytes keys p is at

-- what is so of the first that is found, or else of the second
pub one_of : {A : Type 0} (P : A → Type 0) (x y z : Option A) → z ≡ option_or x y → IfSome x P → IfSome y P → IfSome z P
one_of {A} P None y z is first second = subst (λ (o : Option A). IfSome o P) (sym is) second
one_of {A} P (Some a) y z is first second = subst (λ (o : Option A). IfSome o P) (sym is) first

pub the_one : {A : Type 0} (P : A → Type 0) (x y z : Option A) (a : A) → z ≡ Some a → z ≡ option_or x y → IfSome x P → IfSome y P → P a
the_one {A} P x y z a found is first second = subst (λ (o : Option A). IfSome o P) found (one_of P x y z is first second)

-- ---- The first of a list

-- what is seen of the element at an index
pub seen-at : {A B : Type 0} (f : A → B) (xs : List A) (i : ℕ) (x : A) → i < length xs → x ≡ get_or xs i x → slice_get (map f xs) i ≡ Some (f x)
seen-at f [] i x lt is = absurd (omega (arith, lt))
seen-at {A} {B} f (y ∷ ys) zero x lt is = ap (λ (z : A). Some (f z)) (sym is)
seen-at f (y ∷ ys) (suc i) x lt is = seen-at f ys i x (omega (arith, lt)) is

-- all up to one that is so too
pub all-next :
    {A : Type 0} (p : A → Bool) (xs : List A) (i : ℕ) (x : A) → slice_get xs i ≡ Some x → list_all p (take i xs) ≡ true → p x ≡ true → list_all p (take (i + 1) xs) ≡ true
all-next {A} p xs i x is all one =
    let more : i + 1 ≡ suc i = omega arith in
    ap (λ (n : ℕ). list_all p (take n xs)) more ∙ go xs i is all
  where
    go : (xs : List A) (i : ℕ) → slice_get xs i ≡ Some x → list_all p (take i xs) ≡ true → list_all p (take (suc i) xs) ≡ true
    go [] i is all = refl
    go (y ∷ ys) zero is all = ap (λ (b : Bool). b && true) (ap p (same_Some y x is) ∙ one)
    go (y ∷ ys) (suc i) is all =
        let parts = and_parts (p y) (list_all p (take i ys)) all in
        ap₂ (λ (a b : Bool). a && b) parts.0 (go ys i is parts.1)

pub all-whole : {A : Type 0} (p : A → Bool) (xs : List A) (n : ℕ) → length xs ≤ n → list_all p (take n xs) ≡ true → list_all p xs ≡ true
all-whole {A} p xs n le all = subst (λ (ys : List A). list_all p ys ≡ true) (take_all n xs le) all

-- one that is not
pub all-fails : {A : Type 0} (p : A → Bool) (xs : List A) (i : ℕ) (x : A) → slice_get xs i ≡ Some x → p x ≡ false → list_all p xs ≡ false
all-fails p [] i x is off = absurd (none-some x is)
all-fails p (y ∷ ys) zero x is off = ap (λ (b : Bool). b && list_all p ys) (ap p (same_Some y x is) ∙ off)
all-fails p (y ∷ ys) (suc i) x is off = ap (λ (b : Bool). p y && b) (all-fails p ys i x is off) ∙ by (p y)
  where
    by : (b : Bool) → (b && false) ≡ false
    by true = refl
    by false = refl

-- each has a result
pub each-there :
    {A B : Type 0} (f : A → Option B) (xs : List A) → list_all (λ x. is_some (f x)) xs ≡ true → (ys : List B) × (each f xs ≡ Some ys) × (length ys ≡ length xs)
unfolding each
each-there f [] all = ([], refl, refl)
each-there {A} {B} f (x ∷ xs) all =
    let parts = and_parts (is_some (f x)) (list_all (λ x. is_some (f x)) xs) all in
    let rest = each-there f xs parts.1 in
    by (f x) parts.0 rest
  where
    by :
        (o : Option B) → is_some o ≡ true → (ys : List B) × (each f xs ≡ Some ys) × (length ys ≡ length xs)
        → (ys : List B) × ((o >>= λ y. each f xs >>= λ ys. Some (y ∷ ys)) ≡ Some ys) × (length ys ≡ suc (length xs))
    by None there rest = absurd (true≢false (sym there))
    by (Some y) there rest =
        (y ∷ rest.0, ap (λ (o : Option (List B)). o >>= λ ys. Some (y ∷ ys)) rest.1, ap (λ (n : ℕ). suc n) rest.2)

-- one has none
pub each-missing : {A B : Type 0} (f : A → Option B) (xs : List A) (i : ℕ) (x : A) → slice_get xs i ≡ Some x → f x ≡ None → each f xs ≡ None
unfolding each
each-missing f [] i x is none = absurd (none-some x is)
each-missing {A} {B} f (y ∷ ys) zero x is none = ap (λ (o : Option B). o >>= λ z. each f ys >>= λ zs. Some (z ∷ zs)) (ap f (same_Some y x is) ∙ none)
each-missing {A} {B} f (y ∷ ys) (suc i) x is none =
    ap (λ (o : Option (List B)). f y >>= λ z. o >>= λ zs. Some (z ∷ zs)) (each-missing f ys i x is none) ∙ by (f y)
  where
    by : (o : Option B) → ◌≡◌ {A = Option (List B)} (o >>= λ z. None) None
    by None = refl
    by (Some z) = refl

-- ---- A rule

abbrev made-rule : RuleText → Need → Pattern → (second third : Option Pattern) → Option Pairing → Rule
made-rule t n first second third pairing =
    record {
      name = t.name;
      need = n;
      first = with_names (names_in pairing) first;
      second = option_map (with_names (names_in pairing)) second;
      third = third;
      pairing = pairing;
    }

-- its texts are patterns and its numbers in range
rule-there : (t : RuleText) → has_numbers t ≡ true → has_patterns t ≡ true → is_some (rule_of t) ≡ true
unfolding has_patterns rule_of pairing_of
rule-there t numbers patterns = by (need_of t.need) (pattern_of t.first) (may pattern_of t.second) (may pattern_of t.third) (names_of t.same) numbers patterns
  where
    by :
        (n : Option Need) (a : Option Pattern) (b c : Option (Option Pattern)) (g : Option (Option (List Name))) → is_some n ≡ true
        → (is_some a && (is_some b && (is_some c && is_some g))) ≡ true
        → is_some (n >>= λ n. a >>= λ first. b >>= λ second. c >>= λ third. (g >>= λ names. Some (pairing_by names (unwrap_or t.turns false))) >>= λ pairing.
        Some (made-rule t n first second third pairing)) ≡ true
    by (Some n) (Some a) (Some b) (Some c) (Some g) h k = refl
    by None a b c g h k = absurd (true≢false (sym h))
    by (Some n) None b c g h k = absurd (true≢false (sym k))
    by (Some n) (Some a) None c g h k = absurd (true≢false (sym k))
    by (Some n) (Some a) (Some b) None g h k = absurd (true≢false (sym k))
    by (Some n) (Some a) (Some b) (Some c) None h k = absurd (true≢false (sym k))

rules-there :
    (ts : List RuleText) → list_all has_numbers ts ≡ true → list_all has_patterns ts ≡ true → list_all (λ t. is_some (rule_of t)) ts ≡ true
rules-there [] numbers patterns = refl
rules-there (t ∷ ts) numbers patterns =
    let n = and_parts (has_numbers t) (list_all has_numbers ts) numbers in
    let p = and_parts (has_patterns t) (list_all has_patterns ts) patterns in
    ap₂ (λ (a b : Bool). a && b) (rule-there t n.0 p.0) (rules-there ts n.1 p.1)

no-rule : (t : RuleText) → need_of t.need ≡ None → rule_of t ≡ None
unfolding rule_of
no-rule t none = rw none refl

-- ---- Refusals

-- the number of a rule is wrong
pub number-refused :
    (ts : List RuleText) (i : ℕ) (t : RuleText) → slice_get ts i ≡ Some t → need_of t.need ≡ None → Some bad_number ≡ refusal_of (numbers_judged ts)
number-refused ts i t is none = rw (each-missing rule_of ts i t is (no-rule t none)) refl

-- none is, and then the count of rules decides, and whether each has a name of its own
pub numbers-read :
    (ts : List RuleText) → list_all has_numbers ts ≡ true → list_all has_patterns ts ≡ true → (fits : Bool) → nat_le (length ts) most_rules ≡ fits
    → (if fits then (if have_own_names ts then None else Some bad_shape) else Some 40) ≡ refusal_of (numbers_judged ts)
numbers-read ts numbers patterns fits is =
    let all = each-there rule_of ts (rules-there ts numbers patterns) in
    rw all.1 (by all.0 fits (ap (λ (n : ℕ). nat_le n most_rules) all.2 ∙ is) (have_own_names ts))
  where
    by :
        (rules : List Rule) (fits : Bool) → nat_le (length rules) most_rules ≡ fits → (named : Bool)
        → (if fits then (if named then None else Some bad_shape) else Some 40) ≡ refusal_of (accepted named rules)
    by rules true is true = rw is refl
    by rules true is false = rw is refl
    by rules false is named = rw is refl

-- the shape of a value is wrong
pub shape-refused : (keys : Members) (ds : List Data) (i : ℕ) (d : Data) → rules_in keys ≡ Some ds → slice_get ds i ≡ Some d → rule_text d ≡ None → Some bad_shape ≡ refusal_of (of_document keys)
unfolding texts_of
shape-refused keys ds i d in-keys is none = rw (in-keys, each-missing rule_text ds i d is none) refl

pub list-refused : (keys : Members) → rules_in keys ≡ None → Some bad_shape ≡ refusal_of (of_document keys)
unfolding texts_of
list-refused keys none = rw none refl

-- the shapes of all values are right
pub shapes-read : (keys : Members) (ds : List Data) → rules_in keys ≡ Some ds → list_all has_shape ds ≡ true → texts_of keys ≡ None → ⊥
unfolding texts_of
shapes-read keys ds in-keys all none =
    let there = each-there rule_text ds all in
    none-some there.0 (sym none ∙ (rw (in-keys, there.1) refl))

pub texts-read : (keys : Members) (ts : List RuleText) (o : Option ℕ) → texts_of keys ≡ Some ts → o ≡ refusal_of (rules_of_drafts ts) → o ≡ refusal_of (of_document keys)
texts-read keys ts o is same = rw is same

pub drafts-refused : (ts : List RuleText) → list_all has_patterns ts ≡ false → Some bad_pattern ≡ refusal_of (rules_of_drafts ts)
unfolding rules_of_drafts
drafts-refused ts off = rw off refl

pub drafts-read : (ts : List RuleText) (o : Option ℕ) → list_all has_patterns ts ≡ true → o ≡ refusal_of (numbers_judged ts) → o ≡ refusal_of (rules_of_drafts ts)
unfolding rules_of_drafts
drafts-read ts o all same = rw all same

-- the first that is wrong among these
pub patterns-judged : (ts : List RuleText) (o : Option ℕ) → o ≡ (if list_all has_patterns ts then None else Some bad_pattern) → (n : ℕ) → o ≡ Some n → (list_all has_patterns ts ≡ false) × (n ≡ bad_pattern)
patterns-judged ts o is n some = by (list_all has_patterns ts) refl (sym some ∙ is)
  where
    by : (t : Bool) → list_all has_patterns ts ≡ t → Some n ≡ (if t then None else Some bad_pattern) → (list_all has_patterns ts ≡ false) × (n ≡ bad_pattern)
    by true same e = absurd (none-some n (sym e))
    by false same e = (same, same_Some n bad_pattern e)

pub patterns-all : (ts : List RuleText) → None ≡ (if list_all has_patterns ts then None else Some bad_pattern) → list_all has_patterns ts ≡ true
patterns-all ts is = by (list_all has_patterns ts) refl is
  where
    by : (t : Bool) → list_all has_patterns ts ≡ t → ◌≡◌ {A = Option ℕ} None (if t then None else Some bad_pattern) → list_all has_patterns ts ≡ true
    by true same e = same
    by false same e = absurd (none-some bad_pattern e)

-- a test that fails, by what is found
pub so-not : (b : Bool) → false ≡ not b → b ≡ true
so-not true e = refl
so-not false e = absurd (true≢false (sym e))

pub not-so : (b : Bool) → true ≡ not b → b ≡ false
not-so true e = absurd (true≢false e)
not-so false e = refl

pub over-most : (n most : ℕ) → most < n → nat_le n most ≡ false
over-most n most over = by (nat_le n most) refl
  where
    by : (t : Bool) → nat_le n most ≡ t → t ≡ false
    by true is = let le = leb-true n most is in absurd (omega (arith, le, over))
    by false is = refl

-- ---- Bytes

pub bytes-refused : (bytes : Text) → nat_le (length bytes) most_bytes ≡ false → Some 40 ≡ refusal_of (rules_of bytes)
unfolding rules_of
bytes-refused bytes off = rw off refl

pub document-refused : (bytes : Text) → nat_le (length bytes) most_bytes ≡ true → document bytes ≡ None → Some 41 ≡ refusal_of (rules_of bytes)
unfolding rules_of
document-refused bytes short none = rw (short, none) refl

pub document-read :
    (bytes : Text) (keys : Members) (o : Option ℕ) → nat_le (length bytes) most_bytes ≡ true → document bytes ≡ Some keys → o ≡ refusal_of (of_document keys) → o ≡ refusal_of (rules_of bytes)
unfolding rules_of
document-read bytes keys o short is same = rw (short, is) same

-- ---- Locations

pub texts-are :
    (o : Option (Vec Draft Global)) (v : Vec Draft Global) (t : Option (List RuleText)) → option_map (λ ds. map text_of ds.items) o ≡ t → o ≡ Some v
    → t ≡ Some (map text_of v.items)
texts-are o v t same is = sym same ∙ ap (λ (o : Option (Vec Draft Global)). option_map (λ ds. map text_of ds.items) o) is

pub no-texts : (o : Option (Vec Draft Global)) (t : Option (List RuleText)) → option_map (λ ds. map text_of ds.items) o ≡ t → o ≡ None → t ≡ None
no-texts o t same is = sym same ∙ ap (λ (o : Option (Vec Draft Global)). option_map (λ ds. map text_of ds.items) o) is

pub value-located : (keys : Members) (ds : List Data) (p : RulesLocation) → rules_in keys ≡ Some ds → IsAmongValues ds p → Some (number_at p) ≡ refusal_of (of_document keys)
value-located keys ds (location.Rule i f) in-keys at = shape-refused keys ds i at.value in-keys at.there at.so.0
value-located keys ds location.Bytes in-keys at = absurd at
value-located keys ds (location.Document start) in-keys at = absurd at
value-located keys ds location.List in-keys at = absurd at
value-located keys ds (location.Pattern i k) in-keys at = absurd at
value-located keys ds (location.Number i k) in-keys at = absurd at
value-located keys ds location.Crowded in-keys at = absurd at
value-located keys ds (location.Repeated i) in-keys at = absurd at

pub texts-located :
    {E : Type 0} (keys : Members) (ts : List RuleText) (r : Result (Option RulesLocation) E) → texts_of keys ≡ Some ts
    → IfOk r (λ o. option_map number_at o ≡ refusal_of (rules_of_drafts ts)) → IfOk r (λ o. option_map number_at o ≡ refusal_of (of_document keys))
texts-located keys ts (Err e) is same = tt
texts-located keys ts (Ok o) is same = texts-read keys ts (option_map number_at o) is same

pub document-located :
    {E : Type 0} (bytes : Text) (keys : Members) (r : Result (Option RulesLocation) E) → nat_le (length bytes) most_bytes ≡ true → document bytes ≡ Some keys
    → IfOk r (λ o. option_map number_at o ≡ refusal_of (of_document keys)) → IfOk r (λ o. option_map number_at o ≡ refusal_of (rules_of bytes))
document-located bytes keys (Err e) short is same = tt
document-located bytes keys (Ok o) short is same = document-read bytes keys (option_map number_at o) short is same
