-- The lines of a trace have one line feed, at their end.
use Rattle.std.proofs.Common.{◌≡◌, ℕ, ◌≤◌, Bool, true, false, cond, List, [], ◌∷◌, ◌++◌, Some, None, codes, refl, sym, ap, ap₂, subst, ◌∙◌, arith, append_assoc, inl, inr}
use Rattle.std.specs.Prelude.{ℤ, pos, neg_ℤ, ◌^◌, ◌-◌, Option, is_some, option_map, not, ◌&&◌, ◌||◌, ◌==◌, if◌then◌else◌, nat_eq}
use Rattle.std.specs.List.{list_all, onto_first, slice_split}
use Rattle.std.specs.Io.BufRead.{take_through}
use Rattle.std.specs.Str.{bytes_eq}
use Rattle.std.proofs.lemmas.Bool.{eqb-true, ne_eqb}
use Rattle.std.proofs.lemmas.Slice.Eq.{bytes_eq-Decides}
use Rattle.fb_types.specs.declared.value.Value.TheVariants as value
use Rattle.fb_types.specs.declared.run.Form.{Form}
use Rattle.fb_types.specs.declared.run.Form.TheVariants.{One, Two}
use Rattle.fb_expect.specs.Events.{Event, IsHead, IsKeyText, IsLine, IsNumberText, side_text}
use Rattle.fb_expect.specs.Traces.{IsEndOf, IsReason}
use Rattle.fb_expect.specs.Words.{Text, ◌>>=◌, are_values, below_zero, is_binding, is_name, magnitude, natural, split_at_mark, value_of, whole}
use Rattle.fb_expect.specs.declared.ending.End.{End}
use Rattle.fb_expect.specs.declared.ending.End.TheVariants.{Horizon, Stop, Cut}
use Rattle.fb_expect.proofs.lemmas.texts.Completing.{all-map, and-parts, magnitude-plain, name-plain, never, number-plain, plain, port-plain, split-all}
use Rattle.fb_expect.proofs.lemmas.texts.TextParts.{part_first}

abbrev no-feed : ℕ → Bool
no-feed b = not (b == 10)

high-no-feed : (b : ℕ) → 11 ≤ b → no-feed b ≡ true
high-no-feed b high = ap (λ (x : Bool). not x) (ne_eqb b 10 (λ e. absurd (omega (arith, e, high))))

plain-no-feed : (b : ℕ) → plain b ≡ true → no-feed b ≡ true
plain-no-feed b is = by (b == 32) (b == 10) is
  where
    by : (x y : Bool) → not (x || y) ≡ true → not y ≡ true
    by true y h = never false h refl
    by false y h = h

plain-text : (z : Text) → list_all plain z ≡ true → list_all no-feed z ≡ true
plain-text z all = all-map plain no-feed plain-no-feed z all

both : (a b : Text) → list_all no-feed a ≡ true → list_all no-feed b ≡ true → list_all no-feed (a ++ b) ≡ true
both [] b first second = second
both (x ∷ a) b first second =
    let parts = and-parts (no-feed x) (list_all no-feed a) first in
    ap₂ (λ (s t : Bool). s && t) parts.0 (both a b parts.1 second)

-- ---- Values

parts-all : (mark : ℕ) (z : Text) → list_all no-feed z ≡ true → list_all (list_all no-feed) (slice_split (nat_eq mark) z) ≡ true
parts-all mark [] all = refl
parts-all mark (b ∷ z) all =
    let parts = and-parts (no-feed b) (list_all no-feed z) all in
    by (nat_eq mark b) (slice_split (nat_eq mark) z) parts.0 (parts-all mark z parts.1)
  where
    by :
        (stop : Bool) (zs : List Text) → no-feed b ≡ true → list_all (list_all no-feed) zs ≡ true
        → list_all (list_all no-feed) (cond stop ([] ∷ zs) (onto_first b zs)) ≡ true
    by true zs one more = more
    by false [] one more = ap (λ (t : Bool). (t && true) && true) one
    by false (w ∷ zs) one more = ap (λ (t : Bool). (t && list_all no-feed w) && list_all (list_all no-feed) zs) one ∙ more

number-text : (most : ℕ) (z : Text) → is_some (natural most z) ≡ true → list_all no-feed z ≡ true
number-text most z is = plain-text z (number-plain most z is)

below : (o : Option ℕ) → is_some (o >>= λ n. if n == 0 then None else Some (neg_ℤ (pos n))) ≡ true → is_some o ≡ true
below None h = never false h refl
below (Some n) h = refl

as-whole : (o : Option ℕ) → is_some (option_map pos o) ≡ true → is_some o ≡ true
as-whole None h = never false h refl
as-whole (Some n) h = refl

whole-by :
    (b : ℕ) (z : Text) (sign : Bool) → (b == 45) ≡ sign → is_some (if sign then below_zero z else option_map pos (magnitude (b ∷ z))) ≡ true
    → list_all no-feed (b ∷ z) ≡ true
whole-by b z true same there =
    let e = eqb-true b 45 same in
    ap₂ (λ (s t : Bool). s && t) (high-no-feed b (omega (arith, e))) (number-text (2 ^ 64 - 1) z (below (magnitude z) there))
whole-by b z false same there = number-text (2 ^ 64 - 1) (b ∷ z) (as-whole (magnitude (b ∷ z)) there)

whole-text : (z : Text) → is_some (whole z) ≡ true → list_all no-feed z ≡ true
unfolding whole
whole-text [] is = never false is refl
whole-text (b ∷ z) is = whole-by b z (b == 45) refl is

as-value : (o : Option ℤ) → is_some (option_map value.Whole o) ≡ true → is_some o ≡ true
as-value None h = never false h refl
as-value (Some n) h = refl

second-truth :
    (z : Text) (t : Bool) → bytes_eq z (codes "FALSE") ≡ t → is_some (if t then Some (value.Bool false) else option_map value.Whole (whole z)) ≡ true
    → list_all no-feed z ≡ true
second-truth z true same there = subst (λ (y : Text). list_all no-feed y ≡ true) (sym ((bytes_eq-Decides z (codes "FALSE")).0 same)) refl
second-truth z false same there = whole-text z (as-value (whole z) there)

first-truth :
    (z : Text) (t : Bool) → bytes_eq z (codes "TRUE") ≡ t
    → is_some (if t then Some (value.Bool true) else (if bytes_eq z (codes "FALSE") then Some (value.Bool false) else option_map value.Whole (whole z))) ≡ true
    → list_all no-feed z ≡ true
first-truth z true same there = subst (λ (y : Text). list_all no-feed y ≡ true) (sym ((bytes_eq-Decides z (codes "TRUE")).0 same)) refl
first-truth z false same there = second-truth z (bytes_eq z (codes "FALSE")) refl there

value-text : (z : Text) → is_some (value_of z) ≡ true → list_all no-feed z ≡ true
unfolding value_of
value-text z is = first-truth z (bytes_eq z (codes "TRUE")) refl is

bound-by :
    (w a b : Text) → split_at_mark 61 w ≡ Some (a, b) → (named : Bool) → is_name a ≡ named → is_some (if named then value_of b else None) ≡ true
    → list_all no-feed w ≡ true
bound-by w a b parted true named there =
    split-all no-feed 61 refl w
    (ap (λ (zs : List Text). list_all (list_all no-feed) zs) (part_first 61 w a b (sym parted))
    ∙ ap₂ (λ (s t : Bool). s && t) (plain-text a (name-plain a named)) (parts-all 61 b (value-text b there)))
bound-by w a b parted false named there = never false there refl

bindings : (w : Text) (o : Option (Text × Text)) → split_at_mark 61 w ≡ o → is_some (o >>= λ p. if is_name p.0 then value_of p.1 else None) ≡ true → list_all no-feed w ≡ true
bindings w None parted there = never false there refl
bindings w (Some (a, b)) parted there = bound-by w a b parted (is_name a) refl there

binding-text : (w : Text) → is_binding w ≡ true → list_all no-feed w ≡ true
unfolding is_binding
binding-text w is = bindings w (split_at_mark 61 w) refl is

words-text : (ws : List Text) → list_all is_binding ws ≡ true → list_all (list_all no-feed) ws ≡ true
words-text [] all = refl
words-text (w ∷ ws) all =
    let parts = and-parts (is_binding w) (list_all is_binding ws) all in
    ap₂ (λ (s t : Bool). s && t) (binding-text w parts.0) (words-text ws parts.1)

values-text : (z : Text) → are_values z ≡ true → list_all no-feed z ≡ true
values-text [] are = refl
values-text (b ∷ z) are =
    let parts = and-parts (b == 32) (list_all is_binding (slice_split (nat_eq 32) z)) are in
    let e = eqb-true b 32 parts.0 in
    ap₂ (λ (s t : Bool). s && t) (high-no-feed b (omega (arith, e)))
    (split-all no-feed 32 refl z (words-text (slice_split (nat_eq 32) z) parts.1))

-- ---- Lines

-- the text has one line feed, and ends in it
pub record IsFed (text : Text) : Type 0 where
  pub front : Text
  pub none : list_all no-feed front ≡ true
  pub parts : text ≡ front ++ codes "\n"

after-more : (a z : Text) → list_all no-feed a ≡ true → IsFed z → IsFed (a ++ z)
after-more a z all fed =
    record { front = a ++ fed.front; none = both a fed.front all fed.none; parts = ap (λ (t : Text). a ++ t) fed.parts ∙ sym (append_assoc a fed.front (codes "\n")) }

number-fed : (most : ℕ) (text : Text) → IsNumberText most text → list_all no-feed text ≡ true
number-fed most text (digits, is, parts) =
    subst (λ (t : Text). list_all no-feed t ≡ true) (sym parts) (both digits (codes " ") (number-text most digits is) refl)

head-text : (form : Form) (head : Text) → IsHead form head → list_all no-feed head ≡ true
head-text One head is = subst (λ (t : Text). list_all no-feed t ≡ true) (sym is) refl
head-text Two head key =
    subst (λ (t : Text). list_all no-feed t ≡ true) (sym key.parts)
    (both key.class (key.a ++ key.b) (number-fed (2 ^ 8 - 1) key.class key.is_class)
    (both key.a key.b (number-fed (2 ^ 128 - 1) key.a key.is_a) (number-fed (2 ^ 128 - 1) key.b key.is_b)))

side-fed : (taken : Bool) → list_all no-feed (side_text taken) ≡ true
side-fed true = refl
side-fed false = refl

digits-fed : (digits : Text) (tick : ℕ) → magnitude digits ≡ Some tick → list_all no-feed digits ≡ true
digits-fed digits tick is = plain-text digits (magnitude-plain digits tick is)

pub line-fed : (form : Form) (text : Text) (e : Event) → IsLine form text e → IsFed text
line-fed form text e line =
    subst IsFed (sym line.parts)
    (after-more line.head _ (head-text form line.head line.is_head)
    (after-more line.digits _ (digits-fed line.digits e.tick line.tick_is)
    (after-more (codes " ") _ refl
    (after-more e.resource _ (plain-text e.resource (name-plain e.resource line.resource_is))
    (after-more (side_text e.taken) _ (side-fed e.taken)
    (after-more e.port _ (plain-text e.port (port-plain e.port line.port_is))
    (record { front = e.values; none = values-text e.values line.values_are; parts = refl })))))))

reason-fed : (text : Text) → IsReason text → list_all no-feed text ≡ true
reason-fed text (inl is) = subst (λ (t : Text). list_all no-feed t ≡ true) (sym is) refl
reason-fed text (inr (inl is)) = subst (λ (t : Text). list_all no-feed t ≡ true) (sym is) refl
reason-fed text (inr (inr is)) = subst (λ (t : Text). list_all no-feed t ≡ true) (sym is) refl

pub end-fed : (text : Text) (end : End) → IsEndOf text end → IsFed text
end-fed text (Horizon h) (digits, is, parts) =
    subst IsFed (sym parts) (after-more (codes "end ") (digits ++ codes "\n") refl (record { front = digits; none = digits-fed digits h is; parts = refl }))
end-fed text (Stop t) (stop, is, parts) =
    let digits = digits-fed is.digits t is.tick_is in
    let rest = both is.resource (codes " " ++ is.reason) (plain-text is.resource (name-plain is.resource is.resource_is)) (both (codes " ") is.reason refl (reason-fed is.reason is.reason_is)) in
    let none = subst (λ (z : Text). list_all no-feed z ≡ true) (sym is.parts) (both is.digits (codes " " ++ (is.resource ++ (codes " " ++ is.reason))) digits (both (codes " ") (is.resource ++ (codes " " ++ is.reason)) refl rest)) in
    subst IsFed (sym parts) (after-more (codes "stop ") (stop ++ codes "\n") refl (record { front = stop; none = none; parts = refl }))
end-fed text (Cut t) is = absurd is

-- ---- The first line of a text

front-through : (front rest : Text) → list_all no-feed front ≡ true → take_through 10 ((front ++ codes "\n") ++ rest) ≡ front ++ codes "\n"
front-through [] rest all = refl
front-through (x ∷ front) rest all =
    let parts = and-parts (no-feed x) (list_all no-feed front) all in
    ap (λ (t : Bool). if t then x ∷ [] else x ∷ take_through 10 ((front ++ codes "\n") ++ rest)) (off (x == 10) parts.0)
    ∙ ap (λ (z : Text). x ∷ z) (front-through front rest parts.1)
  where
    off : (t : Bool) → not t ≡ true → t ≡ false
    off true h = never false h refl
    off false h = refl

pub fed-through : (text rest : Text) → IsFed text → take_through 10 (text ++ rest) ≡ text
fed-through text rest fed =
    ap (λ (t : Text). take_through 10 (t ++ rest)) fed.parts ∙ front-through fed.front rest fed.none ∙ sym fed.parts
