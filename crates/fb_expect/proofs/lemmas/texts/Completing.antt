-- Each line of an event is read as that event, and as no other.
use Rattle.std.proofs.Common.{◌≡◌, ℕ, suc, ◌+◌, ◌-◌, ◌^◌, ◌≤◌, Bool, true, false, cond, List, [], ◌∷◌, ◌++◌, length, take, drop, Some, None, codes, refl, sym, ap, ap₂, subst, ◌∙◌, arith, append_assoc, length-append, inl, inr}
use Rattle.std.specs.Prelude.{◌⊎◌, Option, is_some, fold, option_map, not, slice_index, ◌&&◌, ◌||◌, ◌==◌, if◌then◌else◌, nat_eq, nat_le, position}
use Rattle.std.specs.Char.{is_ascii_digit}
use Rattle.std.specs.List.{list_all, onto_first, slice_split}
use Rattle.std.specs.Str.{bytes_eq}
use Rattle.std.proofs.Math.Seq.{drop-append_seam, take-append_seam}
use Rattle.std.proofs.lemmas.Bool.{eqb-true, leb-true, ne_eqb, true≢false}
use Rattle.std.proofs.lemmas.List.Elements.{All-tail}
use Rattle.std.proofs.lemmas.Option.{none-some}
use Rattle.std.proofs.lemmas.Slice.Eq.{bytes_eq-Decides}
use Rattle.fb_types.proofs.lemmas.lists.Positions.{position-cons, position-first}
use Rattle.fb_types.specs.declared.run.Form.{Form}
use Rattle.fb_types.specs.declared.run.Form.TheVariants.{One, Two}
use Rattle.fb_expect.specs.Events.{Event, IsHead, IsKeyText, IsLine, IsNumberText, event_text, side_text}
use Rattle.fb_expect.specs.LineReading.{after_head, after_key, after_number, end_by, is_reason, port_of, read_end, read_line, side_by, side_of, start_of, stop_of}
use Rattle.fb_expect.specs.Traces.{HasNoEnd, IsEndOf, IsLast, IsReason, IsStopText}
use Rattle.fb_expect.specs.declared.ending.End.{End}
use Rattle.fb_expect.specs.declared.ending.End.TheVariants.{Horizon, Stop, Cut}
use Rattle.fb_expect.specs.declared.judging.Cut.{Cut as MayCut}
use Rattle.fb_expect.specs.declared.judging.Cut.TheVariants.{Refused, Allowed}
use Rattle.fb_expect.specs.Words.{Text, ◌>>=◌, after_front, are_values, before, cut, is_end, is_letter, is_name, is_numeral, is_path, is_port, is_word, magnitude, natural, with_digit}

pub never : {P : Type 0} (b : Bool) → b ≡ true → b ≡ false → P
never b sure off = absurd (true≢false (sym sure ∙ off))

pub and-parts : (a b : Bool) → (a && b) ≡ true → (a ≡ true) × (b ≡ true)
and-parts true b is = (refl, is)
and-parts false b is = never false is refl

either : (x y : Bool) → (x || y) ≡ true → (x ≡ true) ⊎ (y ≡ true)
either true y is = inl refl
either false y is = inr is

-- ---- Bytes that end no word

abbrev pub plain : ℕ → Bool
plain b = not (is_end b)

high-plain : (b : ℕ) → 33 ≤ b → plain b ≡ true
high-plain b high =
    ap₂ (λ (x y : Bool). not (x || y)) (ne_eqb b 32 (λ e. absurd (omega (arith, e, high)))) (ne_eqb b 10 (λ e. absurd (omega (arith, e, high))))

pub digit-plain : (b : ℕ) → is_ascii_digit b ≡ true → plain b ≡ true
digit-plain b is = let low = leb-true 48 b (and-parts (nat_le 48 b) (nat_le b 57) is).0 in high-plain b (omega (arith, low))

letter-plain : (b : ℕ) → is_letter b ≡ true → plain b ≡ true
letter-plain b is =
    elim (either (nat_le 65 b && nat_le b 90) (b == 95) is) as (λ _. plain b ≡ true) [
      | inl letter ↦ (let low = leb-true 65 b (and-parts (nat_le 65 b) (nat_le b 90) letter).0 in high-plain b (omega (arith, low)))
      | inr line ↦ (let e = eqb-true b 95 line in high-plain b (omega (arith, e)))
    ]

word-plain : (b : ℕ) → is_word b ≡ true → plain b ≡ true
word-plain b is =
    elim (either (is_letter b) (is_ascii_digit b) is) as (λ _. plain b ≡ true) [
      | inl letter ↦ letter-plain b letter
      | inr digit ↦ digit-plain b digit
    ]

pub all-map : (f g : ℕ → Bool) → ((b : ℕ) → f b ≡ true → g b ≡ true) → (z : Text) → list_all f z ≡ true → list_all g z ≡ true
all-map f g more [] all = refl
all-map f g more (b ∷ z) all =
    let parts = and-parts (f b) (list_all f z) all in
    ap₂ (λ (x y : Bool). x && y) (more b parts.0) (all-map f g more z parts.1)

pub name-plain : (z : Text) → is_name z ≡ true → list_all plain z ≡ true
name-plain [] is = never false is refl
name-plain (b ∷ z) is =
    let parts = and-parts (is_letter b) (list_all is_word z) is in
    ap₂ (λ (x y : Bool). x && y) (letter-plain b parts.0) (all-map is_word plain word-plain z parts.1)

names-plain : (zs : List Text) → list_all is_name zs ≡ true → list_all (list_all plain) zs ≡ true
names-plain [] all = refl
names-plain (z ∷ zs) all =
    let parts = and-parts (is_name z) (list_all is_name zs) all in
    ap₂ (λ (x y : Bool). x && y) (name-plain z parts.0) (names-plain zs parts.1)

-- a text is of such bytes whose parts between marks are, if the mark is one
onto-all :
    (p : ℕ → Bool) (b : ℕ) (zs : List Text) → list_all (list_all p) (onto_first b zs) ≡ true → (p b ≡ true) × (list_all (list_all p) zs ≡ true)
onto-all p b [] all = ((and-parts (p b) true (and-parts (p b && true) true all).0).0, refl)
onto-all p b (z ∷ zs) all =
    let parts = and-parts (p b && list_all p z) (list_all (list_all p) zs) all in
    let first = and-parts (p b) (list_all p z) parts.0 in
    (first.0, ap₂ (λ (x y : Bool). x && y) first.1 parts.1)

pub split-all :
    (p : ℕ → Bool) (mark : ℕ) → p mark ≡ true → (z : Text) → list_all (list_all p) (slice_split (nat_eq mark) z) ≡ true → list_all p z ≡ true
split-all p mark so [] all = refl
split-all p mark so (b ∷ z) all = by (nat_eq mark b) refl (λ more. split-all p mark so z more) all
  where
    by :
        (stop : Bool) → nat_eq mark b ≡ stop → (list_all (list_all p) (slice_split (nat_eq mark) z) ≡ true → list_all p z ≡ true)
        → list_all (list_all p) (cond stop ([] ∷ slice_split (nat_eq mark) z) (onto_first b (slice_split (nat_eq mark) z))) ≡ true → (p b && list_all p z) ≡ true
    by true is more parts = ap₂ (λ (x y : Bool). x && y) (ap p (sym (eqb-true mark b is)) ∙ so) (more parts)
    by false is more parts =
        let both = onto-all p b (slice_split (nat_eq mark) z) parts in
        ap₂ (λ (x y : Bool). x && y) both.0 (more both.1)

pub port-plain : (z : Text) → is_port z ≡ true → list_all plain z ≡ true
port-plain z is = split-all plain 46 refl z (names-plain (slice_split (nat_eq 46) z) (and-parts _ (is_path z) is).1)

if-some : (t : Bool) (n : ℕ) → is_some (if t then Some n else None) ≡ true → t ≡ true
if-some true n is = refl
if-some false n is = never false is refl

first-of : (a b c : Bool) → (a && b && c) ≡ true → a ≡ true
first-of true b c is = refl
first-of false b c is = never false is refl

pub number-digits : (most : ℕ) (z : Text) → is_some (natural most z) ≡ true → list_all is_ascii_digit z ≡ true
unfolding natural
number-digits most z is =
    let n = fold with_digit 0 z in
    let numeral = (and-parts (is_numeral z) (nat_le n most) (if-some (is_numeral z && nat_le n most) n is)).0 in
    first-of (list_all is_ascii_digit z) (not (length z == 0)) ((length z == 1) || not (slice_index z 0 == 48)) numeral

pub number-plain : (most : ℕ) (z : Text) → is_some (natural most z) ≡ true → list_all plain z ≡ true
number-plain most z is = all-map is_ascii_digit plain digit-plain z (number-digits most z is)

pub magnitude-plain : (z : Text) (n : ℕ) → magnitude z ≡ Some n → list_all plain z ≡ true
magnitude-plain z n is = number-plain (2 ^ 64 - 1) z (ap (λ (o : Option ℕ). is_some o) is)

-- ---- Parts that are there are found

position-there : (d : Text) (b : ℕ) (r : Text) → list_all plain d ≡ true → is_end b ≡ true → position is_end (d ++ b ∷ r) ≡ Some (length d)
position-there [] b r all end = position-first is_end b r end
position-there (x ∷ d) b r all end =
    let parts = and-parts (plain x) (list_all plain d) all in
    let more : length d + 1 ≡ suc (length d) = omega arith in
    position-cons is_end x (d ++ b ∷ r)
    ∙ ap (λ (t : Bool). cond t (Some 0) (option_map (λ i. i + 1) (position is_end (d ++ b ∷ r)))) (not-on (is_end x) parts.0)
    ∙ ap (option_map (λ i. i + 1)) (position-there d b r parts.1 end) ∙ ap (λ (n : ℕ). Some n) more
  where
    not-on : (t : Bool) → not t ≡ true → t ≡ false
    not-on true is = never false is refl
    not-on false is = refl

pub cut-there : (d : Text) (b : ℕ) (r : Text) → list_all plain d ≡ true → is_end b ≡ true → cut (d ++ b ∷ r) ≡ Some (d, b ∷ r)
unfolding cut
cut-there d b r all end =
    ap (option_map (λ i. (take i (d ++ b ∷ r), drop i (d ++ b ∷ r)))) (position-there d b r all end)
    ∙ ap₂ (λ (x y : Text). Some (x, y)) (take-append_seam d (b ∷ r)) (drop-append_seam d (b ∷ r))

pub front-there : (front z : Text) → after_front front (front ++ z) ≡ Some z
front-there front z =
    ap (λ (b : Bool). if b then Some (drop (length front) (front ++ z)) else None) ((bytes_eq-Decides (take (length front) (front ++ z)) front).1 (take-append_seam front z))
    ∙ ap (λ (y : Text). Some y) (drop-append_seam front z)

pub back-there : (z end : Text) → before end (z ++ end) ≡ Some z
back-there z end =
    let n : length (z ++ end) - length end ≡ length z = let e = length-append z end in omega (arith, e) in
    let same : drop (length (z ++ end) - length end) (z ++ end) ≡ end = ap (λ (k : ℕ). drop k (z ++ end)) n ∙ drop-append_seam z end in
    ap (λ (b : Bool). if b then Some (take (length (z ++ end) - length end) (z ++ end)) else None) ((bytes_eq-Decides (drop (length (z ++ end) - length end) (z ++ end)) end).1 same)
    ∙ ap (λ (y : Text). Some y) (ap (λ (k : ℕ). take k (z ++ end)) n ∙ take-append_seam z end)

-- ---- Parts of a line

number-there : (most : ℕ) (digits z : Text) → is_some (natural most digits) ≡ true → after_number most (digits ++ 32 ∷ z) ≡ Some z
unfolding after_number
number-there most digits z is =
    ap (λ (o : Option (Text × Text)). o >>= λ p. if is_some (natural most p.0) then after_front (codes " ") p.1 else None)
    (cut-there digits 32 z (number-plain most digits is) refl)
    ∙ ap (λ (b : Bool). if b then after_front (codes " ") (32 ∷ z) else None) is ∙ front-there (codes " ") z

number-text : (most : ℕ) (head z : Text) → IsNumberText most head → after_number most (head ++ z) ≡ Some z
number-text most head z (digits, is, parts) =
    ap (after_number most) (ap (λ (t : Text). t ++ z) parts ∙ append_assoc digits (codes " ") z) ∙ number-there most digits z is

key-there : (head z : Text) → IsKeyText head → after_key (head ++ z) ≡ Some z
unfolding after_key
key-there head z key =
    ap (λ (t : Text). after_number (2 ^ 8 - 1) t >>= λ y. after_number (2 ^ 128 - 1) y >>= λ x. after_number (2 ^ 128 - 1) x)
    (ap (λ (t : Text). t ++ z) key.parts ∙ append_assoc key.class (key.a ++ key.b) z ∙ ap (λ (t : Text). key.class ++ t) (append_assoc key.a key.b z))
    ∙ ap (λ (o : Option Text). o >>= λ y. after_number (2 ^ 128 - 1) y >>= λ x. after_number (2 ^ 128 - 1) x) (number-text (2 ^ 8 - 1) key.class (key.a ++ (key.b ++ z)) key.is_class)
    ∙ ap (λ (o : Option Text). o >>= λ x. after_number (2 ^ 128 - 1) x) (number-text (2 ^ 128 - 1) key.a (key.b ++ z) key.is_a)
    ∙ number-text (2 ^ 128 - 1) key.b z key.is_b

head-there : (form : Form) (head z : Text) → IsHead form head → after_head form (head ++ z) ≡ Some z
head-there One head z is = ap (λ (t : Text). Some (t ++ z)) is
head-there Two head z is = key-there head z is

start-there :
    (digits resource : Text) (tick b : ℕ) (z : Text) → magnitude digits ≡ Some tick → is_name resource ≡ true → is_end b ≡ true
    → start_of (digits ++ 32 ∷ (resource ++ b ∷ z)) ≡ Some (tick, resource, b ∷ z)
unfolding start_of
start-there digits resource tick b z is-tick is-name end =
    ap
    (λ (o : Option (Text × Text)). o >>= λ p. magnitude p.0 >>= λ t. after_front (codes " ") p.1 >>= λ y. cut y >>= λ q. if is_name q.0 then Some (t, q.0, q.1) else None)
    (cut-there digits 32 (resource ++ b ∷ z) (magnitude-plain digits tick is-tick) refl)
    ∙ ap (λ (o : Option ℕ). o >>= λ t. after_front (codes " ") (32 ∷ (resource ++ b ∷ z)) >>= λ y. cut y >>= λ q. if is_name q.0 then Some (t, q.0, q.1) else None) is-tick
    ∙ ap (λ (o : Option Text). o >>= λ y. cut y >>= λ q. if is_name q.0 then Some (tick, q.0, q.1) else None) (front-there (codes " ") (resource ++ b ∷ z))
    ∙ ap (λ (o : Option (Text × Text)). o >>= λ q. if is_name q.0 then Some (tick, q.0, q.1) else None) (cut-there resource b z (name-plain resource is-name) end)
    ∙ ap (λ (t : Bool). if t then Some (tick, resource, b ∷ z) else None) is-name

side-there : (taken : Bool) (z : Text) → side_of (side_text taken ++ z) ≡ Some (taken, z)
unfolding side_of
side-there true z = ap (λ (o : Option Text). side_by o (after_front (codes " < ") (codes " > " ++ z))) (front-there (codes " > ") z)
side-there false z = ap (λ (o : Option Text). side_by (after_front (codes " > ") (codes " < " ++ z)) o) (front-there (codes " < ") z)

port-there : (port values : Text) → is_port port ≡ true → are_values values ≡ true → port_of (port ++ (values ++ codes "\n")) ≡ Some (port, values)
unfolding port_of
port-there port [] is are =
    ap (λ (o : Option (Text × Text)). o >>= λ p. before (codes "\n") p.1 >>= λ values. if is_port p.0 && are_values values then Some (p.0, values) else None)
    (cut-there port 10 [] (port-plain port is) refl)
    ∙ ap (λ (o : Option Text). o >>= λ values. if is_port port && are_values values then Some (port, values) else None) (back-there [] (codes "\n"))
    ∙ ap (λ (t : Bool). if t && are_values [] then Some (port, []) else None) is
port-there port (b ∷ z) is are =
    let blank = eqb-true b 32 (and-parts (b == 32) _ are).0 in
    ap (λ (o : Option (Text × Text)). o >>= λ p. before (codes "\n") p.1 >>= λ values. if is_port p.0 && are_values values then Some (p.0, values) else None)
    (cut-there port b (z ++ codes "\n") (port-plain port is) (ap is_end blank))
    ∙ ap (λ (o : Option Text). o >>= λ values. if is_port port && are_values values then Some (port, values) else None) (back-there (b ∷ z) (codes "\n"))
    ∙ ap₂ (λ (s t : Bool). if s && t then Some (port, b ∷ z) else None) is are

-- ---- The line

abbrev side-first : (taken : Bool) → Text
side-first true = codes "> "
side-first false = codes "< "

side-is : (taken : Bool) (z : Text) → side_text taken ++ z ≡ 32 ∷ (side-first taken ++ z)
side-is true z = refl
side-is false z = refl

abbrev made : (s : ℕ × Text × Text) (t : Bool × Text) (p : Text × Text) → Option Event
made s t p = Some (record { tick = s.0; resource = s.1; taken = t.0; port = p.0; values = p.1 })

pub line-there : (form : Form) (text : Text) (e : Event) → IsLine form text e → read_line form text ≡ Some e
unfolding read_line
line-there form text e line =
    let last = e.port ++ (e.values ++ codes "\n") in
    let rest = side_text e.taken ++ last in
    let blank = side-is e.taken last in
    ap (λ (t : Text). after_head form t >>= λ y. start_of y >>= λ s. side_of s.2 >>= λ t. port_of t.1 >>= λ p. made s t p) line.parts
    ∙ ap (λ (o : Option Text). o >>= λ y. start_of y >>= λ s. side_of s.2 >>= λ t. port_of t.1 >>= λ p. made s t p) (head-there form line.head (event_text line.digits e) line.is_head)
    ∙ ap (λ (o : Option (ℕ × Text × Text)). o >>= λ s. side_of s.2 >>= λ t. port_of t.1 >>= λ p. made s t p)
    (ap (λ (t : Text). start_of (line.digits ++ 32 ∷ (e.resource ++ t))) blank
    ∙ start-there line.digits e.resource e.tick 32 (side-first e.taken ++ last) line.tick_is line.resource_is refl
    ∙ ap (λ (t : Text). Some (e.tick, e.resource, t)) (sym blank))
    ∙ ap (λ (o : Option (Bool × Text)). o >>= λ t. port_of t.1 >>= λ p. made (e.tick, e.resource, rest) t p) (side-there e.taken last)
    ∙ ap (λ (o : Option (Text × Text)). o >>= λ p. made (e.tick, e.resource, rest) (e.taken, last) p) (port-there e.port e.values line.port_is line.values_are)

-- ---- The last line

reason-there : (z : Text) → IsReason z → is_reason z ≡ true
reason-there z (inl is) = ap (λ (b : Bool). b || (bytes_eq z (codes "divide") || bytes_eq z (codes "range"))) ((bytes_eq-Decides z (codes "steps")).1 is)
reason-there z (inr (inl is)) =
    ap (λ (b : Bool). bytes_eq z (codes "steps") || (b || bytes_eq z (codes "range"))) ((bytes_eq-Decides z (codes "divide")).1 is) ∙ or-true (bytes_eq z (codes "steps"))
  where
    or-true : (b : Bool) → (b || true) ≡ true
    or-true true = refl
    or-true false = refl
reason-there z (inr (inr is)) =
    ap (λ (b : Bool). bytes_eq z (codes "steps") || (bytes_eq z (codes "divide") || b)) ((bytes_eq-Decides z (codes "range")).1 is)
    ∙ or-true (bytes_eq z (codes "steps")) (bytes_eq z (codes "divide"))
  where
    or-true : (a b : Bool) → (a || (b || true)) ≡ true
    or-true true b = refl
    or-true false true = refl
    or-true false false = refl

stop-there : (z : Text) (tick : ℕ) → IsStopText z tick → stop_of z ≡ Some tick
unfolding stop_of
stop-there z tick stop =
    ap (λ (t : Text). start_of t >>= λ s. after_front (codes " ") s.2 >>= λ reason. if is_reason reason then Some s.0 else None) stop.parts
    ∙ ap (λ (o : Option (ℕ × Text × Text)). o >>= λ s. after_front (codes " ") s.2 >>= λ reason. if is_reason reason then Some s.0 else None)
    (start-there stop.digits stop.resource tick 32 stop.reason stop.tick_is stop.resource_is refl)
    ∙ ap (λ (o : Option Text). o >>= λ reason. if is_reason reason then Some tick else None) (front-there (codes " ") stop.reason)
    ∙ ap (λ (b : Bool). if b then Some tick else None) (reason-there stop.reason stop.reason_is)

no-end : (z : Text) → after_front (codes "end ") (codes "stop " ++ z) ≡ None
no-end z = refl

pub last-there : (text : Text) (end : End) → IsEndOf text end → read_end text ≡ Some end
unfolding read_end
last-there text (Horizon h) (digits, is, parts) =
    ap (λ (t : Text). before (codes "\n") t >>= λ y. end_by (after_front (codes "end ") y) y) (parts ∙ sym (append_assoc (codes "end ") digits (codes "\n")))
    ∙ ap (λ (o : Option Text). o >>= λ y. end_by (after_front (codes "end ") y) y) (back-there (codes "end " ++ digits) (codes "\n"))
    ∙ ap (λ (o : Option Text). end_by o (codes "end " ++ digits)) (front-there (codes "end ") digits)
    ∙ ap (λ (o : Option ℕ). o >>= λ n. Some (Horizon n)) is
last-there text (Stop t) (stop, is, parts) =
    ap (λ (x : Text). before (codes "\n") x >>= λ y. end_by (after_front (codes "end ") y) y) (parts ∙ sym (append_assoc (codes "stop ") stop (codes "\n")))
    ∙ ap (λ (o : Option Text). o >>= λ y. end_by (after_front (codes "end ") y) y) (back-there (codes "stop " ++ stop) (codes "\n"))
    ∙ ap (λ (o : Option Text). end_by o (codes "stop " ++ stop)) (no-end stop)
    ∙ ap (λ (o : Option Text). o >>= λ y. stop_of y >>= λ n. Some (Stop n)) (front-there (codes "stop ") stop)
    ∙ ap (λ (o : Option ℕ). o >>= λ n. Some (Stop n)) (stop-there stop t is)
last-there text (Cut t) is = absurd is

-- ---- A last line is no line of an event

right-of : (a b : Text) → HasNoEnd (a ++ b) → HasNoEnd b
right-of [] b none = none
right-of (x ∷ a) b none = right-of a b (All-tail (λ (n : ℕ). n ≡ 10 → ⊥) x (a ++ b) none)

pub ended-by-feed : (text : Text) (end : End) → IsEndOf text end → HasNoEnd text → ⊥
ended-by-feed text (Horizon h) (digits, is, parts) none = right-of digits (codes "\n") (right-of (codes "end ") (digits ++ codes "\n") (subst HasNoEnd parts none)) 0 0 (omega arith) refl
ended-by-feed text (Stop t) (stop, is, parts) none = right-of stop (codes "\n") (right-of (codes "stop ") (stop ++ codes "\n") (subst HasNoEnd parts none)) 0 0 (omega arith) refl
ended-by-feed text (Cut t) is none = is

line-has-feed : (form : Form) (text : Text) (e : Event) → IsLine form text e → HasNoEnd text → ⊥
line-has-feed form text e line none =
    let all = right-of line.head (event_text line.digits e) (subst HasNoEnd line.parts none) in
    let after-tick = right-of (codes " ") (e.resource ++ (side_text e.taken ++ (e.port ++ (e.values ++ codes "\n")))) (right-of line.digits _ all) in
    let after-side = right-of (side_text e.taken) (e.port ++ (e.values ++ codes "\n")) (right-of e.resource _ after-tick) in
    right-of e.values (codes "\n") (right-of e.port _ after-side) 0 0 (omega arith) refl

-- a word that is no number begins no line
no-start : (w z : Text) → list_all plain w ≡ true → magnitude w ≡ None → start_of (w ++ 32 ∷ z) ≡ None
unfolding start_of
no-start w z all none =
    ap
    (λ (o : Option (Text × Text)). o >>= λ p. magnitude p.0 >>= λ t. after_front (codes " ") p.1 >>= λ y. cut y >>= λ q. if is_name q.0 then Some (t, q.0, q.1) else None)
    (cut-there w 32 z all refl)
    ∙ ap (λ (o : Option ℕ). o >>= λ t. after_front (codes " ") (32 ∷ z) >>= λ y. cut y >>= λ q. if is_name q.0 then Some (t, q.0, q.1) else None) none

no-key : (w z : Text) → list_all plain w ≡ true → is_some (natural (2 ^ 8 - 1) w) ≡ false → after_key (w ++ 32 ∷ z) ≡ None
unfolding after_key after_number
no-key w z all none =
    ap (λ (o : Option Text). o >>= λ y. after_number (2 ^ 128 - 1) y >>= λ x. after_number (2 ^ 128 - 1) x)
    (ap (λ (o : Option (Text × Text)). o >>= λ p. if is_some (natural (2 ^ 8 - 1) p.0) then after_front (codes " ") p.1 else None) (cut-there w 32 z all refl)
    ∙ ap (λ (b : Bool). if b then after_front (codes " ") (32 ∷ z) else None) none)

no-line :
    (form : Form) (w z : Text) → list_all plain w ≡ true → magnitude w ≡ None → is_some (natural (2 ^ 8 - 1) w) ≡ false → read_line form (w ++ 32 ∷ z) ≡ None
unfolding read_line
no-line One w z all tick key = ap (λ (o : Option (ℕ × Text × Text)). o >>= λ s. side_of s.2 >>= λ t. port_of t.1 >>= λ p. made s t p) (no-start w z all tick)
no-line Two w z all tick key =
    ap (λ (o : Option Text). o >>= λ y. start_of y >>= λ s. side_of s.2 >>= λ t. port_of t.1 >>= λ p. made s t p) (no-key w z all key)

no-number-end : is_some (natural (2 ^ 8 - 1) (codes "end")) ≡ false
unfolding natural
no-number-end = refl

no-number-stop : is_some (natural (2 ^ 8 - 1) (codes "stop")) ≡ false
unfolding natural
no-number-stop = refl

no-tick-end : magnitude (codes "end") ≡ None
unfolding natural
no-tick-end = refl

no-tick-stop : magnitude (codes "stop") ≡ None
unfolding natural
no-tick-stop = refl

by-read : (form : Form) (text : Text) (e : Event) → read_line form text ≡ None → IsLine form text e → ⊥
by-read form text e none line = none-some e (sym none ∙ line-there form text e line)

pub end-no-event : (may : MayCut) (text : Text) (end : End) → IsLast may text end → (form : Form) (e : Event) → IsLine form text e → ⊥
end-no-event may text (Horizon h) (digits, is, parts) form e line =
    by-read form text e (ap (read_line form) parts ∙ no-line form (codes "end") (digits ++ codes "\n") refl no-tick-end no-number-end) line
end-no-event may text (Stop t) (stop, is, parts) form e line =
    by-read form text e (ap (read_line form) parts ∙ no-line form (codes "stop") (stop ++ codes "\n") refl no-tick-stop no-number-stop) line
end-no-event Refused text (Cut t) is form e line = is
end-no-event Allowed text (Cut t) is form e line = line-has-feed form text e line is

-- ---- A line is of one form

name-no-number : (most : ℕ) (z : Text) → is_name z ≡ true → is_some (natural most z) ≡ false
name-no-number most [] is = never false is refl
name-no-number most (b ∷ z) is = by (is_some (natural most (b ∷ z))) refl
  where
    no-digit : is_ascii_digit b ≡ true → ⊥
    no-digit digit =
        let low = leb-true b 57 (and-parts (nat_le 48 b) (nat_le b 57) digit).1 in
        elim (either (nat_le 65 b && nat_le b 90) (b == 95) (and-parts (is_letter b) (list_all is_word z) is).0) [
          | inl letter ↦ (let high = leb-true 65 b (and-parts (nat_le 65 b) (nat_le b 90) letter).0 in absurd (omega (arith, low, high)))
          | inr line ↦ (let e = eqb-true b 95 line in absurd (omega (arith, e, low)))
        ]

    by : (t : Bool) → is_some (natural most (b ∷ z)) ≡ t → t ≡ false
    by true some = absurd (no-digit (and-parts (is_ascii_digit b) (list_all is_ascii_digit z) (number-digits most (b ∷ z) some)).0)
    by false some = refl

-- a line of form one has a name where one of form two has a number
no-second :
    (digits resource : Text) (b : ℕ) (z : Text) → list_all plain digits ≡ true → is_name resource ≡ true → is_end b ≡ true
    → after_key (digits ++ 32 ∷ (resource ++ b ∷ z)) ≡ None
unfolding after_key after_number
no-second digits resource b z all name end =
    ap (λ (o : Option Text). o >>= λ y. after_number (2 ^ 128 - 1) y >>= λ x. after_number (2 ^ 128 - 1) x)
    (ap (λ (o : Option (Text × Text)). o >>= λ p. if is_some (natural (2 ^ 8 - 1) p.0) then after_front (codes " ") p.1 else None) (cut-there digits 32 (resource ++ b ∷ z) all refl))
    ∙ by (is_some (natural (2 ^ 8 - 1) digits))
  where
    none : after_number (2 ^ 128 - 1) (resource ++ b ∷ z) ≡ None
    none =
        ap (λ (o : Option (Text × Text)). o >>= λ p. if is_some (natural (2 ^ 128 - 1) p.0) then after_front (codes " ") p.1 else None)
        (cut-there resource b z (name-plain resource name) end)
        ∙ ap (λ (t : Bool). if t then after_front (codes " ") (b ∷ z) else None) (name-no-number (2 ^ 128 - 1) resource name)

    by :
        (t : Bool)
        → ((if t then after_front (codes " ") (32 ∷ (resource ++ b ∷ z)) else None) >>= λ y. after_number (2 ^ 128 - 1) y >>= λ x. after_number (2 ^ 128 - 1) x) ≡ None
    by true =
        ap (λ (o : Option Text). o >>= λ y. after_number (2 ^ 128 - 1) y >>= λ x. after_number (2 ^ 128 - 1) x) (front-there (codes " ") (resource ++ b ∷ z))
        ∙ ap (λ (o : Option Text). o >>= λ x. after_number (2 ^ 128 - 1) x) none
    by false = refl

no-two : (text : Text) (x e : Event) → IsLine One text x → IsLine Two text e → ⊥
unfolding read_line
no-two text x e one two =
    let last = x.port ++ (x.values ++ codes "\n") in
    let is : text ≡ one.digits ++ 32 ∷ (x.resource ++ 32 ∷ (side-first x.taken ++ last)) =
    one.parts ∙ ap (λ (t : Text). t ++ event_text one.digits x) one.is_head ∙ ap (λ (t : Text). one.digits ++ 32 ∷ (x.resource ++ t)) (side-is x.taken last)
    in
    by-read Two text e
    (ap (λ (t : Text). after_key t >>= λ y. start_of y >>= λ s. side_of s.2 >>= λ t. port_of t.1 >>= λ p. made s t p) is
    ∙ ap (λ (o : Option Text). o >>= λ y. start_of y >>= λ s. side_of s.2 >>= λ t. port_of t.1 >>= λ p. made s t p)
    (no-second one.digits x.resource 32 (side-first x.taken ++ last) (magnitude-plain one.digits x.tick one.tick_is) one.resource_is refl))
    two

pub one-form : (f g : Form) (text : Text) (x e : Event) → IsLine f text x → IsLine g text e → g ≡ f
one-form One One text x e one other = refl
one-form Two Two text x e one other = refl
one-form One Two text x e one other = absurd (no-two text x e one other)
one-form Two One text x e one other = absurd (no-two text e x other one)
