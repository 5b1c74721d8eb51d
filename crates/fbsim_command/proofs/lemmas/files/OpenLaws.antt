-- The text of a declaration in several files, file by file.
use Rattle.fb_types.proofs.Common.{◌≡◌, ℕ, ◌+◌, ◌<◌, ◌≤◌, Bool, true, false, List, [], ◌∷◌, ◌++◌, length, get_or, take, drop, refl, sym, ap, ◌∙◌, append_assoc, append-nil, arith, if◌then◌else◌, nat_lt, Result, Ok, Err, IfOk, Vec, drop_all, drop_more, get_or-drop, map-append, take_all, take_more}
use Rattle.clap.specs.Words.{Text}
use Rattle.fb_read.specs.Tokens.{after_mark}
use Rattle.fb_read.specs.Whole.{most_bytes}
use Rattle.fbsim_command.specs.Joining.{beyond, byte_at, is_open, is_open_from, joined, joined_behind, leaves_open, text_of, up_to_open}
use Rattle.fbsim_command.specs.Texts.{texts_of}
use Rattle.fbsim_command.specs.declared.join.Within.{Within}

-- ---- Comments

pub open-turn : (w : Within) (z : Text) (i : ℕ) → i < length z → is_open_from w (drop i z) ≡ is_open_from (beyond w (get_or z i 0) (byte_at z (i + 1))) (drop (i + 1) z)
unfolding is_open_from
open-turn w z i lt =
    let next : byte_at (drop (i + 1) z) 0 ≡ byte_at z (i + 1) = get_or-drop (i + 1) z 0 0 ∙ ap (λ (k : ℕ). get_or z k 0) (let e : i + 1 + 0 ≡ i + 1 = omega arith in e) in
    ap (is_open_from w) (drop_more z i 0 lt) ∙ ap (λ (k : ℕ). is_open_from (beyond w (get_or z i 0) k) (drop (i + 1) z)) next

pub open-end : (w : Within) (z : Text) (i : ℕ) → length z ≤ i → is_open_from w (drop i z) ≡ leaves_open w
unfolding is_open_from
open-end w z i le = rw (drop_all i z le) refl

-- ---- The texts up to the first one that leaves a comment open

-- those that were passed are closed
abbrev pub ArePassed : List (Vec ℕ) → ℕ → Type 0
ArePassed ts i = up_to_open (texts_of ts) ≡ texts_of (take i ts) ++ up_to_open (texts_of (drop i ts))

texts-more : (ts : List (Vec ℕ)) (i : ℕ) (v : Vec ℕ) → i < length ts → v ≡ get_or ts i v → texts_of (take (i + 1) ts) ≡ texts_of (take i ts) ++ v.items ∷ []
texts-more ts i v lt is =
    ap texts_of (take_more ts i v lt) ∙ map-append (λ (t : Vec ℕ). t.items) (take i ts) (get_or ts i v ∷ [])
    ∙ ap (λ (u : Vec ℕ). texts_of (take i ts) ++ u.items ∷ []) (sym is)

here : (ts : List (Vec ℕ)) (i : ℕ) (v : Vec ℕ) → i < length ts → v ≡ get_or ts i v
    → up_to_open (texts_of (drop i ts)) ≡ v.items ∷ (if is_open v.items then [] else up_to_open (texts_of (drop (i + 1) ts)))
here ts i v lt is =
    ap (λ (us : List (Vec ℕ)). up_to_open (texts_of us)) (drop_more ts i v lt)
    ∙ ap (λ (u : Vec ℕ). u.items ∷ (if is_open u.items then [] else up_to_open (texts_of (drop (i + 1) ts)))) (sym is)

pub passed-more : (ts : List (Vec ℕ)) (i : ℕ) (v : Vec ℕ) → i < length ts → v ≡ get_or ts i v → is_open v.items ≡ false → ArePassed ts i → ArePassed ts (i + 1)
passed-more ts i v lt is closed passed =
    let rest = up_to_open (texts_of (drop (i + 1) ts)) in
    passed ∙ ap (λ (z : List Text). texts_of (take i ts) ++ z) (here ts i v lt is ∙ ap (λ (b : Bool). v.items ∷ (if b then [] else rest)) closed)
    ∙ sym (append_assoc (texts_of (take i ts)) (v.items ∷ []) rest) ∙ ap (λ (z : List Text). z ++ rest) (sym (texts-more ts i v lt is))

pub passed-open : (ts : List (Vec ℕ)) (i : ℕ) (v : Vec ℕ) → i < length ts → v ≡ get_or ts i v → is_open v.items ≡ true → ArePassed ts i → texts_of (take (i + 1) ts) ≡ up_to_open (texts_of ts)
passed-open ts i v lt is left passed =
    let rest = up_to_open (texts_of (drop (i + 1) ts)) in
    texts-more ts i v lt is
    ∙ sym (passed ∙ ap (λ (z : List Text). texts_of (take i ts) ++ z) (here ts i v lt is ∙ ap (λ (b : Bool). v.items ∷ (if b then [] else rest)) left))

pub passed-all : (ts : List (Vec ℕ)) (i : ℕ) → length ts ≤ i → ArePassed ts i → texts_of ts ≡ up_to_open (texts_of ts)
passed-all ts i end passed =
    sym (passed ∙ ap (λ (us : List (Vec ℕ)). texts_of (take i ts) ++ up_to_open (texts_of us)) (drop_all i ts end) ∙ append-nil (texts_of (take i ts)) ∙ ap texts_of (take_all i ts end))

-- ---- One text

-- these texts are appended
abbrev pub IsJoinedTo : (old all : Text) → List (Vec ℕ) → ℕ → Type 0
IsJoinedTo old all ts i = old ++ joined_behind (texts_of ts) ≡ all ++ joined_behind (texts_of (drop i ts))

pub joined-more :
    (old all feed more mark : Text) (ts : List (Vec ℕ)) (i : ℕ) (v : Vec ℕ) → i < length ts → v ≡ get_or ts i v → feed ≡ all ++ 10 ∷ [] → mark ≡ after_mark v.items → more ≡ feed ++ mark
    → IsJoinedTo old all ts i → IsJoinedTo old more ts (i + 1)
joined-more old all feed more mark ts i v lt is ended same appended joins =
    let rest = joined_behind (texts_of (drop (i + 1) ts)) in
    joins
    ∙ ap (λ (z : Text). all ++ z) (ap (λ (us : List (Vec ℕ)). joined_behind (texts_of us)) (drop_more ts i v lt) ∙ ap (λ (u : Vec ℕ). 10 ∷ after_mark u.items ++ rest) (sym is))
    ∙ sym (append_assoc (all ++ 10 ∷ []) (after_mark v.items) rest ∙ append_assoc all (10 ∷ []) (after_mark v.items ++ rest))
    ∙ ap (λ (m : Text). ((all ++ 10 ∷ []) ++ m) ++ rest) (sym same) ∙ ap (λ (f : Text). (f ++ mark) ++ rest) (sym ended) ∙ ap (λ (z : Text). z ++ rest) (sym appended)

pub joined-all : (old all : Text) (ts : List (Vec ℕ)) (i : ℕ) → length ts ≤ i → IsJoinedTo old all ts i → all ≡ old ++ joined_behind (texts_of ts)
joined-all old all ts i end joins =
    sym (joins ∙ ap (λ (us : List (Vec ℕ)). all ++ joined_behind (texts_of us)) (drop_all i ts end) ∙ append-nil all)

-- ---- Too long, or not

pub text-long : (ts : List Text) (all : Text) → all ≡ joined ts → nat_lt most_bytes (length all) ≡ true → all ≡ text_of ts
text-long ts all is long =
    let over : nat_lt most_bytes (length (joined ts)) ≡ true = sym (ap (λ (z : Text). nat_lt most_bytes (length z)) is) ∙ long in
    is ∙ ap (λ (b : Bool). if b then joined ts else joined (up_to_open ts)) (sym over)

text-short : (ts us : List Text) (all text : Text) → all ≡ joined ts → nat_lt most_bytes (length all) ≡ false → us ≡ up_to_open ts → text ≡ joined us → text ≡ text_of ts
text-short ts us all text is short closed joins =
    let within : nat_lt most_bytes (length (joined ts)) ≡ false = sym (ap (λ (z : Text). nat_lt most_bytes (length z)) is) ∙ short in
    joins ∙ ap joined closed ∙ ap (λ (b : Bool). if b then joined ts else joined (up_to_open ts)) (sym within)

pub text-ok :
    {E : Type 0} (r : Result (Vec ℕ) E) (ts us : List Text) (all : Text) → all ≡ joined ts → nat_lt most_bytes (length all) ≡ false → us ≡ up_to_open ts → IfOk r (λ v. v.items ≡ joined us)
    → IfOk r (λ v. v.items ≡ text_of ts)
text-ok (Err e) ts us all is short closed joins = tt
text-ok (Ok v) ts us all is short closed joins = text-short ts us all v.items is short closed joins

-- ---- The first text, and those after it

pub joined-first :
    {E : Type 0} (r : Result (Vec ℕ) E) (ts us : List (Vec ℕ)) (first : Vec ℕ) (text : Text) → ts ≡ first ∷ us → text ≡ first.items → IfOk r (λ v. v.items ≡ text ++ joined_behind (texts_of us))
    → IfOk r (λ v. v.items ≡ joined (texts_of ts))
joined-first (Err e) ts us first text is same joins = tt
joined-first (Ok v) ts us first text is same joins =
    joins ∙ ap (λ (z : Text). z ++ joined_behind (texts_of us)) same ∙ ap (λ (ws : List (Vec ℕ)). joined (texts_of ws)) (sym is)

pub joined-none : (ts : List (Vec ℕ)) (text : Text) → length ts ≡ 0 → text ≡ [] → text ≡ joined (texts_of ts)
joined-none [] text none is = is
joined-none (t ∷ ts) text none is = absurd (omega arith)
