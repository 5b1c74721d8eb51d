-- The file that has a line, file by file, and the lines of the whole.
use Rattle.fb_types.proofs.Common.{◌≡◌, ℕ, zero, suc, ◌+◌, ◌-◌, ◌<◌, ◌≤◌, ◌==◌, ◌&&◌, Bool, true, false, List, [], ◌∷◌, ◌++◌, length, map, get_or, take, refl, sym, ap, ap₂, ◌∙◌, subst, arith, sum_by, count_by, if◌then◌else◌, eqb-true, length-map, take-append-le, take_all, sum_by-cons}
use Rattle.std.proofs.Common.{sum}
use Rattle.std.proofs.lemmas.List.Sums.{sum_by-append, sum_by-take-le, sum_by_more}
use Rattle.clap.specs.Words.{Text}
use Rattle.fb_read.specs.Tokens.{after_mark}
use Rattle.fbsim_command.specs.Joining.{LinesAgree, joined, joined_behind, line_count, parts}

-- this many lines are left, after these files
abbrev pub AreLeft : (lines : List ℕ) → (whole i left : ℕ) → Type 0
AreLeft lines whole i left = (1 ≤ left) × (sum (take i lines) + left ≡ whole)

pub left-more : (lines : List ℕ) (whole i left : ℕ) → i < length lines → get_or lines i 0 < left → AreLeft lines whole i left → AreLeft lines whole (i + 1) (left - get_or lines i 0)
left-more lines whole i left lt over are =
    let one : sum (take (i + 1) lines) ≡ sum (take i lines) + get_or lines i 0 = sum_by_more (λ x. x) lines i 0 lt in
    (omega arith, let all = are.1 in omega arith)

pub left-none : (lines : List ℕ) (whole i left : ℕ) → length lines ≤ i → AreLeft lines whole i left → sum lines < whole
left-none lines whole i left end are =
    let all : sum (take i lines) ≡ sum lines = ap sum (take_all i lines end) in
    let first = are.0 in
    let is = are.1 in
    omega arith

-- ---- Line feeds

abbrev feeds : Text → ℕ
feeds t = count_by (λ b. b == 10) t

abbrev step : ℕ → ℕ
step b = if b == 10 then 1 else 0

feeds-cons : (b : ℕ) (t : Text) → feeds (b ∷ t) ≡ step b + feeds t
feeds-cons b t = sum_by-cons step b t

feeds-append : (s t : Text) → feeds (s ++ t) ≡ feeds s + feeds t
feeds-append s t = sum_by-append step s t

-- a byte order mark has none
not-fed : (a n : ℕ) (t : Text) → a ≡ n → step n ≡ 0 → feeds (a ∷ t) ≡ feeds t
not-fed a n t is none = feeds-cons a t ∙ ap (λ (k : ℕ). k + feeds t) (ap step is ∙ none) ∙ (let zero-on : 0 + feeds t ≡ feeds t = omega arith in zero-on)

mark-bytes : (a b c : ℕ) (t : Text) → (x y z : Bool) → (x ≡ true → a ≡ 239) → (y ≡ true → b ≡ 187) → (z ≡ true → c ≡ 191)
    → feeds (if x && (y && z) then t else a ∷ (b ∷ (c ∷ t))) ≡ feeds (a ∷ (b ∷ (c ∷ t)))
mark-bytes a b c t false y z first second third = refl
mark-bytes a b c t true false z first second third = refl
mark-bytes a b c t true true false first second third = refl
mark-bytes a b c t true true true first second third =
    sym (not-fed a 239 (b ∷ (c ∷ t)) (first refl) refl ∙ not-fed b 187 (c ∷ t) (second refl) refl ∙ not-fed c 191 t (third refl) refl)

cut-short : (x : Bool) (s t : Text) → feeds (if x && false then s else t) ≡ feeds t
cut-short true s t = refl
cut-short false s t = refl

cut-shorter : (x y : Bool) (s t : Text) → feeds (if x && (y && false) then s else t) ≡ feeds t
cut-shorter true true s t = refl
cut-shorter true false s t = refl
cut-shorter false y s t = refl

feeds-mark : (t : Text) → feeds (after_mark t) ≡ feeds t
feeds-mark [] = refl
feeds-mark (a ∷ []) = cut-short (a == 239) [] (a ∷ [])
feeds-mark (a ∷ (b ∷ [])) = cut-shorter (a == 239) (b == 187) [] (a ∷ (b ∷ []))
feeds-mark (a ∷ (b ∷ (c ∷ t))) = mark-bytes a b c t (a == 239) (b == 187) (c == 191) (eqb-true a 239) (eqb-true b 187) (eqb-true c 191)

-- ---- Parts that are joined

-- parts, with a line feed before each
abbrev glued_behind : List Text → Text
glued_behind [] = []
glued_behind (p ∷ ps) = 10 ∷ p ++ glued_behind ps

abbrev glued : List Text → Text
glued [] = []
glued (p ∷ ps) = p ++ glued_behind ps

glued-joined : (ts : List Text) → joined_behind ts ≡ glued_behind (map after_mark ts)
glued-joined [] = refl
glued-joined (t ∷ ts) = ap (λ (z : Text). 10 ∷ after_mark t ++ z) (glued-joined ts)

joined-parts : (ts : List Text) → joined ts ≡ glued (parts ts)
joined-parts [] = refl
joined-parts (t ∷ ts) = ap (λ (z : Text). t ++ z) (glued-joined ts)

counts-mark : (ts : List Text) → map line_count (map after_mark ts) ≡ map line_count ts
counts-mark [] = refl
counts-mark (t ∷ ts) = ap₂ (λ (n : ℕ) (ns : List ℕ). n ∷ ns) (ap (λ (n : ℕ). 1 + n) (feeds-mark t)) (counts-mark ts)

counts-parts : (ts : List Text) → map line_count (parts ts) ≡ map line_count ts
counts-parts [] = refl
counts-parts (t ∷ ts) = ap (λ (ns : List ℕ). line_count t ∷ ns) (counts-mark ts)

length-parts : (ts : List Text) → length (parts ts) ≡ length ts
length-parts [] = refl
length-parts (t ∷ ts) = ap suc (length-map ts after_mark)

take-beyond : (p rest : Text) (m : ℕ) → take (length p + m) (p ++ rest) ≡ p ++ take m rest
take-beyond [] rest m = ap (λ (k : ℕ). take k rest) (let e : 0 + m ≡ m = omega arith in e)
take-beyond (b ∷ p) rest m =
    ap (λ (k : ℕ). take k (b ∷ (p ++ rest))) (let e : suc (length p) + m ≡ suc (length p + m) = omega arith in e) ∙ ap (λ (z : Text). b ∷ z) (take-beyond p rest m)

abbrev start : List Text → ℕ → ℕ
start ps file = sum_by (λ p. length p + 1) (take file ps)

glued-cons : (p : Text) (ps : List Text) → 0 < length ps → glued (p ∷ ps) ≡ p ++ (10 ∷ glued ps)
glued-cons p [] some = absurd (omega arith)
glued-cons p (q ∷ ps) some = refl

-- the line feeds before a byte: those of the parts before it, one after each of them, and those of its own part
feeds-before :
    (ps : List Text) (file byte : ℕ) → file < length ps → byte ≤ length (get_or ps file [])
    → feeds (take (start ps file + byte) (glued ps)) ≡ sum (take file (map line_count ps)) + feeds (take byte (get_or ps file []))
feeds-before [] file byte there within = absurd (omega arith)
feeds-before (p ∷ ps) zero byte there within =
    ap (λ (k : ℕ). feeds (take k (p ++ glued_behind ps))) (let e : 0 + byte ≡ byte = omega arith in e) ∙ ap feeds (take-append-le byte p (glued_behind ps) within)
    ∙ (let e : feeds (take byte p) ≡ 0 + feeds (take byte p) = omega arith in e)
feeds-before (p ∷ ps) (suc file) byte there within =
    let m = start ps file + byte in
    let rest = glued ps in
    let first : start (p ∷ ps) (suc file) ≡ (length p + 1) + start ps file = sum_by-cons (λ (r : Text). length r + 1) p (take file ps) in
    let following : start (p ∷ ps) (suc file) + byte ≡ length p + suc m = omega (arith, first) in
    let before : sum (take (suc file) (map line_count (p ∷ ps))) ≡ line_count p + sum (take file (map line_count ps)) = sum_by-cons (λ (n : ℕ). n) (line_count p) (take file (map line_count ps)) in
    let cut : take (start (p ∷ ps) (suc file) + byte) (glued (p ∷ ps)) ≡ p ++ (10 ∷ take m rest) =
    ap (λ (z : Text). take (start (p ∷ ps) (suc file) + byte) z) (glued-cons p ps (omega arith)) ∙ ap (λ (k : ℕ). take k (p ++ (10 ∷ rest))) following ∙ take-beyond p (10 ∷ rest) (suc m) in
    let counted : feeds (p ++ (10 ∷ take m rest)) ≡ feeds p + (1 + feeds (take m rest)) =
    feeds-append p (10 ∷ take m rest) ∙ ap (λ (k : ℕ). feeds p + k) (feeds-cons 10 (take m rest)) in
    let within-rest : feeds (take m rest) ≡ sum (take file (map line_count ps)) + feeds (take byte (get_or ps file [])) = feeds-before ps file byte (omega arith) within in
    ap feeds cut ∙ counted
    ∙ (let e : feeds p + (1 + feeds (take m rest)) ≡ sum (take (suc file) (map line_count (p ∷ ps))) + feeds (take byte (get_or ps file [])) = omega (arith, within-rest, before) in e)

line-counts : (ps : List Text) (file : ℕ) → file < length ps → get_or (map line_count ps) file 0 ≡ line_count (get_or ps file [])
line-counts [] file there = absurd (omega arith)
line-counts (p ∷ ps) zero there = refl
line-counts (p ∷ ps) (suc file) there = line-counts ps file (omega arith)

pub lines-agree : LinesAgree
lines-agree ts file byte lt within =
    let ps = parts ts in
    let own = get_or ps file [] in
    let same = counts-parts ts in
    let inside : file < length ps = omega (arith, length-parts ts) in
    let before : feeds (take (start ps file + byte) (joined ts)) ≡ sum (take file (map line_count ps)) + feeds (take byte own) =
    ap (λ (z : Text). feeds (take (start ps file + byte) z)) (joined-parts ts) ∙ feeds-before ps file byte inside within in
    let few : feeds (take byte own) ≤ feeds own = sum_by-take-le step own byte in
    let count : get_or (map line_count ts) file 0 ≡ line_count own = ap (λ (ns : List ℕ). get_or ns file 0) (sym same) ∙ line-counts ps file inside in
    let sums : sum (take file (map line_count ps)) ≡ sum (take file (map line_count ts)) = ap (λ (ns : List ℕ). sum (take file ns)) same in
    record {
      there = subst (λ (n : ℕ). file < n) (sym (length-map ts line_count)) lt;
      first = omega arith;
      last = omega (arith, few, count);
      sum_is = omega (arith, before, sums);
    }
