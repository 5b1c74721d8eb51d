-- What comes of a rule at the end of a trace.
use Rattle.fb_expect.proofs.lemmas.Common.{◌≡◌, ℕ, ◌+◌, ◌<◌, ◌≤◌, Bool, true, false, List, length, take, refl, sym, ap, subst, ◌∙◌, arith, inl, inr, ◌⊎◌, Option, Some, None, if◌then◌else◌, cases_lt, lt-ltb, take_all, hit_at, tick_at, count_in, tick_of, IsBelow, IsClean, KnowsCount, KnowsLast, KnowsSee, Lacks, End, Hit, Need, Breach, Fewer, Unanswered, Holds, Broken, Mark}
use Rattle.fb_types.proofs.Common.{nat_lt, le-ltb}
use Rattle.fb_expect.specs.Rules.{Breaks, BreaksFirst, BreaksLater, BreaksNowhere, IsFewerAtEnd, IsPending, IsUnanswered, IsVerdict, is_amid, tick_there, windows_over}
use Rattle.fb_expect.specs.Watching.{AreMet, IsBroken, IsLate, IsMet, Waits}
use Rattle.fb_expect.specs.declared.rule.Need.TheVariants.{See, Not, Count}
use Rattle.fb_expect.specs.declared.verdict.Fault.{Fault}
use Rattle.fb_expect.specs.declared.verdict.Verdict.TheVariants.{Undecided}
use Rattle.fb_expect.proofs.lemmas.rules.Counts.{enough-over, fewer-over}
use Rattle.fb_expect.proofs.lemmas.rules.Growing.{first}
use Rattle.fb_expect.proofs.lemmas.traces.Indexes.{inside, test-none}

there-line : (hs : List Hit) (end : End) (k : ℕ) → k < length hs → tick_there hs end k ≡ tick_at hs k
there-line hs end k lt = ap (λ (b : Bool). if b then tick_at hs k else tick_of end) (lt-ltb k (length hs) lt)

-- ---- What is met, or late

met-is-answered : (within : ℕ) (hs : List Hit) (end : End) (i : ℕ) → IsMet within hs i → IsUnanswered within hs end i → ⊥
met-is-answered within hs end i m x =
    let soon = m.soon in
    let far = x.unmet.none m.answer m.after m.second in
    omega arith

met-is-no-pending : (within : ℕ) (hs : List Hit) (end : End) (i : ℕ) → IsMet within hs i → IsPending within hs end i → ⊥
met-is-no-pending within hs end i m x =
    let soon = m.soon in
    let far = x.unmet.none m.answer m.after m.second in
    omega arith

-- only what breaks later breaks such a rule
see-breaks : (within : ℕ) (hs : List Hit) (end : End) (k : ℕ) (f : Fault) → Breaks (See within) hs end k f → IsUnanswered within hs end k
see-breaks within hs end k f (inl x) = absurd x
see-breaks within hs end k f (inr x) = x.1

pub see-holds : (within : ℕ) (hs : List Hit) (end : End) → KnowsSee within hs None → IsVerdict (See within) hs end Holds
see-holds within hs end knows = (
  λ k f x. (let u = see-breaks within hs end k f x in met-is-answered within hs end k (knows k u.unmet.first) u),
  λ o. met-is-no-pending within hs end o.0 (knows o.0 o.1.unmet.first) o.1,
)

first-unanswered :
    (within : ℕ) (hs : List Hit) (end : End) (b : Breach) (index : ℕ) → b.line ≡ index + 1 → b.tick ≡ tick_at hs index → b.fault ≡ Unanswered → index < length hs
    → AreMet within hs index → IsUnanswered within hs end index → IsVerdict (See within) hs end (Broken b)
first-unanswered within hs end b index line tick fault lt before x =
    record {
      index = index;
      line = line;
      tick = tick ∙ sym (there-line hs end index lt);
      breaks = inr (fault, x);
      first = λ k f less y. (let u = see-breaks within hs end k f y in met-is-answered within hs end k (before k less u.unmet.first) u);
    }

pub see-late : (within : ℕ) (hs : List Hit) (end : End) (b : Breach) → IsBelow hs (tick_of end) → IsLate within hs b → IsVerdict (See within) hs end (Broken b)
see-late within hs end b below l =
    let far = l.over in
    let most = below l.later in
    first-unanswered within hs end b l.index l.line l.tick l.fault l.inside l.before
    (record { unmet = record { first = l.first; none = l.none }; over = omega arith })

waits-unmet : (within : ℕ) (hs : List Hit) (m : Mark) (w : Waits within hs m) → (j : ℕ) → w.index < j → (hit_at hs j).second ≡ true → tick_at hs w.index + within < tick_at hs j
waits-unmet within hs m w j after is = absurd (w.none j after is)

pub see-over :
    (within : ℕ) (hs : List Hit) (end : End) (m : Mark) → m.tick + within < tick_of end → Waits within hs m
    → IsVerdict (See within) hs end (Broken (record { line = m.line; tick = m.tick; fault = Unanswered }))
see-over within hs end m over w =
    let same = w.tick in
    first-unanswered within hs end _ w.index w.line w.tick refl (inside first hs w.index refl w.first) w.before
    (record { unmet = record { first = w.first; none = waits-unmet within hs m w }; over = omega arith })

pub see-amid :
    (within : ℕ) (hs : List Hit) (end : End) (m : Mark) → tick_of end ≤ m.tick + within → Waits within hs m → IsVerdict (See within) hs end Undecided
see-amid within hs end m amid w =
    let same = w.tick in
    (λ k f x. none k (see-breaks within hs end k f x), (w.index, record { unmet = record { first = w.first; none = waits-unmet within hs m w }; amid = omega arith }))
  where
    none : (k : ℕ) → IsUnanswered within hs end k → ⊥
    none k u =
        let over = u.over in
        let same = w.tick in
        elim (cases_lt k w.index) [
          | inl before ↦ met-is-answered within hs end k (w.before k before u.unmet.first) u
          | inr le ↦ after (cases_lt w.index k) le
        ]
      where
        after : (w.index < k) ⊎ (k ≤ w.index) → w.index ≤ k → ⊥
        after (inl more) le = let up = w.after k more u.unmet.first in omega (arith, u.over, w.tick)
        after (inr less) le =
            let at : k ≡ w.index = omega arith in
            let tick : tick_at hs k ≡ tick_at hs w.index = ap (tick_at hs) at in
            omega (arith, u.over, w.tick)

-- ---- Rules that no end breaks

-- a rule that broke at a line
pub broken-here :
    (n : Need) (hs : List Hit) (end : End) (b : Breach) → ((k : ℕ) (f : Fault) → k < length hs → BreaksLater n hs end k f → ⊥) → IsBroken n hs b
    → BreaksFirst n hs end b
broken-here n hs end b none x =
    let lt = x.inside in
    record {
      index = x.index;
      line = x.line;
      tick = x.tick ∙ sym (there-line hs end x.index lt);
      breaks = inl x.breaks;
      first = λ k f less y. either k f less y;
    }
  where
    either : (k : ℕ) (f : Fault) → k < x.index → Breaks n hs end k f → ⊥
    either k f less (inl y) = x.before k f less y
    either k f less (inr y) = none k f (let lt = x.inside in omega arith) y

pub clean-nowhere : (n : Need) (hs : List Hit) (end : End) → ((k : ℕ) (f : Fault) → BreaksLater n hs end k f → ⊥) → IsClean n hs → BreaksNowhere n hs end
clean-nowhere n hs end none clean k f (inl x) = clean k f x
clean-nowhere n hs end none clean k f (inr x) = none k f x

pub not-amid :
    (within : ℕ) (hs : List Hit) (end : End) (last : ℕ) → tick_of end ≤ last + within → KnowsLast first hs (Some last) → IsClean (Not within) hs
    → IsVerdict (Not within) hs end Undecided
not-amid within hs end last amid knows clean =
    let same = knows.same in
    (clean-nowhere (Not within) hs end (λ k f x. x) clean, (knows.index, record { first = knows.is; amid = omega arith }))

pub not-holds :
    (within : ℕ) (hs : List Hit) (end : End) (last : Option ℕ) → ((t : ℕ) → last ≡ Some t → t + within < tick_of end) → KnowsLast first hs last → IsClean (Not within) hs
    → IsVerdict (Not within) hs end Holds
not-holds within hs end None over knows clean = (clean-nowhere (Not within) hs end (λ k f x. x) clean, λ o. knows o.0 o.1.first)
not-holds within hs end (Some t) over knows clean = (
  clean-nowhere (Not within) hs end (λ k f x. x) clean,
  λ o. (let most = knows.most o.0 o.1.first in let amid = o.1.amid in let far = over t refl in omega arith),
)

-- ---- Counts

-- what breaks at a line comes before the end
fewer-is-after : (e : Option ℕ) (least : ℕ) (hs : List Hit) (end : End) (k : ℕ) → k < length hs → IsFewerAtEnd e least hs end k → ⊥
fewer-is-after e least hs end k lt x = let at = x.after in omega arith

pub count-broken :
    (least : ℕ) (most every : Option ℕ) (hs : List Hit) (end : End) (b : Breach) → IsBroken (Count least most every) hs b → IsVerdict (Count least most every) hs end (Broken b)
count-broken least most every hs end b x = broken-here (Count least most every) hs end b (λ k f lt y. fewer-is-after every least hs end k lt y.1) x

all-lines : (hs : List Hit) → take (length hs) hs ≡ hs
all-lines hs = take_all (length hs) hs (omega arith)

pub count-fewer :
    (least : ℕ) (most every : Option ℕ) (hs : List Hit) (end : End) (window count line : ℕ) → line ≡ length hs + 1 → KnowsCount every least hs window count
    → IsClean (Count least most every) hs → Lacks least window count (windows_over every end)
    → IsVerdict (Count least most every) hs end (Broken (record { line = line; tick = tick_of end; fault = Fewer }))
count-fewer least most every hs end window count line number knows clean lacks =
    let w = fewer-over every least hs window count (windows_over every end) knows lacks in
    record {
      index = length hs;
      line = number;
      tick = sym at-end;
      breaks = inr (
        refl,
        record {
          after = refl;
          fewer = record {
            window = w.0;
            is_over = w.1;
            few = subst (λ (zs : List Hit). count_in every w.0 zs < least) (sym (all-lines hs)) w.2;
          };
        },
      );
      first = λ k f less y. either k f less y;
    }
  where
    le-ltb-false : (n : ℕ) → nat_lt n n ≡ false
    le-ltb-false n = le-ltb n n (omega arith)

    at-end : tick_there hs end (length hs) ≡ tick_of end
    at-end = ap (λ (b : Bool). if b then tick_at hs (length hs) else tick_of end) (le-ltb-false (length hs))

    either : (k : ℕ) (f : Fault) → k < length hs → Breaks (Count least most every) hs end k f → ⊥
    either k f less (inl y) = clean k f y
    either k f less (inr y) = fewer-is-after every least hs end k less y.1

count-nowhere :
    (least : ℕ) (most every : Option ℕ) (hs : List Hit) (end : End) (window count : ℕ) → KnowsCount every least hs window count
    → IsClean (Count least most every) hs → (Lacks least window count (windows_over every end) → ⊥) → BreaksNowhere (Count least most every) hs end
count-nowhere least most every hs end window count knows clean fine =
    clean-nowhere (Count least most every) hs end (λ k f x. none k x.1) clean
  where
    none : (k : ℕ) → IsFewerAtEnd every least hs end k → ⊥
    none k x =
        let f = x.fewer in
        let few : count_in every f.window hs < least =
        subst (λ (zs : List Hit). count_in every f.window zs < least) (ap (λ (i : ℕ). take i hs) x.after ∙ all-lines hs) f.few
        in
        let enough = enough-over every least hs window count (windows_over every end) f.window knows fine f.is_over in
        omega arith

pub count-amid :
    (least : ℕ) (most every : Option ℕ) (hs : List Hit) (end : End) (window count : ℕ) → KnowsCount every least hs window count
    → IsClean (Count least most every) hs → (Lacks least window count (windows_over every end) → ⊥) → is_amid every end ≡ true
    → IsVerdict (Count least most every) hs end Undecided
count-amid least most every hs end window count knows clean fine amid = (count-nowhere least most every hs end window count knows clean fine, amid)

pub count-holds :
    (least : ℕ) (most every : Option ℕ) (hs : List Hit) (end : End) (window count : ℕ) → KnowsCount every least hs window count
    → IsClean (Count least most every) hs → (Lacks least window count (windows_over every end) → ⊥) → is_amid every end ≡ false
    → IsVerdict (Count least most every) hs end Holds
count-holds least most every hs end window count knows clean fine off =
    (count-nowhere least most every hs end window count knows clean fine, λ amid. test-none (is_amid every end) amid off)
