-- What breaks a rule at a index, whatever comes after it: it stays when lines come, and comes with none of them.
use Rattle.fb_expect.proofs.lemmas.Common.{◌≡◌, ℕ, ◌+◌, ◌<◌, ◌≤◌, Bool, List, [], ◌∷◌, ◌++◌, length, take, refl, sym, subst, ◌∙◌, arith, inl, inr, Option, cases_lt, length_push, tick_at, IsOver, count_in, IsClean, Hit, Need, Breach}
use Rattle.fb_types.proofs.Common.{take-append-le}
use Rattle.fb_expect.specs.Rules.{BreaksHere, HasFewer, IsMore, window_of}
use Rattle.fb_expect.specs.Watching.{IsBroken, IsWithin}
use Rattle.fb_expect.specs.declared.rule.Need.TheVariants.{See, Not, Before, Never, Count}
use Rattle.fb_expect.specs.declared.verdict.Fault.{Fault}
use Rattle.fb_expect.proofs.lemmas.traces.Indexes.{back, inside, kept, tick-new, tick-old}

abbrev pub first : Hit → Bool
first h = h.first

abbrev pub second : Hit → Bool
second h = h.second

abbrev pub third : Hit → Bool
third h = h.third

-- ---- A stretch up to a index

pub within-old : (f : Bool) (hs : List Hit) (h : Hit) (k : ℕ) → k < length hs → IsWithin f (hs ++ h ∷ []) k → IsWithin f hs k
within-old f hs h k lt (inl s) = inl (record { counts = s.counts; none = λ j le is. s.none j le (kept third hs h j (omega arith) is) })
within-old f hs h k lt (inr s) =
    let before = s.before in
    inr (record {
      start = s.start;
      before = before;
      second = back second hs h s.start (omega arith) s.second;
      none = λ j more le is. s.none j more le (kept third hs h j (omega arith) is);
    })

pub within-kept : (f : Bool) (hs : List Hit) (h : Hit) (k : ℕ) → k < length hs → IsWithin f hs k → IsWithin f (hs ++ h ∷ []) k
within-kept f hs h k lt (inl s) = inl (record { counts = s.counts; none = λ j le is. s.none j le (back third hs h j (omega arith) is) })
within-kept f hs h k lt (inr s) =
    let before = s.before in
    inr (record {
      start = s.start;
      before = before;
      second = kept second hs h s.start (omega arith) s.second;
      none = λ j more le is. s.none j more le (back third hs h j (omega arith) is);
    })

-- ---- The lines before a index

pub front : (hs : List Hit) (h : Hit) (k : ℕ) → k ≤ length hs → take k (hs ++ h ∷ []) ≡ take k hs
front hs h k le = take-append-le k hs (h ∷ []) le

fewer-old : (e : Option ℕ) (least over : ℕ) (hs : List Hit) (h : Hit) (k : ℕ) → k ≤ length hs → HasFewer e least over (hs ++ h ∷ []) k → HasFewer e least over hs k
fewer-old e least over hs h k le x =
    record { window = x.window; is_over = x.is_over; few = subst (λ (zs : List Hit). count_in e x.window zs < least) (front hs h k le) x.few }

fewer-kept : (e : Option ℕ) (least over : ℕ) (hs : List Hit) (h : Hit) (k : ℕ) → k ≤ length hs → HasFewer e least over hs k → HasFewer e least over (hs ++ h ∷ []) k
fewer-kept e least over hs h k le x =
    record { window = x.window; is_over = x.is_over; few = subst (λ (zs : List Hit). count_in e x.window zs < least) (sym (front hs h k le)) x.few }

more-old : (e most : Option ℕ) (hs : List Hit) (h : Hit) (k : ℕ) → k < length hs → IsMore e most (hs ++ h ∷ []) k → IsMore e most hs k
more-old e most hs h k lt x =
    record {
      first = back first hs h k lt x.first;
      many =
          subst (λ (t : ℕ). IsOver most (count_in e (window_of e t) (take (k + 1) hs))) (tick-old hs h k lt)
          (subst (λ (zs : List Hit). IsOver most (count_in e (window_of e (tick_at (hs ++ h ∷ []) k)) zs)) (front hs h (k + 1) (omega arith)) x.many);
    }

more-kept : (e most : Option ℕ) (hs : List Hit) (h : Hit) (k : ℕ) → k < length hs → IsMore e most hs k → IsMore e most (hs ++ h ∷ []) k
more-kept e most hs h k lt x =
    record {
      first = kept first hs h k lt x.first;
      many =
          subst (λ (t : ℕ). IsOver most (count_in e (window_of e t) (take (k + 1) (hs ++ h ∷ [])))) (sym (tick-old hs h k lt))
          (subst (λ (zs : List Hit). IsOver most (count_in e (window_of e (tick_at hs k)) zs)) (sym (front hs h (k + 1) (omega arith))) x.many);
    }

-- ---- Whatever the rule

pub here-old : (n : Need) (hs : List Hit) (h : Hit) (k : ℕ) (f : Fault) → k < length hs → BreaksHere n (hs ++ h ∷ []) k f → BreaksHere n hs k f
here-old (See within) hs h k f lt x = x
here-old (Not within) hs h k f lt (same, x) =
    let before = x.before in
    let soon = x.soon in
    let a = tick-old hs h k lt in
    let b = tick-old hs h x.cause (omega arith) in (
      same,
      record {
        second = back second hs h k lt x.second;
        cause = x.cause;
        before = before;
        first = back first hs h x.cause (omega arith) x.first;
        soon = omega arith;
      },
    )
here-old (Before within) hs h k f lt (same, x) = (
  same,
  record {
    first = back first hs h k lt x.first;
    none = λ j before is.
        (let far = x.none j before (kept second hs h j (omega arith) is) in
        let a = tick-old hs h k lt in
        let b = tick-old hs h j (omega arith) in
        omega arith);
  },
)
here-old (Never from_start) hs h k f lt (same, x) = (same, record { first = back first hs h k lt x.first; within = within-old from_start hs h k lt x.within })
here-old (Count least most every) hs h k f lt (inl (same, x)) =
    inl (
      same,
      record {
        within = lt;
        fewer = subst (λ (t : ℕ). HasFewer every least (window_of every t) hs k) (tick-old hs h k lt) (fewer-old every least _ hs h k (omega arith) x.fewer);
      },
    )
here-old (Count least most every) hs h k f lt (inr (same, x)) = inr (same, more-old every most hs h k lt x)

pub here-kept : (n : Need) (hs : List Hit) (h : Hit) (k : ℕ) (f : Fault) → k < length hs → BreaksHere n hs k f → BreaksHere n (hs ++ h ∷ []) k f
here-kept (See within) hs h k f lt x = x
here-kept (Not within) hs h k f lt (same, x) =
    let before = x.before in
    let soon = x.soon in
    let a = tick-old hs h k lt in
    let b = tick-old hs h x.cause (omega arith) in (
      same,
      record {
        second = kept second hs h k lt x.second;
        cause = x.cause;
        before = before;
        first = kept first hs h x.cause (omega arith) x.first;
        soon = omega arith;
      },
    )
here-kept (Before within) hs h k f lt (same, x) = (
  same,
  record {
    first = kept first hs h k lt x.first;
    none = λ j before is.
        (let far = x.none j before (back second hs h j (omega arith) is) in
        let a = tick-old hs h k lt in
        let b = tick-old hs h j (omega arith) in
        omega arith);
  },
)
here-kept (Never from_start) hs h k f lt (same, x) = (same, record { first = kept first hs h k lt x.first; within = within-kept from_start hs h k lt x.within })
here-kept (Count least most every) hs h k f lt (inl (same, x)) =
    let long = length_push hs h in
    inl (
      same,
      record {
        within = omega arith;
        fewer = subst (λ (t : ℕ). HasFewer every least (window_of every t) (hs ++ h ∷ []) k) (sym (tick-old hs h k lt)) (fewer-kept every least _ hs h k (omega arith) x.fewer);
      },
    )
here-kept (Count least most every) hs h k f lt (inr (same, x)) = inr (same, more-kept every most hs h k lt x)

-- what breaks a rule is a line
pub here-inside : (n : Need) (hs : List Hit) (k : ℕ) (f : Fault) → BreaksHere n hs k f → k < length hs
here-inside (See within) hs k f x = absurd x
here-inside (Not within) hs k f (same, x) = inside second hs k refl x.second
here-inside (Before within) hs k f (same, x) = inside first hs k refl x.first
here-inside (Never from_start) hs k f (same, x) = inside first hs k refl x.first
here-inside (Count least most every) hs k f (inl (same, x)) = x.within
here-inside (Count least most every) hs k f (inr (same, x)) = inside first hs k refl x.first

-- nothing breaks it with a line that does not
pub clean-more : (n : Need) (hs : List Hit) (h : Hit) → IsClean n hs → ((f : Fault) → BreaksHere n (hs ++ h ∷ []) (length hs) f → ⊥) → IsClean n (hs ++ h ∷ [])
clean-more n hs h clean none k f x =
    let lt = here-inside n (hs ++ h ∷ []) k f x in
    let long = length_push hs h in
    elim (cases_lt k (length hs)) [
      | inl less ↦ clean k f (here-old n hs h k f less x)
      | inr le ↦ (let same : k ≡ length hs = omega arith in none f (subst (λ (i : ℕ). BreaksHere n (hs ++ h ∷ []) i f) same x))
    ]

-- a line breaks it first
pub broken-new :
    (n : Need) (hs : List Hit) (h : Hit) (line : ℕ) (f : Fault) → line ≡ length hs + 1 → IsClean n hs → BreaksHere n (hs ++ h ∷ []) (length hs) f
    → IsBroken n (hs ++ h ∷ []) (record { line = line; tick = h.tick; fault = f })
broken-new n hs h line f number clean x =
    record {
      index = length hs;
      line = number;
      tick = sym (tick-new hs h);
      inside = here-inside n (hs ++ h ∷ []) (length hs) f x;
      breaks = x;
      before = λ k g lt y. clean k g (here-old n hs h k g lt y);
    }

-- it stays broken
pub broken-kept : (n : Need) (hs : List Hit) (h : Hit) (b : Breach) → IsBroken n hs b → IsBroken n (hs ++ h ∷ []) b
broken-kept n hs h b x =
    let lt = x.inside in
    let long = length_push hs h in
    record {
      index = x.index;
      line = x.line;
      tick = x.tick ∙ sym (tick-old hs h x.index lt);
      inside = omega arith;
      breaks = here-kept n hs h x.index b.fault lt x.breaks;
      before = λ k g less y. x.before k g less (here-old n hs h k g (omega arith) y);
    }
