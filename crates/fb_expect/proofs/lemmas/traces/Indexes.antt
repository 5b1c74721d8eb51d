-- Places of lists of lines that grow by one line.
use Rattle.fb_types.proofs.Common.{◌≡◌, ℕ, ◌<◌, Bool, true, false, List, [], ◌∷◌, ◌++◌, length, sym, ap, subst, ◌∙◌, arith, inl, inr, ◌⊎◌, cases_lt, get_or_append_left, get_or_past, length_push}
use Rattle.std.proofs.Math.Seq.{get_or-append_seam}
use Rattle.fb_expect.specs.Hits.{hit_at, no_hit, tick_at}
use Rattle.fb_expect.specs.declared.hit.Hit.{Hit}

-- no line passes a test where it is none
pub test-none : {P : Type 0} (b : Bool) → b ≡ true → b ≡ false → P
test-none b sure off = let bad : true ≡ false = sym sure ∙ off in absurd (cc)

pub old-at : (hs : List Hit) (h : Hit) (i : ℕ) → i < length hs → hit_at (hs ++ h ∷ []) i ≡ hit_at hs i
old-at hs h i lt = get_or_append_left hs (h ∷ []) no_hit i lt

pub new-at : (hs : List Hit) (h : Hit) → hit_at (hs ++ h ∷ []) (length hs) ≡ h
new-at hs h = get_or-append_seam hs h [] no_hit

pub tick-old : (hs : List Hit) (h : Hit) (i : ℕ) → i < length hs → tick_at (hs ++ h ∷ []) i ≡ tick_at hs i
tick-old hs h i lt = ap (λ (x : Hit). x.tick) (old-at hs h i lt)

pub tick-new : (hs : List Hit) (h : Hit) → tick_at (hs ++ h ∷ []) (length hs) ≡ h.tick
tick-new hs h = ap (λ (x : Hit). x.tick) (new-at hs h)

-- a line that passes a test is one of the list
pub inside : (test : Hit → Bool) (hs : List Hit) (i : ℕ) → test no_hit ≡ false → test (hit_at hs i) ≡ true → i < length hs
inside test hs i none is =
    elim (cases_lt i (length hs)) as (λ _. i < length hs) [
      | inl lt ↦ lt
      | inr le ↦ test-none (test (hit_at hs i)) is (ap test (get_or_past hs i no_hit le) ∙ none)
    ]

pub kept : (test : Hit → Bool) (hs : List Hit) (h : Hit) (i : ℕ) → i < length hs → test (hit_at hs i) ≡ true → test (hit_at (hs ++ h ∷ []) i) ≡ true
kept test hs h i lt is = ap test (old-at hs h i lt) ∙ is

pub back : (test : Hit → Bool) (hs : List Hit) (h : Hit) (i : ℕ) → i < length hs → test (hit_at (hs ++ h ∷ []) i) ≡ true → test (hit_at hs i) ≡ true
back test hs h i lt is = ap test (sym (old-at hs h i lt)) ∙ is

pub at-new : (test : Hit → Bool) (hs : List Hit) (h : Hit) → test h ≡ true → test (hit_at (hs ++ h ∷ []) (length hs)) ≡ true
at-new test hs h is = ap test (new-at hs h) ∙ is

pub new-back : (test : Hit → Bool) (hs : List Hit) (h : Hit) → test (hit_at (hs ++ h ∷ []) (length hs)) ≡ true → test h ≡ true
new-back test hs h is = ap test (sym (new-at hs h)) ∙ is

-- A line that passes a test is an old one, or the new one.
abbrev pub Found : (test : Hit → Bool) → List Hit → Hit → ℕ → Type 0
Found test hs h i = ((i < length hs) × (test (hit_at hs i) ≡ true)) ⊎ ((i ≡ length hs) × (test h ≡ true))

pub found : (test : Hit → Bool) (hs : List Hit) (h : Hit) (i : ℕ) → test no_hit ≡ false → test (hit_at (hs ++ h ∷ []) i) ≡ true → Found test hs h i
found test hs h i none is =
    let within = inside test (hs ++ h ∷ []) i none is in
    let long = length_push hs h in
    elim (cases_lt i (length hs)) as (λ _. Found test hs h i) [
      | inl lt ↦ inl (lt, back test hs h i lt is)
      | inr le ↦
          (let same : i ≡ length hs = omega arith in
          inr (same, new-back test hs h (subst (λ (k : ℕ). test (hit_at (hs ++ h ∷ []) k) ≡ true) same is)))
    ]
