-- What comes of a rule at the end of a trace, by what is known of it.
use Rattle.fb_expect.proofs.lemmas.Common.{◌≡◌, ℕ, ◌+◌, ◌<◌, Bool, true, false, List, refl, sym, subst, arith, Option, Some, None, tick_of, Concludes, IsBelow, IsClean, KnowsLast, KnowsSee, Lacks, End, Hit, Need, Breach, Fewer, Unanswered, Holds, Broken, Mark, Watch}
use Rattle.fb_expect.specs.Rules.{IsVerdict, is_amid, windows_over}
use Rattle.fb_expect.specs.Watching.{Knows}
use Rattle.fb_expect.specs.declared.rule.Need.TheVariants as need
use Rattle.fb_expect.specs.declared.verdict.Verdict.{Verdict}
use Rattle.fb_expect.specs.declared.verdict.Verdict.TheVariants.{Undecided}
use Rattle.fb_expect.specs.declared.watch.Watch.TheVariants as watch
use Rattle.fb_expect.proofs.lemmas.rules.Concluding.{broken-here, clean-nowhere, count-amid, count-broken, count-fewer, count-holds, not-amid, not-holds, see-amid, see-holds, see-late, see-over}
use Rattle.fb_expect.proofs.lemmas.rules.Growing.{first}

-- what is known of a state is known of one that is the same
known : (n : Need) (hs : List Hit) (v w : Watch) → v ≡ w → Knows n hs v → Knows n hs w
known n hs v w same knows = subst (λ (x : Watch). Knows n hs x) same knows

-- ---- Rules that are broken

see-ends : (within line : ℕ) (w : Watch) (end : End) (b : Breach) → w ≡ watch.Broken b → Concludes (need.See within) w line end (Broken b)
see-ends within line w end b is hs number below knows = see-late within hs end b below (known (need.See within) hs w (watch.Broken b) is knows)

not-ends : (within line : ℕ) (w : Watch) (end : End) (b : Breach) → w ≡ watch.Broken b → Concludes (need.Not within) w line end (Broken b)
not-ends within line w end b is hs number below knows =
    broken-here (need.Not within) hs end b (λ k f lt x. x) (known (need.Not within) hs w (watch.Broken b) is knows)

before-ends : (within line : ℕ) (w : Watch) (end : End) (b : Breach) → w ≡ watch.Broken b → Concludes (need.Before within) w line end (Broken b)
before-ends within line w end b is hs number below knows =
    broken-here (need.Before within) hs end b (λ k f lt x. x) (known (need.Before within) hs w (watch.Broken b) is knows)

never-ends : (f : Bool) (line : ℕ) (w : Watch) (end : End) (b : Breach) → w ≡ watch.Broken b → Concludes (need.Never f) w line end (Broken b)
never-ends f line w end b is hs number below knows =
    broken-here (need.Never f) hs end b (λ k g lt x. x) (known (need.Never f) hs w (watch.Broken b) is knows)

count-ends :
    (least : ℕ) (most every : Option ℕ) (line : ℕ) (w : Watch) (end : End) (b : Breach) → w ≡ watch.Broken b
    → Concludes (need.Count least most every) w line end (Broken b)
count-ends least most every line w end b is hs number below knows =
    count-broken least most every hs end b (known (need.Count least most every) hs w (watch.Broken b) is knows)

pub broken-ends : (n : Need) (line : ℕ) (w : Watch) (end : End) (b : Breach) → w ≡ watch.Broken b → Concludes n w line end (Broken b)
broken-ends (need.See within) line w end b is = see-ends within line w end b is
broken-ends (need.Not within) line w end b is = not-ends within line w end b is
broken-ends (need.Before within) line w end b is = before-ends within line w end b is
broken-ends (need.Never f) line w end b is = never-ends f line w end b is
broken-ends (need.Count least most every) line w end b is = count-ends least most every line w end b is

-- ---- Rules that are not

pub see-left : (within line : ℕ) (w : Watch) (end : End) → ((m : Option Mark) → w ≡ watch.See m → ⊥) → ((b : Breach) → w ≡ watch.Broken b → ⊥) → Concludes (need.See within) w line end Holds
see-left within line (watch.See m) end a b hs number below knows = absurd (a m refl)
see-left within line (watch.Broken m) end a b hs number below knows = absurd (b m refl)
see-left within line (watch.Not m) end a b hs number below knows = absurd knows
see-left within line (watch.Before m) end a b hs number below knows = absurd knows
see-left within line (watch.Never m) end a b hs number below knows = absurd knows
see-left within line (watch.Count m n) end a b hs number below knows = absurd knows

pub not-left : (within line : ℕ) (w : Watch) (end : End) → ((m : Option ℕ) → w ≡ watch.Not m → ⊥) → ((b : Breach) → w ≡ watch.Broken b → ⊥) → Concludes (need.Not within) w line end Holds
not-left within line (watch.Not m) end a b hs number below knows = absurd (a m refl)
not-left within line (watch.Broken m) end a b hs number below knows = absurd (b m refl)
not-left within line (watch.See m) end a b hs number below knows = absurd knows
not-left within line (watch.Before m) end a b hs number below knows = absurd knows
not-left within line (watch.Never m) end a b hs number below knows = absurd knows
not-left within line (watch.Count m n) end a b hs number below knows = absurd knows

pub before-left : (within line : ℕ) (w : Watch) (end : End) → ((b : Breach) → w ≡ watch.Broken b → ⊥) → Concludes (need.Before within) w line end Holds
before-left within line (watch.Before m) end b hs number below (knows, clean) = (clean-nowhere (need.Before within) hs end (λ k f x. x) clean, λ o. o)
before-left within line (watch.Broken m) end b hs number below knows = absurd (b m refl)
before-left within line (watch.See m) end b hs number below knows = absurd knows
before-left within line (watch.Not m) end b hs number below knows = absurd knows
before-left within line (watch.Never m) end b hs number below knows = absurd knows
before-left within line (watch.Count m n) end b hs number below knows = absurd knows

pub never-left : (f : Bool) (line : ℕ) (w : Watch) (end : End) → ((b : Breach) → w ≡ watch.Broken b → ⊥) → Concludes (need.Never f) w line end Holds
never-left f line (watch.Never m) end b hs number below (knows, clean) = (clean-nowhere (need.Never f) hs end (λ k g x. x) clean, λ o. o)
never-left f line (watch.Broken m) end b hs number below knows = absurd (b m refl)
never-left f line (watch.See m) end b hs number below knows = absurd knows
never-left f line (watch.Not m) end b hs number below knows = absurd knows
never-left f line (watch.Before m) end b hs number below knows = absurd knows
never-left f line (watch.Count m n) end b hs number below knows = absurd knows

pub count-left :
    (least : ℕ) (most every : Option ℕ) (line : ℕ) (w : Watch) (end : End) → ((m n : ℕ) → w ≡ watch.Count m n → ⊥) → ((b : Breach) → w ≡ watch.Broken b → ⊥)
    → Concludes (need.Count least most every) w line end Holds
count-left least most every line (watch.Count m n) end a b hs number below knows = absurd (a m n refl)
count-left least most every line (watch.Broken m) end a b hs number below knows = absurd (b m refl)
count-left least most every line (watch.See m) end a b hs number below knows = absurd knows
count-left least most every line (watch.Not m) end a b hs number below knows = absurd knows
count-left least most every line (watch.Before m) end a b hs number below knows = absurd knows
count-left least most every line (watch.Never m) end a b hs number below knows = absurd knows

-- ---- What waits

abbrev pub EndsSee : (within : ℕ) → Option Mark → End → Verdict → Type 0
EndsSee within mark end v = (hs : List Hit) → IsBelow hs (tick_of end) → KnowsSee within hs mark → IsVerdict (need.See within) hs end v

pub mark-over : (within : ℕ) (mark : Option Mark) (end : End) (m : Mark) → mark ≡ Some m → m.tick + within < tick_of end → EndsSee within mark end (Broken (record { line = m.line; tick = m.tick; fault = Unanswered }))
mark-over within mark end m is over hs below knows = see-over within hs end m over (subst (λ (o : Option Mark). KnowsSee within hs o) is knows)

pub mark-amid : (within : ℕ) (mark : Option Mark) (end : End) (m : Mark) → mark ≡ Some m → (m.tick + within < tick_of end → ⊥) → EndsSee within mark end Undecided
mark-amid within mark end m is amid hs below knows =
    see-amid within hs end m (omega (arith, amid)) (subst (λ (o : Option Mark). KnowsSee within hs o) is knows)

pub mark-none : (within : ℕ) (mark : Option Mark) (end : End) → mark ≡ None → EndsSee within mark end Holds
mark-none within mark end is hs below knows = see-holds within hs end (subst (λ (o : Option Mark). KnowsSee within hs o) is knows)

-- ---- What could follow

abbrev pub EndsNot : (within : ℕ) → Option ℕ → End → Verdict → Type 0
EndsNot within last end v = (hs : List Hit) → KnowsLast (λ h. h.first) hs last → IsClean (need.Not within) hs → IsVerdict (need.Not within) hs end v

pub last-over : (within : ℕ) (last : Option ℕ) (end : End) (t : ℕ) → last ≡ Some t → t + within < tick_of end → EndsNot within last end Holds
last-over within last end t is over hs knows clean =
    not-holds within hs end (Some t) (λ s same. subst (λ (u : ℕ). u + within < tick_of end) (some-is t s same) over) (subst (λ (o : Option ℕ). KnowsLast first hs o) is knows) clean
  where
    some-is : (t s : ℕ) → Some t ≡ Some s → t ≡ s
    some-is t s same = cc

pub last-amid : (within : ℕ) (last : Option ℕ) (end : End) (t : ℕ) → last ≡ Some t → (t + within < tick_of end → ⊥) → EndsNot within last end Undecided
last-amid within last end t is amid hs knows clean = not-amid within hs end t (omega (arith, amid)) (subst (λ (o : Option ℕ). KnowsLast first hs o) is knows) clean

pub last-none : (within : ℕ) (last : Option ℕ) (end : End) → last ≡ None → EndsNot within last end Holds
last-none within last end is hs knows clean =
    not-holds within hs end None (λ t same. absurd (let bad : None ≡ Some t = same in cc)) (subst (λ (o : Option ℕ). KnowsLast first hs o) is knows) clean

-- ---- Windows

pub window-fewer :
    (least : ℕ) (most every : Option ℕ) (window count over line : ℕ) (end : End) → over ≡ windows_over every end → Lacks least window count over
    → Concludes (need.Count least most every) (watch.Count window count) line end (Broken (record { line = line; tick = tick_of end; fault = Fewer }))
window-fewer least most every window count over line end is lacks hs number below (knows, clean) =
    count-fewer least most every hs end window count line number knows clean (subst (λ (n : ℕ). Lacks least window count n) is lacks)

pub window-amid :
    (least : ℕ) (most every : Option ℕ) (window count over line : ℕ) (end : End) → over ≡ windows_over every end → (Lacks least window count over → ⊥)
    → is_amid every end ≡ true → Concludes (need.Count least most every) (watch.Count window count) line end Undecided
window-amid least most every window count over line end is fine amid hs number below (knows, clean) =
    count-amid least most every hs end window count knows clean (λ l. fine (subst (λ (n : ℕ). Lacks least window count n) (sym is) l)) amid

pub window-holds :
    (least : ℕ) (most every : Option ℕ) (window count over line : ℕ) (end : End) → over ≡ windows_over every end → (Lacks least window count over → ⊥)
    → is_amid every end ≡ false → Concludes (need.Count least most every) (watch.Count window count) line end Holds
window-holds least most every window count over line end is fine off hs number below (knows, clean) =
    count-holds least most every hs end window count knows clean (λ l. fine (subst (λ (n : ℕ). Lacks least window count n) (sym is) l)) off
