-- What rules ask of the lines of a trace that pair each P with a Q: by equal values, or by turns (this project's own).
use Rattle.std.specs.Prelude.{◌≡◌, ◌⊎◌, ◌↔◌, IsTrue, ℕ, zero, suc, ◌+◌, ◌<◌, ◌≤◌, Bool, true, false, not, ◌&&◌, ◌||◌, ◌==◌, nat_lt, if◌then◌else◌, List, [], ◌∷◌, ◌++◌, length, map, count_by, filter, position, remove, Option, Some, None, slice_index_or}
use Rattle.std.specs.Option.{option_map_or}
use Rattle.fb_expect.specs.Events.{Event}
use Rattle.fb_expect.specs.Hits.{hit_of}
use Rattle.fb_expect.specs.Pairing.{are_same}
use Rattle.fb_expect.specs.Traces.{tick_of}
use Rattle.fb_expect.specs.Words.{Text}
use Rattle.fb_types.specs.Names.{Name}
use Rattle.fb_expect.specs.declared.ending.End.{End}
use Rattle.fb_expect.specs.declared.pairs.PairLine.{PairLine}
use Rattle.fb_expect.specs.declared.pairs.Pairs.{Pairs}
use Rattle.fb_expect.specs.declared.pairs.Waiting.{Waiting}
use Rattle.fb_expect.specs.declared.rule.Need.{Need}
use Rattle.fb_expect.specs.declared.rule.Need.TheVariants as need
use Rattle.fb_expect.specs.declared.rule.Pairing.{Pairing}
use Rattle.fb_expect.specs.declared.rule.Rule.{Rule}
use Rattle.fb_expect.specs.declared.verdict.Breach.{Breach}
use Rattle.fb_expect.specs.declared.verdict.Fault.TheVariants.{Unanswered}
use Rattle.fb_expect.specs.declared.verdict.Verdict.{Verdict}
use Rattle.fb_expect.specs.declared.verdict.Verdict.TheVariants.{Holds, Broken, Undecided}

-- A line as a rule that pairs lines sees it: its tick, whether it is a P or a Q, and its values. Both have all variables that are compared.
pub record PairHit : Type 0 where
  pub tick : ℕ
  pub first : Bool
  pub second : Bool
  pub values : Text

abbrev pub pair_hit_of : Rule → Event → PairHit
pair_hit_of r e = let h = hit_of r e in record { tick = h.tick; first = h.first; second = h.second; values = e.values }

-- the same of a line of a text
abbrev pub seen_line : PairLine → PairHit
seen_line l = record { tick = l.hit.tick; first = l.hit.first; second = l.hit.second; values = l.values.now }

abbrev pub pair_hits_of : Rule → List Event → List PairHit
pair_hits_of r es = map (pair_hit_of r) es

abbrev pub no_hit : PairHit
no_hit = record { tick = 0; first = false; second = false; values = [] }

abbrev pub hit_at : List PairHit → ℕ → PairHit
hit_at hs i = slice_index_or hs i no_hit

-- ---- Which Q answers which P

-- whether a P may have a Q for its answer, whatever other lines do
abbrev pub suits : List Name → (p q : PairHit) → Bool
suits same p q = p.first && (q.second && are_same same p.values q.values)

-- whether a number below another passes a test
abbrev pub some_below : (ℕ → Bool) → ℕ → Bool
some_below test zero = false
some_below test (suc n) = some_below test n || test n

-- the first number below another that passes a test
abbrev pub or_last : Option ℕ → Bool → ℕ → Option ℕ
or_last (Some i) last n = Some i
or_last None last n = if last then Some n else None

abbrev pub first_below : (ℕ → Bool) → ℕ → Option ℕ
first_below test zero = None
first_below test (suc n) = or_last (first_below test n) (test n) n

abbrev pub is_index : ℕ → Option ℕ → Bool
is_index i o = option_map_or (λ k. k == i) o false

-- the P that the line at an index answers, where the lines before it answer these
abbrev pub answer_after : List Name → List PairHit → (before : List (Option ℕ)) → ℕ → Option ℕ
answer_after same hs before j =
    first_below (λ i. suits same (hit_at hs i) (hit_at hs j) && not (some_below (λ k. is_index i (slice_index_or before k None)) j)) j

-- The P that each of the first lines answers, by turns, if it answers one: the first P before it that it suits and that no line before it
-- answers.
abbrev pub turns : List Name → List PairHit → ℕ → List (Option ℕ)
turns same hs zero = []
turns same hs (suc j) = turns same hs j ++ answer_after same hs (turns same hs j) j ∷ []

-- whether a line answers a P: by turns, or each Q after it with its values
abbrev pub answers_by : (is_each : Bool) → List Name → List PairHit → (i j : ℕ) → Bool
answers_by true same hs i j = is_index i (slice_index_or (turns same hs (length hs)) j None)
answers_by false same hs i j = nat_lt i j && suits same (hit_at hs i) (hit_at hs j)

abbrev pub answers : Pairing → List PairHit → (i j : ℕ) → Bool
answers p hs i j = answers_by p.is_each p.same hs i j

-- ---- What comes of the rule

-- a P without an answer in time
pub record IsUnpaired (within : ℕ) (p : Pairing) (hs : List PairHit) (i : ℕ) : Type 0 where
  pub first : (hit_at hs i).first ≡ true
  pub none : (j : ℕ) → answers p hs i j ≡ true → (hit_at hs i).tick + within < (hit_at hs j).tick

-- the time for it is over
pub record IsLeft (within : ℕ) (p : Pairing) (hs : List PairHit) (end : End) (i : ℕ) : Type 0 where
  pub unpaired : IsUnpaired within p hs i
  pub over : (hit_at hs i).tick + within < tick_of end

-- the trace ends before that
pub record IsHeldUp (within : ℕ) (p : Pairing) (hs : List PairHit) (end : End) (i : ℕ) : Type 0 where
  pub unpaired : IsUnpaired within p hs i
  pub amid : tick_of end ≤ (hit_at hs i).tick + within

-- this P is without an answer in time, and each before it has one
pub record IsLeftFirst (within : ℕ) (p : Pairing) (hs : List PairHit) (end : End) (b : Breach) : Type 0 where
  pub index : ℕ
  pub line : b.line ≡ index + 1
  pub tick : b.tick ≡ (hit_at hs index).tick
  pub fault : b.fault ≡ Unanswered
  pub left : IsLeft within p hs end index
  pub before : (i : ℕ) → i < index → IsLeft within p hs end i → ⊥

abbrev pub IsPairVerdict : (within : ℕ) → Pairing → List PairHit → End → Verdict → Type 0
IsPairVerdict within p hs end Holds = ((i : ℕ) → IsLeft within p hs end i → ⊥) × ((i : ℕ) → IsHeldUp within p hs end i → ⊥)
IsPairVerdict within p hs end (Broken b) = IsLeftFirst within p hs end b
IsPairVerdict within p hs end Undecided = ((i : ℕ) → IsLeft within p hs end i → ⊥) × ((i : ℕ) × IsHeldUp within p hs end i)

-- the time in which an answer must come
abbrev pub within_of : Need → ℕ
within_of (need.See within) = within
within_of (need.Not within) = within
within_of (need.Before within) = within
within_of (need.Never from_start) = 0
within_of (need.Count least most every) = 0

-- ---- Whether the rule was decided at least once

-- a P is answered in time
pub record IsMet (within : ℕ) (p : Pairing) (hs : List PairHit) (i : ℕ) : Type 0 where
  pub answer : ℕ
  pub answers : answers p hs i answer ≡ true
  pub soon : (hit_at hs answer).tick ≤ (hit_at hs i).tick + within

-- A P is decided: it is answered in time, or its time is over when the trace ends.
pub record IsSettled (within : ℕ) (p : Pairing) (hs : List PairHit) (end : End) (i : ℕ) : Type 0 where
  pub first : (hit_at hs i).first ≡ true
  pub settled : IsMet within p hs i ⊎ ((hit_at hs i).tick + within < tick_of end)

-- whether some P is
abbrev pub Settles : (within : ℕ) → Pairing → List PairHit → End → Bool → Type 0
Settles within p hs end applied = IsTrue applied ↔ ((i : ℕ) × IsSettled within p hs end i)

-- how many lines are P
abbrev pub count_first : List PairHit → ℕ
count_first hs = count_by (λ h. h.first) hs

-- Whether a rule was decided at least once. Only a rule `see` pairs lines.
abbrev pub IsPairApplied : Need → Pairing → List PairHit → End → (often : ℕ) → (applied : Bool) → Type 0
IsPairApplied (need.See within) p hs end often applied = Settles within p hs end applied
IsPairApplied (need.Not within) p hs end often applied = applied ≡ not (often == 0)
IsPairApplied (need.Before within) p hs end often applied = applied ≡ not (often == 0)
IsPairApplied (need.Never from_start) p hs end often applied = applied ≡ not (often == 0)
IsPairApplied (need.Count least most every) p hs end often applied = applied ≡ not (often == 0)

-- ---- While a trace is read

-- whether the line at an index waits: it is a P, and no line answers it
abbrev pub waits : Pairing → List PairHit → ℕ → Bool
waits p hs i = (hit_at hs i).first && not (some_below (answers p hs i) (length hs))

-- what is kept of a line that waits
abbrev pub waiting_of : (line : ℕ) → PairHit → Waiting
waiting_of line h = record { mark = record { line = line; tick = h.tick }; values = h.values }

abbrev pub waiting_at : List PairHit → ℕ → Waiting
waiting_at hs i = waiting_of (i + 1) (hit_at hs i)

-- what is made of those of the first numbers that pass a test
abbrev pub one_if : Bool → Waiting → List Waiting
one_if here w = if here then w ∷ [] else []

abbrev pub picks : (ℕ → Bool) → (ℕ → Waiting) → ℕ → List Waiting
picks test make zero = []
picks test make (suc n) = picks test make n ++ one_if (test n) (make n)

-- Exactly the lines that wait are kept, in their order, and every other P is answered in time.
pub record KnowsWaiting (within : ℕ) (p : Pairing) (hs : List PairHit) (ws : List Waiting) : Type 0 where
  pub kept : ws ≡ picks (waits p hs) (waiting_at hs) (length hs)
  pub met : (i : ℕ) → (hit_at hs i).first ≡ true → waits p hs i ≡ false → IsMet within p hs i
  pub rise : (i k : ℕ) → i ≤ k → k < length hs → (hit_at hs i).tick ≤ (hit_at hs k).tick

-- A P was without an answer in time when a line of a later tick came, and each P before it had one.
pub record KnowsLate (within : ℕ) (p : Pairing) (hs : List PairHit) (b : Breach) : Type 0 where
  pub index : ℕ
  pub line : b.line ≡ index + 1
  pub tick : b.tick ≡ (hit_at hs index).tick
  pub fault : b.fault ≡ Unanswered
  pub unpaired : IsUnpaired within p hs index
  pub later : ℕ
  pub over : (hit_at hs index).tick + within < (hit_at hs later).tick
  pub before : (i : ℕ) → i < index → IsUnpaired within p hs i → ⊥

abbrev pub KnowsBy : (within : ℕ) → Pairing → List PairHit → List Waiting → (late : Option Breach) → Type 0
KnowsBy within p hs ws None = KnowsWaiting within p hs ws
KnowsBy within p hs ws (Some b) = KnowsLate within p hs b

abbrev pub KnowsPairs : (within : ℕ) → Pairing → List PairHit → Pairs → Type 0
KnowsPairs within p hs pairs = KnowsBy within p hs pairs.waiting.items pairs.late

-- ---- What a line does with the lines that wait

-- whether one that waits has these values
abbrev pub has_values : Pairing → (values : Text) → Waiting → Bool
has_values p values w = are_same p.same w.values values

-- the first that waits for a line with these values
abbrev pub place_in : Pairing → (values : Text) → List Waiting → Option ℕ
place_in p values ws = position (has_values p values) ws

-- without it
abbrev pub without : Option ℕ → List Waiting → List Waiting
without None ws = ws
without (Some i) ws = remove ws i

-- a Q with these values ends the wait of the first of them, by turns, or of all
abbrev pub answered_by : (is_each : Bool) → Pairing → (values : Text) → List Waiting → List Waiting
answered_by true p values ws = without (place_in p values ws) ws
answered_by false p values ws = filter (λ w. not (has_values p values w)) ws

abbrev pub answered : Pairing → (values : Text) → List Waiting → List Waiting
answered p values ws = answered_by p.is_each p values ws

-- what waits after a line of this number: what it does not answer, and the line itself if it is a P
abbrev pub if_second : Bool → (left all : List Waiting) → List Waiting
if_second here left all = if here then left else all

abbrev pub waits_after : Pairing → (line : ℕ) → PairHit → List Waiting → List Waiting
waits_after p line hit ws =
    if_second hit.second (answered p hit.values ws) ws ++ one_if hit.first (waiting_of line hit)

-- a tick is in time for all that wait, of which the first is of the least tick, or it is too late for the first
abbrev pub IsInTime : (within tick : ℕ) → List Waiting → Type 0
IsInTime within tick [] = Unit {0}
IsInTime within tick (w ∷ ws) = tick ≤ w.mark.tick + within

abbrev pub IsOverdue : (within tick : ℕ) → List Waiting → Breach → Type 0
IsOverdue within tick [] b = ⊥
IsOverdue within tick (w ∷ ws) b = (b ≡ record { line = w.mark.line; tick = w.mark.tick; fault = Unanswered }) × (w.mark.tick + within < tick)

-- one more line is taken, of no earlier tick and of this number
abbrev pub AreBelow : List PairHit → ℕ → Type 0
AreBelow hs t = (i : ℕ) → (hit_at hs i).tick ≤ t

abbrev pub PairsOn : (within : ℕ) → Pairing → Pairs → (line : ℕ) → PairHit → Pairs → Type 0
PairsOn within p old line hit new =
    (hs : List PairHit) → line ≡ length hs + 1 → AreBelow hs hit.tick → KnowsPairs within p hs old → KnowsPairs within p (hs ++ hit ∷ []) new

-- this is how many lines are P, where that is counted
abbrev pub CountsFirst : Need → List PairHit → (often : ℕ) → Type 0
CountsFirst (need.See within) hs often = often ≡ count_first hs
CountsFirst (need.Not within) hs often = Unit {0}
CountsFirst (need.Before within) hs often = Unit {0}
CountsFirst (need.Never from_start) hs often = Unit {0}
CountsFirst (need.Count least most every) hs often = Unit {0}

-- all lines were read, of which this many are P: whether some P is decided
abbrev pub PairsSettle : (within : ℕ) → Pairing → Pairs → End → (often : ℕ) → (applied : Bool) → Type 0
PairsSettle within p pairs end often applied =
    (hs : List PairHit) → AreBelow hs (tick_of end) → often ≡ count_first hs → KnowsPairs within p hs pairs → Settles within p hs end applied

-- all lines were read: whether the rule, of which this is known, was decided
abbrev pub PairsApply : Need → Pairing → Pairs → End → (often : ℕ) → (applied : Bool) → Type 0
PairsApply n p pairs end often applied =
    (hs : List PairHit) → AreBelow hs (tick_of end) → CountsFirst n hs often → KnowsPairs (within_of n) p hs pairs → IsPairApplied n p hs end often applied

-- the whole trace was read
abbrev pub PairsEnd : (within : ℕ) → Pairing → Pairs → End → Verdict → Type 0
PairsEnd within p pairs end verdict = (hs : List PairHit) → AreBelow hs (tick_of end) → KnowsPairs within p hs pairs → IsPairVerdict within p hs end verdict
