-- The least arrival over the entries so far of a table of latencies.
use Rattle.fb_types.proofs.Common.{◌≡◌, ℕ, ◌+◌, ◌^◌, ◌<◌, ◌≤◌, min, List, [], length, take, get_or, sym, ◌∙◌, subst, inl, inr, arith, cases_lt, take_all, All-nil, All-weaker, latency_at}
use Rattle.fb_types.specs.declared.latency.Entry.{Entry}
use Rattle.std.specs.List.{All}
use Rattle.std.proofs.lemmas.List.Elements.{All-more}
use Rattle.fb_types.specs.Latencies.{IsLatencyTable}
use Rattle.fb_link.specs.Arrivals.{arrival_at, IsEarliest}
use Rattle.fb_link.proofs.lemmas.LatencyTables.{NoEarlier, latency_within, latency_index, arrival_least}

-- the least arrival of the message that is sent at a tick, and of those that are sent as one of these entries begins
-- later
pub record IsEarliestOf (es table : List Entry) (from tick : ℕ) : Type 0 where
  pub first : tick ≤ arrival_at table from
  pub entries : All (NoEarlier from tick) es
  pub reached : (sent : ℕ) × (from ≤ sent) × (tick ≡ arrival_at table sent)

pub earliest_none : (table : List Entry) (from tick : ℕ) → tick ≡ arrival_at table from → IsEarliestOf [] table from tick
earliest_none table from tick is = record {
  first = omega arith;
  entries = All-nil (NoEarlier from tick);
  reached = (from, omega arith, is);
}

pub earliest_kept :
    (es table : List Entry) (i : ℕ) (d : Entry) (from tick low : ℕ) → i < length es → (get_or es i d).from ≤ from → low ≡ tick
    → IsEarliestOf (take i es) table from tick → IsEarliestOf (take (i + 1) es) table from low
earliest_kept es table i d from tick low h passed same is =
    subst (IsEarliestOf (take (i + 1) es) table from) (sym same)
    (record {
      first = is.first;
      entries = All-more (NoEarlier from tick) es i d h is.entries (λ ahead. absurd (omega arith));
      reached = is.reached;
    })

pub earliest_taken :
    (es table : List Entry) (i : ℕ) (d : Entry) (from tick low : ℕ) → IsLatencyTable table → es ≡ table → i < length es
    → from < (get_or es i d).from → low ≡ min tick ((get_or es i d).from + (get_or es i d).latency)
    → IsEarliestOf (take i es) table from tick → IsEarliestOf (take (i + 1) es) table from low
earliest_taken es table i d from tick low holds same h ahead least is =
    let e : Entry = get_or es i d in
    let at : latency_at table e.from ≡ e.latency =
    subst (λ (xs : List Entry). latency_at xs e.from ≡ e.latency) same
    (latency_index es i d (subst IsLatencyTable (sym same) holds) h) in
    record {
      first = let f = is.first in omega arith;
      entries =
          All-more (NoEarlier from low) es i d h
          (All-weaker (NoEarlier from tick) (NoEarlier from low) (λ x g late. let k = g late in omega arith) (take i es) is.entries)
          (λ late. omega arith);
      reached =
          elim (cases_lt tick (e.from + e.latency)) [
            | inl below ↦ (is.reached.0, is.reached.1, let t : low ≡ tick = omega arith in t ∙ is.reached.2)
            | inr above ↦ (e.from, omega arith, omega arith)
          ];
    }

pub earliest_all :
    (table es : List Entry) (i from tick : ℕ) → es ≡ table → length es ≤ i → IsEarliestOf (take i es) table from tick → IsEarliest table from tick
earliest_all table es i from tick same h is = record {
  least = λ sent le.
      arrival_least table from sent tick le
      (subst (λ (xs : List Entry). All (NoEarlier from tick) xs) (take_all i es h ∙ same) is.entries)
      is.first;
  reached = is.reached;
}

-- it is after the tick, by the longest latency at most
pub earliest_within : (table : List Entry) (from tick : ℕ) → IsLatencyTable table → IsEarliest table from tick → (from < tick) × (tick ≤ from + 10 ^ 6)
earliest_within table from tick holds is =
    let (sent, later, at) = is.reached in
    let slow = latency_within table sent holds in
    let quick = latency_within table from holds in
    let low = is.least from (omega arith) in
    (omega arith, omega arith)
