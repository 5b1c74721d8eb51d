-- What a session has told after each call.
use Rattle.fb_types.proofs.Common.{◌≡◌, ℕ, ◌+◌, ◌<◌, ◌≤◌, List, [], ◌∷◌, ◌++◌, length, All, Option, Result, Ok, Err, refl, sym, ap, ◌∙◌, subst, arith, append_assoc, append-nil, inl, inr, length-append, Appends, IsErrAnd, Appends-nil, All-nil, IsTrace, system_of, stimuli_of, Each, AtStop, Chain, Taken, ending_of, lines_of, last_line, lines_text}
use Rattle.fb_types.specs.declared.deploy.Stimulus.{Stimulus}
use Rattle.fb_types.specs.declared.run.StopMark.{StopMark}
use Rattle.std.specs.Io.KnownBytes.{Keeps}
use Rattle.std.proofs.KnownBytes.{Keeps-refl}
use Rattle.fb_laws.specs.Sound.{AreGood}
use Rattle.fb_laws.proofs.lemmas.soundness.Accepting.{sound_of}
use Rattle.fb_laws.proofs.lemmas.existence.Existence.{there_is}
use Rattle.fb_sim_machine.proofs.lemmas.JoinedRuns.{chain_append}
use Rattle.fb_sim_machine.proofs.lemmas.Simulations.{begins}
use Rattle.fb_trace.specs.End.{ending_of as end_of}
use Rattle.fb_trace.specs.declared.last.Outcome.{Outcome}
use Rattle.fb_trace.specs.declared.last.Outcome.TheVariants as outcome
use Rattle.fb_session.specs.Breaking.{OnlyBreaks}
use Rattle.fb_session.specs.Giving.{Gives}
use Rattle.fb_session.specs.declared.fault.GiveFault.{GiveFault}
use Rattle.fb_session.specs.declared.fault.GiveFault.TheVariants as ungiven
use Rattle.fb_session.specs.declared.give.GivenAnswer.{GivenAnswer}
use Rattle.fb_session.specs.Going.{EndsAt, GoesUntil, HasFailed, HasTaken, IsBeginning, IsWhole, TakesOne}
use Rattle.fb_session.specs.Pasts.{EndsBy, IsAlive, IsOf, IsRow, now as now_in, Past, StandsBy, Talk, opening_with, stop_text, told, with_rows}
use Rattle.fb_session.specs.Running.{text_of}
use Rattle.fb_trace.specs.Progress.{bounded}
use Rattle.fb_session.specs.declared.fault.SessionFault.{SessionFault}
use Rattle.fb_session.specs.declared.fault.SessionFault.TheVariants as fault
use Rattle.fb_session.specs.declared.going.Next.{Next}
use Rattle.fb_session.specs.declared.going.Next.TheVariants as next
use Rattle.fb_session.specs.declared.going.Until.{Until}
use Rattle.fb_session.specs.declared.going.Until.TheVariants as until
use Rattle.fb_session.specs.declared.stage.Stage.{Stage}
use Rattle.fb_session.specs.declared.stage.Stage.TheVariants as stage
use Rattle.fb_session.proofs.lemmas.EndingIs.{told_is_front, whole_stopped}
use Rattle.fb_session.proofs.lemmas.Texts.{text-append}
use Rattle.fbsim_session.specs.Talks.{all_of, Answer, AreFront, AreWhole, Arrives, Concludes, Ends, Fails, Flushes, HasTold, IsAnswer, IsFaultOf, IsNoWrite, IsWell, Leads, Opening, Piece, Sends, Spoken, Stays, Text, Trace, count_of, of_talk, told_of}
use Rattle.fbsim_session.specs.declared.talking.TalkFault.{TalkFault}
use Rattle.fbsim_session.specs.declared.talking.TalkFault.TheVariants.{Memory, Read, Write}
use Rattle.fbsim_session.proofs.lemmas.Pieces.{count_on, fails_flush, fails_sent, fails_still, got_more, got_part, kept_more, length_more, told_answered, told_more, well_more}

-- ---- Where a session began

of_alike : (start : Option Text) (t u : Talk) → IsOf t u → of_talk start u ≡ of_talk start t
of_alike start t u of = λ k. record { inputs = of.inputs k; steps = of.steps k; form = of.form k; start = start }

good_of : (g : Opening) (now : Option Text) (t : Spoken) (h : HasTold g now t) → AreGood t.session.inputs
good_of g now t h = subst AreGood (sym (ap (λ (z : Opening). z.inputs) h.of)) h.good

pub of_same : (t : Talk) → IsOf t t
of_same t = record { inputs = refl; steps = refl; form = refl }

-- ---- Counts

count_taken : (w v a n k : ℕ) → bounded v ≡ bounded (w + k) → bounded (w + a) ≡ bounded n → bounded (v + a) ≡ bounded (n + k)
count_taken w v a n k more counted = omega (arith, more, counted)

count_failed : (c x n k : ℕ) → bounded c ≡ bounded x → n ≡ bounded k → bounded (bounded c + n) ≡ bounded (x + k)
count_failed c x n k counted is = omega (arith, counted, is)

-- ---- Beginnings

-- a tick after all of some takings
record Later (ts : List Taken) : Type 0 where
  tick : ℕ
  below : Each (λ (t : Taken). t.key.tick < tick) ts

each_later : (a b : ℕ) → a ≤ b → (ts : List Taken) → Each (λ (t : Taken). t.key.tick < a) ts → Each (λ (t : Taken). t.key.tick < b) ts
each_later a b le [] x = tt
each_later a b le (t ∷ ts) x = (let l = x.0 in omega (arith, l, le), each_later a b le ts x.1)

later : (ts : List Taken) → Later ts
later [] = record { tick = 0; below = tt }
later (t ∷ ts) =
    let l = later ts in
    record {
      tick = l.tick + t.key.tick + 1;
      below = (omega arith, each_later l.tick (l.tick + t.key.tick + 1) (omega arith) ts l.below);
    }

-- the lines of a chain are a beginning
chain_front : (g : Opening) (given : List Stimulus) (ps : List Piece) (ts : List Taken) → AreGood g.inputs → All (IsRow g.inputs) given → Each IsWell ps
    → Chain (system_of g.inputs) g.steps (opening_with g.inputs given) ts → told_of ps ≡ text_of g.inputs g.form ts → AreFront g ps
chain_front g given ps ts good rows well chain is =
    let i = g.inputs in
    let l = later ts in
    let x = there_is (system_of i) (sound_of i good) l.tick g.steps (stimuli_of (with_rows i given)) in
    let b = begins (system_of i) g.steps l.tick l.tick (omega arith) ts x.0 (opening_with i given) chain x.1.chain l.below x.1.rests in
    let end = last_line (system_of i) (ending_of l.tick x.0) in
    record {
      well = well;
      given = given;
      rows = rows;
      horizon = l.tick;
      end = ending_of l.tick x.0;
      rest = text_of i g.form b.0 ++ end;
      trace = record {
        takings = x.0;
        simulation = x.1;
        ending = refl;
        text =
            ap (λ (z : Text). z ++ (text_of i g.form b.0 ++ end)) is ∙ sym (append_assoc (text_of i g.form ts) (text_of i g.form b.0) end)
            ∙ ap (λ (z : Text). z ++ end) (sym (text-append i g.form ts b.0)) ∙ ap (λ (us : List Taken). text_of i g.form us ++ end) (sym b.1);
      };
    }

module _ (g : Opening) (now : Option Text) (s : Spoken) (h : HasTold g now s) where
  abbrev t : Talk
  t = s.session

  -- what a living session has told is a beginning
  pub front : AreFront g h.pieces
  front =
      let f = told_is_front t h.past (good_of g now s h) h.stands in
      subst (λ (z : Opening). AreFront z h.pieces) h.of
      (record {
        well = h.well;
        given = h.past.given;
        rows = h.stands.rows;
        horizon = f.horizon;
        end = f.end;
        rest = f.rest;
        trace = subst (λ (x : Text). IsTrace (with_rows t.inputs h.past.given) t.form f.horizon t.steps (x ++ f.rest) f.end) (sym h.told_is) f.trace;
      })

  -- ---- Answers

  pub answered : (u : Spoken) (new : Option Text) (a : Text) → IsAnswer a → Appends now new a → u.session ≡ t → u.answered ≡ bounded (s.answered + length a) → HasTold g new u
  answered u new a is more same counted =
      let ps = h.pieces ++ Answer a ∷ [] in
      let v : Spoken = record { session = t; answered = bounded (s.answered + length a) } in
      let told : HasTold g new v = record {
        good = h.good;
        alive = h.alive;
        past = h.past;
        pieces = ps;
        of = h.of;
        stands = h.stands;
        told_is = told_answered h.pieces a ∙ h.told_is;
        well = well_more h.pieces (Answer a) h.well is;
        got = got_more g.start now new h.pieces (Answer a) h.got more;
        counted = count_on t.written s.answered (length (all_of h.pieces)) (length a) h.counted ∙ ap bounded (sym (length_more h.pieces (Answer a)));
      } in
      subst (λ (z : Spoken). HasTold g new z) (λ k. record { session = sym same k; answered = sym counted k }) told

  pub flushed : (new : Option Text) → Keeps now new → HasTold g new s
  flushed new k = record {
    good = h.good;
    alive = h.alive;
    past = h.past;
    pieces = h.pieces;
    of = h.of;
    stands = h.stands;
    told_is = h.told_is;
    well = h.well;
    got = kept_more g.start now new (all_of h.pieces) h.got k;
    counted = h.counted;
  }

  pub stayed : (u : Spoken) → Stays s u → HasTold g now u
  stayed u x =
      let q = x.stands h.past h.stands in
      record {
        good = h.good;
        alive = subst IsAlive (sym x.stage) h.alive;
        past = q.0;
        pieces = h.pieces;
        of = of_alike g.start t u.session x.of ∙ h.of;
        stands = q.1;
        told_is = h.told_is ∙ sym q.2;
        well = h.well;
        got = h.got;
        counted = ap bounded x.counted ∙ h.counted;
      }

  pub fails_here : (new : Option Text) (e : TalkFault) → IsNoWrite e → Keeps now new → Fails g new e
  fails_here new e other k = fails_still g now new h.pieces front h.got e other k

  pub unsent : (u : Spoken) (new : Option Text) (e : TalkFault) → Sends s u now new (Err e) → Fails g new e
  unsent u new e x = fails_sent g now new h.pieces front h.got s u h.counted e x

  pub unflushed : (new : Option Text) (e : TalkFault) → Flushes s now new (Err e) → Fails g new e
  unflushed new e x = fails_flush g now new h.pieces front h.got s h.counted e x

  pub leads_sent : (u : Spoken) (new : Option Text) (r : Result (Unit {0}) TalkFault) → Sends s u now new r → Leads g new u r
  leads_sent u new (Ok unit) x = answered u new x.0 x.1 x.2 x.3 x.4
  leads_sent u new (Err e) x = unsent u new e x

  pub leads_flushed : (new : Option Text) (r : Result (Unit {0}) TalkFault) → Flushes s now new r → Leads g new s r
  leads_flushed new (Ok u) x = flushed new x
  leads_flushed new (Err e) x = unflushed new e x

  -- ---- Takings

  -- the lines of what was taken, and of more
  joined : t.stage ≡ stage.Running → (more : List Taken) (end : Text)
      → told_of (h.pieces ++ Trace (text_of t.inputs t.form more ++ end) ∷ []) ≡ text_of t.inputs t.form (h.past.taken ++ more) ++ end
  joined running more end =
      let i = t.inputs in
      let form = t.form in
      let ts = h.past.taken in
      let new = text_of i form more ++ end in
      told_more h.pieces (Trace new) ∙ ap (λ (x : Text). x ++ new) h.told_is
      ∙ ap (λ (z : Stage). (text_of i form ts ++ stop_text (system_of i) z) ++ new) running
      ∙ ap (λ (x : Text). x ++ new) (append-nil (text_of i form ts))
      ∙ sym (append_assoc (text_of i form ts) (text_of i form more) end)
      ∙ ap (λ (x : Text). x ++ end) (sym (text-append i form ts more))

  pub gone : t.stage ≡ stage.Running → (new : Option Text) (u : Talk) (more : List Taken) → IsAlive u.stage → HasTaken t u h.past more now new → HasTold g new (record { session = u; answered = s.answered })
  gone running new u more alive x =
      let ts = h.past.taken ++ more in
      let piece = Trace (text_of t.inputs t.form more ++ stop_text (system_of t.inputs) u.stage) in
      let alike : told u (record h.past { taken = ts }) ≡ text_of t.inputs t.form ts ++ stop_text (system_of t.inputs) u.stage =
      (λ k. lines_text (x.of.form k) (system_of (x.of.inputs k)) (lines_of ts) ++ stop_text (system_of (x.of.inputs k)) u.stage) in
      record {
        good = h.good;
        alive = alive;
        past = record h.past { taken = ts };
        pieces = h.pieces ++ piece ∷ [];
        of = of_alike g.start t u x.of ∙ h.of;
        stands = x.stands;
        told_is = joined running more (stop_text (system_of t.inputs) u.stage) ∙ sym alike;
        well = well_more h.pieces piece h.well tt;
        got = got_more g.start now new h.pieces piece h.got x.got;
        counted = count_taken t.written u.written s.answered (length (all_of h.pieces)) (length (text_of t.inputs t.form more ++ stop_text (system_of t.inputs) u.stage)) x.counted h.counted ∙ ap bounded (sym (length_more h.pieces piece));
      }

  -- ---- Faults of the session

  -- more lines are a beginning
  front_more : t.stage ≡ stage.Running → (more : List Taken) → Chain (system_of t.inputs) t.steps (now_in t.inputs h.past) more
      → AreFront g (h.pieces ++ Trace (text_of t.inputs t.form more) ∷ [])
  front_more running more chain =
      let i = t.inputs in
      let p = h.past in
      let piece = Trace (text_of i t.form more) in
      let ps = h.pieces ++ piece ∷ [] in
      let going = subst (λ (z : Stage). EndsBy z p.taken) running h.stands.ends in
      let is : told_of ps ≡ text_of i t.form (p.taken ++ more) =
      ap (λ (x : Text). told_of (h.pieces ++ Trace x ∷ [])) (sym (append-nil (text_of i t.form more))) ∙ joined running more [] ∙ append-nil (text_of i t.form (p.taken ++ more)) in
      subst (λ (z : Opening). AreFront z ps) h.of
      (chain_front (of_talk g.start t) p.given ps (p.taken ++ more) (good_of g now s h) h.stands.rows (well_more h.pieces piece h.well tt)
      (chain_append (system_of i) t.steps p.taken more (opening_with i p.given) going h.stands.chain chain) is)

  failed_by : t.stage ≡ stage.Running → (u : Spoken) (new : Option Text) (f : SessionFault) (e : TalkFault) → count_of u ≡ count_of s → IsBeginning t h.past f now new → IsFaultOf u f e → Fails g new e
  failed_by running u new fault.Memory Memory same b is =
      let piece = Trace (text_of t.inputs t.form b.0) in
      (h.pieces ++ piece ∷ [], front_more running b.0 b.1, got_more g.start now new h.pieces piece h.got b.2)
  failed_by running u new fault.Memory Read same b is = absurd is
  failed_by running u new fault.Memory (Write n) same b is = absurd is
  failed_by running u new (fault.Write n) Memory same b is = absurd is
  failed_by running u new (fault.Write n) Read same b is = absurd is
  failed_by running u new (fault.Write n) (Write m) same b is =
      let new_text = text_of t.inputs t.form b.0 in
      let piece = Trace new_text in
      let all = all_of (h.pieces ++ piece ∷ []) in
      let count = b.4.count in
      let short : count < length (new_text ++ b.1) = b.4.short in
      let more : length all ≡ length (all_of h.pieces) + length new_text = length_more h.pieces piece in
      let both : length (all ++ b.1) ≡ length all + length b.1 = length-append all b.1 in
      let part : length (new_text ++ b.1) ≡ length new_text + length b.1 = length-append new_text b.1 in (
        h.pieces ++ piece ∷ [],
        b.1,
        length (all_of h.pieces) + count,
        front_more running b.0 b.2,
        got_part g.start now new h.pieces piece b.1 count h.got b.4.got,
        omega (arith, short, more, both, part),
        is ∙ ap (λ c. bounded (bounded c + n)) same ∙ count_failed (count_of s) (length (all_of h.pieces)) n count h.counted b.4.counted,
      )

  pub failed : t.stage ≡ stage.Running → (u : Spoken) (new : Option Text) (f : SessionFault) (e : TalkFault) → HasFailed t u.session f now new → u.answered ≡ s.answered → IsFaultOf u f e → Fails g new e
  failed running u new f e x same is = failed_by running u new f e (λ k. x.counted k + same k) (x.beginning h.past h.stands) is

  -- ---- The end

  pub ended : (to : ℕ) (new : Option Text) (o : Outcome) (u : Talk) → IsWhole to t u now new (end_of o) → Ends g new o
  ended to new o u whole =
      let w = whole h.past h.stands in
      let piece = Trace w.0 in
      let ps = h.pieces ++ piece ∷ [] in (
        ps,
        subst (λ (z : Opening). AreWhole z ps o) h.of
            (record {
              well = well_more h.pieces piece h.well tt;
              given = h.past.given;
              rows = h.stands.rows;
              horizon = to;
              trace = subst (λ (x : Text). IsTrace (with_rows t.inputs h.past.given) t.form to t.steps x (end_of o)) (sym (told_more h.pieces piece ∙ ap (λ (x : Text). x ++ w.0) h.told_is)) w.3;
            }),
        got_more g.start now new h.pieces piece h.got w.1,
      )

  -- all its bytes are counted
  pub ended_count : (to : ℕ) (new : Option Text) (o : Outcome) (u : Spoken) (whole : IsWhole to t u.session now new (end_of o)) → u.answered ≡ s.answered
      → bounded (count_of u) ≡ bounded (length (all_of (ended to new o u.session whole).0))
  unfolding ended
  ended_count to new o u whole same =
      let w = whole h.past h.stands in
      ap (λ a. bounded (u.session.written + a)) same
      ∙ count_taken t.written u.session.written s.answered (length (all_of h.pieces)) (length w.0) w.2 h.counted
      ∙ ap bounded (sym (length_more h.pieces (Trace w.0)))

  -- after a stop its line is the last one
  pub ended_by_stop : (m : StopMark) → t.stage ≡ stage.Stopped m → Ends g now (outcome.Stop m)
  ended_by_stop m stopped = (
    h.pieces,
    subst (λ (z : Opening). AreWhole z h.pieces (outcome.Stop m)) h.of
        (record {
          well = h.well;
          given = h.past.given;
          rows = h.stands.rows;
          horizon = t.reached;
          trace =
              subst (λ (x : Text). IsTrace (with_rows t.inputs h.past.given) t.form t.reached t.steps x (AtStop m.tick m.resource m.reason)) (sym h.told_is)
              (whole_stopped t h.past h.stands t.reached m stopped (omega arith));
        }),
    h.got,
  )

-- while the session goes on it is the call that has failed
pub has_failed : (t u : Talk) (e : SessionFault) (now new : Option Text) (to : ℕ) → t.stage ≡ stage.Running → EndsAt to t u now new (Err e) → HasFailed t u e now new
has_failed t u e now new to running (inl x) = x
has_failed t u e now new to running (inr x) = let no : stage.Running ≡ stage.Failed e = sym running ∙ x.0 in absurd cc

-- ---- Calls that write nothing

pub stays : (t : Spoken) → Stays t t
stays t = record { of = of_same t.session; stage = refl; stands = λ p s. (p, s, refl); counted = refl }

pub stays_as : (t u : Spoken) → u ≡ t → Stays t u
stays_as t u e = subst (λ (z : Spoken). Stays t z) (sym e) (stays t)

-- the session alone changes, and not what it has written
stays_at : (t u : Spoken) → IsOf t.session u.session → u.session.stage ≡ t.session.stage → ((p : Past) → StandsBy t.session p → (q : Past) × StandsBy u.session q × (told u.session q ≡ told t.session p))
    → u.session.written ≡ t.session.written → u.answered ≡ t.answered → Stays t u
stays_at t u of stage stands written same = record { of = of; stage = stage; stands = stands; counted = λ k. written k + same k }

stays_still : (t u : Spoken) → u.session ≡ t.session → u.answered ≡ t.answered → Stays t u
stays_still t u session same = stays_as t u (λ k. record { session = session k; answered = same k })

-- breaks say nothing of where a session stands
stands_broken : (t u : Talk) → OnlyBreaks t u → (p : Past) → StandsBy t p → StandsBy u p
stands_broken t u is p s = subst (λ (z : Talk). StandsBy z p) (sym is) (record {
  judged = s.judged;
  some_steps = s.some_steps;
  few_steps = s.few_steps;
  early = s.early;
  rows = s.rows;
  counted = s.counted;
  chain = s.chain;
  before = s.before;
  ends = s.ends;
  at = s.at;
  none = s.none;
  goes = s.goes;
})

pub stays_broken : (t u : Spoken) → OnlyBreaks t.session u.session → u.answered ≡ t.answered → Stays t u
stays_broken t u is same =
    stays_at t u (record { inputs = ap (λ (z : Talk). z.inputs) is; steps = ap (λ (z : Talk). z.steps) is; form = ap (λ (z : Talk). z.form) is }) (ap (λ (z : Talk). z.stage) is)
    (λ p s. (p, stands_broken t.session u.session is p s, ap (λ (z : Talk). told z p) is)) (ap (λ (z : Talk). z.written) is) same

pub stays_given : (tick event values : List ℕ) (t u : Spoken) (r : Result GivenAnswer GiveFault) → Gives tick event values t.session u.session r → u.answered ≡ t.answered → Stays t u
stays_given tick event values t u (Ok a) x same =
    let is = x.7.talk in
    stays_at t u (record { inputs = ap (λ (z : Talk). z.inputs) is; steps = ap (λ (z : Talk). z.steps) is; form = ap (λ (z : Talk). z.form) is }) (ap (λ (z : Talk). z.stage) is)
    (λ p s. let q = record p { given = p.given ++ x.0 ∷ [] } in (q, x.7.stands p s, ap (λ (z : Talk). told z q) is)) (ap (λ (z : Talk). z.written) is) same
stays_given tick event values t u (Err ungiven.NotGoing) x same = stays_still t u x.1 same
stays_given tick event values t u (Err (ungiven.Unread f)) x same = stays_still t u x.1 same
stays_given tick event values t u (Err (ungiven.Unfit s f)) x same = stays_still t u x.2 same
stays_given tick event values t u (Err (ungiven.Late k)) x same = stays_still t u x.5 same
stays_given tick event values t u (Err ungiven.Full) x same = stays_still t u x.1 same
stays_given tick event values t u (Err ungiven.Memory) x same = stays_still t u x.1 same

-- a stage that is one without a failure
pub lives : (s z : Stage) → s ≡ z → IsAlive z → IsAlive s
lives s z is alive = subst IsAlive (sym is) alive

module _ (g : Opening) (now : Option Text) (t : Spoken) (h : HasTold g now t) where
  pub same : (u : Spoken) → u ≡ t → HasTold g now u
  same u e = subst (λ (z : Spoken). HasTold g now z) (sym e) h

  -- nothing was written, and nothing changed
  still : (new : Option Text) (u : Talk) → u ≡ t.session → new ≡ now → HasTold g new (record { session = u; answered = t.answered })
  still new u e w = subst (λ (z : Option Text). HasTold g z (record { session = u; answered = t.answered })) (sym w) (same _ (λ k. record { session = e k; answered = t.answered }))

  pub gone_until : t.session.stage ≡ stage.Running → (to : ℕ) (new : Option Text) (u : Talk) (r : Until) → GoesUntil to t.session u now new (Ok r) → HasTold g new (record { session = u; answered = t.answered })
  gone_until running to new u until.At x = let m = x h.past h.stands in gone g now t h running new u m.0 (lives _ _ m.2.0 tt) m.1
  gone_until running to new u (until.Break n k) x = let m = x h.past h.stands in gone g now t h running new u m.0 (lives _ _ m.2.0 tt) m.1
  gone_until running to new u (until.Stop k) x = let m = x h.past h.stands in gone g now t h running new u m.0 (lives _ _ m.2.0 tt) m.1
  gone_until running to new u until.Stopped x = still new u x.1.0 x.1.1
  gone_until running to new u (until.Below n) x = still new u x.2.0 x.2.1

  pub gone_next : t.session.stage ≡ stage.Running → (new : Option Text) (u : Talk) (r : Next) → TakesOne t.session u now new (Ok r) → HasTold g new (record { session = u; answered = t.answered })
  gone_next running new u next.Nothing x = gone g now t h running new u [] (lives _ _ x.1 tt) (x.3 h.past h.stands).0
  gone_next running new u (next.Took k) x = let m = x.2 h.past h.stands in gone g now t h running new u (m.0 ∷ []) (lives _ _ x.0 tt) m.1
  gone_next running new u (next.Stop k) x = let m = x.2 h.past h.stands in gone g now t h running new u (m.0 ∷ []) (lives _ _ x.0 tt) m.1
  gone_next running new u next.Stopped x = still new u x.1.0 x.1.1

-- a session that has not changed
pub leads_as : {A : Type 0} (g : Opening) (now : Option Text) (t u : Spoken) (r : Result A TalkFault) → u ≡ t → Leads g now t r → Leads g now u r
leads_as g now t u r e l = subst (λ (z : Spoken). Leads g now z r) (sym e) l

-- the session before its first command
pub nothing_told : (g : Opening) (t : Spoken) → AreGood g.inputs → of_talk g.start t.session ≡ g → t.session.stage ≡ stage.Running → t.session.written ≡ 0 → t.answered ≡ 0
    → StandsBy t.session (record { given = []; taken = [] }) → HasTold g g.start t
nothing_told g t good of running written answered stands = record {
  good = good;
  alive = lives _ _ running tt;
  past = record { given = []; taken = [] };
  pieces = [];
  of = of;
  stands = stands;
  told_is = sym (ap (λ (z : Stage). stop_text (system_of t.session.inputs) z) running);
  well = tt;
  got = Appends-nil g.start;
  counted = omega (arith, written, answered);
}

-- without a session nothing is written
pub fails_before : (g : Opening) → AreGood g.inputs → (e : TalkFault) → IsNoWrite e → Fails g g.start e
fails_before g good e other =
    fails_still g g.start g.start [] (chain_front g [] [] [] good (All-nil (IsRow g.inputs)) tt tt refl) (Appends-nil g.start) e other (Keeps-refl g.start)

-- ---- Faults that are passed on

pub leads_passed : {A : Type 0} (g : Opening) (now : Option Text) (u : Spoken) (e : TalkFault) (r : Result A TalkFault) → IsErrAnd r (λ f. f ≡ e) → Fails g now e → Leads g now u r
leads_passed g now u e (Ok a) bad f = absurd bad
leads_passed g now u e (Err d) is f = subst (λ (z : TalkFault). Fails g now z) (sym is) f

pub arrives_passed : (g : Opening) (now : Option Text) (u : Spoken) (e : TalkFault) (r : Result (Option Outcome) TalkFault) → IsErrAnd r (λ f. f ≡ e) → Fails g now e → Arrives g now u r
arrives_passed g now u e (Ok a) bad f = absurd bad
arrives_passed g now u e (Err d) is f = subst (λ (z : TalkFault). Fails g now z) (sym is) f

pub concludes_passed : (g : Opening) (now : Option Text) (e : TalkFault) (r : Result Outcome TalkFault) → IsErrAnd r (λ f. f ≡ e) → Fails g now e → Concludes g now r
concludes_passed g now e (Ok a) bad f = absurd bad
concludes_passed g now e (Err d) is f = subst (λ (z : TalkFault). Fails g now z) (sym is) f

-- without memory for an answer nothing more is written
no_write : (e : TalkFault) → e ≡ Memory → IsNoWrite e
no_write e is = subst IsNoWrite (sym is) tt

pub leads_lost : {A : Type 0} (g : Opening) (now : Option Text) (t : Spoken) → HasTold g now t → (u : Spoken) (r : Result A TalkFault) → IsErrAnd r (λ e. e ≡ Memory) → Leads g now u r
leads_lost g now t h u (Ok a) bad = absurd bad
leads_lost g now t h u (Err e) is = fails_here g now t h now e (no_write e is) (Keeps-refl now)

pub arrives_lost : (g : Opening) (now : Option Text) (t : Spoken) → HasTold g now t → (u : Spoken) (r : Result (Option Outcome) TalkFault) → IsErrAnd r (λ e. e ≡ Memory) → Arrives g now u r
arrives_lost g now t h u (Ok a) bad = absurd bad
arrives_lost g now t h u (Err e) is = fails_here g now t h now e (no_write e is) (Keeps-refl now)

pub concludes_lost : (g : Opening) → AreGood g.inputs → (r : Result Outcome TalkFault) → IsErrAnd r (λ e. e ≡ Memory) → Concludes g g.start r
concludes_lost g good (Ok a) bad = absurd bad
concludes_lost g good (Err e) is = fails_before g good e (no_write e is)
