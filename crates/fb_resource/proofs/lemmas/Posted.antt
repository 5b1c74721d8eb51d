-- Posting goes on after a step of it, of the same system and under the same key.
use Rattle.fb_resource.proofs.lemmas.Common.{◌≡◌, ◌+◌, ◌++◌, ◌∷◌, ◌<◌, ◌≤◌, ℕ, List, [], All, length, map, refl, sym, ap, subst, ◌∙◌, append-nil, arith, Vec, Inputs, system_of, System, Posts, post_all, Key, Message, TimerAsk, Keep, Event, Contents, out_of, Out, Outbox, BelongsTo, CountsAre, IsMessage, IsPostable, arriving, AreReady, IsInOrder}
use Rattle.fb_types.proofs.Common.{length_push, map-append, nil_from_length}
use Rattle.fb_resource.specs.Posts.{ArePosted}
use Rattle.fb_resource.specs.Postings.{HasGrown, HasPosted, HasSet, IsSame, MayPost, traffic_in, system_in}
use Rattle.fb_resource.specs.declared.posting.Posting.{Posting}
use Rattle.fb_resource.proofs.lemmas.PostLaws.{post_all_then}

-- what is said of system and key before holds after
still : (P : Inputs → Key → Type 0) (a b : Posting) → IsSame a b → P a.system.now a.key.now → P b.system.now b.key.now
still P a b same h = subst (λ (k : Key). P b.system.now k) (sym same.key) (subst (λ (i : Inputs). P i a.key.now) (sym same.system) h)

-- what is said of them after held before
already : (P : Inputs → Key → Type 0) (a b : Posting) → IsSame a b → P b.system.now b.key.now → P a.system.now a.key.now
already P a b same h = subst (λ (k : Key). P a.system.now k) same.key (subst (λ (i : Inputs). P i b.key.now) same.system h)

pub still_postable : (a b : Posting) (os : List Out) → IsSame a b → All (IsPostable (system_in a) a.key.now.resource) os → All (IsPostable (system_in b) b.key.now.resource) os
still_postable a b os = still (λ (i : Inputs) (k : Key). All (IsPostable (system_of i) k.resource) os) a b

pub one_still_postable : (a b : Posting) (o : Out) → IsSame a b → IsPostable (system_in a) a.key.now.resource o → IsPostable (system_in b) b.key.now.resource o
one_still_postable a b o = still (λ (i : Inputs) (k : Key). IsPostable (system_of i) k.resource o) a b

pub same_then : (a b c : Posting) → IsSame a b → IsSame b c → IsSame a c
same_then a b c first next = record {
  system = next.system ∙ first.system;
  key = next.key ∙ first.key;
  agenda = next.agenda ∙ first.agenda;
  mail = next.mail ∙ first.mail;
  sent = next.sent ∙ first.sent;
  locals = next.locals ∙ first.locals;
}

pub grown_nothing : (p : Posting) (most : ℕ) → MayPost p → HasGrown p most p
grown_nothing p most may = record { may = may; later = λ all. all; few = omega arith }

pub grown_then : (a b c : Posting) (m n most : ℕ) → IsSame a b → m + n ≤ most → HasGrown a m b → HasGrown b n c → HasGrown a most c
grown_then a b c m n most same within first next =
    let arrive_later = already (λ (i : Inputs) (k : Key). All (λ m. k.tick < m.arrives) b.mail.now.items → All (λ m. k.tick < m.arrives) c.mail.now.items) a b same next.later in
    let one = first.few in
    let more = next.few in
    record { may = next.may; later = λ all. arrive_later (first.later all); few = omega (arith, within, one, more) }

-- when all is posted, events may be taken again
pub ready_again : (a b : Posting) (x : Outbox) → IsSame a b → MayPost b → All (BelongsTo (system_in a)) x.lines.items → x.outs.items ≡ [] → x.timer ≡ Keep
    → AreReady a.system.now a.key.now.tick (traffic_in b x)
ready_again a b x same may lines none keeps = record {
  order = already (λ (i : Inputs) (k : Key). IsInOrder i k.tick b.agenda.now) a b same may.order;
  due = already (λ (i : Inputs) (k : Key). length b.agenda.now.due ≡ length (system_of i).paths) a b same may.due;
  counted = already (λ (i : Inputs) (k : Key). length b.sent.now.items ≡ (system_of i).links) a b same may.counted;
  mail = already (λ (i : Inputs) (k : Key). All (IsMessage i) b.mail.now.items) a b same may.mail;
  lines = lines;
  none = none;
  keeps = keeps;
}

pub posted_nothing : (p : Posting) → HasPosted p [] p
posted_nothing p before base first are = are

-- what was posted after a step, said of the system and the key before it
posted_still : (a b c : Posting) (os : List Out) → IsSame a b → HasPosted b os c → (before : Posts) (base : Contents) (first : List Message)
    → ArePosted a.system.now before base b.agenda.now first b.mail.now.items b.locals.now b.sent.now.items
    → ArePosted a.system.now (post_all (system_in a) a.key.now (map (out_of (system_in a)) os) before) base c.agenda.now first c.mail.now.items c.locals.now c.sent.now.items
posted_still a b c os same next = already
    (λ (i : Inputs) (k : Key). (before : Posts) (base : Contents) (first : List Message)
    → ArePosted i before base b.agenda.now first b.mail.now.items b.locals.now b.sent.now.items
    → ArePosted i (post_all (system_of i) k (map (out_of (system_of i)) os) before) base c.agenda.now first c.mail.now.items c.locals.now c.sent.now.items)
    a b same next

pub posted_then : (a b c : Posting) (os ps : List Out) → IsSame a b → HasPosted a os b → HasPosted b ps c → HasPosted a (os ++ ps) c
posted_then a b c os ps same first next before base mail are =
    let sys : System = system_in a in
    let k : Key = a.key.now in
    let both : post_all sys k (map (out_of sys) (os ++ ps)) before ≡ post_all sys k (map (out_of sys) ps) (post_all sys k (map (out_of sys) os) before) =
    ap (λ zs. post_all sys k zs before) (map-append (out_of sys) os ps) ∙ post_all_then sys k (map (out_of sys) os) (map (out_of sys) ps) before in
    subst (λ (x : Posts). ArePosted a.system.now x base c.agenda.now mail c.mail.now.items c.locals.now c.sent.now.items) (sym both)
    (posted_still a b c ps same next (post_all sys k (map (out_of sys) os) before) base mail (first before base mail are))

-- nothing is asked of a timer
pub set_nothing : (p : Posting) (ask : TimerAsk) (e : Event) → ask ≡ Keep → HasSet p ask e p
set_nothing p ask e keeps = subst (λ (a : TimerAsk). HasSet p a e p) (sym keeps) (record { set = λ j. refl; mail = refl; sent = refl; locals = refl })

-- what is posted after a timer was set
pub posted_after : (a b c : Posting) (ask : TimerAsk) (e : Event) (os : List Out) → IsSame a b → HasSet a ask e b → HasPosted b os c
    → (counts : ℕ → ℕ) → CountsAre a.sent.now.items counts
    → ArePosted a.system.now (post_all (system_in a) a.key.now (map (out_of (system_in a)) os) (record { locals = a.locals.now; sent = counts; raised = []; messages = [] }))
    b.agenda.now c.agenda.now a.mail.now.items c.mail.now.items c.locals.now c.sent.now.items
posted_after a b c ask e os same set next counts are =
    posted_still a b c os same next (record { locals = a.locals.now; sent = counts; raised = []; messages = [] }) b.agenda.now a.mail.now.items
    (record {
      agenda = λ j. refl;
      mail = ap (λ (v : Vec Message). map (arriving a.system.now) v.items) set.mail ∙ sym (append-nil (map (arriving a.system.now) a.mail.now.items));
      counted = set.locals;
      sends = subst (λ (v : Vec ℕ). CountsAre v.items counts) (sym set.sent) are;
    })

-- ---- One event

-- Before the only element there is none.
pub none_before : {A : Type 0} (all first : List A) (x : A) → all ≡ first ++ x ∷ [] → length all ≤ 1 → first ≡ []
none_before all first x is few =
    let count = ap length is in
    nil_from_length first (omega (arith, count, length_push first x, few))

pub only_of : {A : Type 0} (all first : List A) (x : A) → all ≡ first ++ x ∷ [] → length all ≤ 1 → all ≡ x ∷ []
only_of all first x is few = is ∙ ap (λ z. z ++ x ∷ []) (none_before all first x is few)
