-- Local events that are put on the agenda, and messages after the mail.
use Rattle.fb_resource.proofs.lemmas.Common.{◌≡◌, ◌≢◌, ℕ, ◌+◌, ◌<◌, Bool, true, false, cond, eqb, List, [], ◌∷◌, ◌++◌, length, map, refl, sym, ap, subst, ◌∙◌, Option, Some, ⊎_elim, arith, option_map, slice_get, slice_index, eq-eqb, length-set, Inputs, system_of, or_else, found, same_key, local_key, path_at, Path, System, Posts, post_all, is_timer_of, Key, Message, Contents, waiting, Event, out_of, Out, event_of, CountsAre, IsMessage, IsPut, IsSendable, arriving, meaning, MayWait, IsInOrder}
use Rattle.fb_types.proofs.Common.{◌&&◌, append_assoc, get_or, get_or-set_same, get_or-set_other, if◌then◌else◌, slice_set, cases_eq, eqb-true, ne_eqb, slice_get_within, slice_get-get_or, get_or_from_slice_get, message_key, port_of, carried_of, event_output, post, with_at}
use Rattle.fb_types.specs.declared.run.Target.{Target}
use Rattle.fb_types.specs.declared.run.Event.TheVariants.{Arrival}
use Rattle.std.specs.Cmp.{first_so, second_so}
use Rattle.fb_types.specs.Numbers.{event_input}
use Rattle.fb_types.specs.Reactions as reactions
use Rattle.fb_types.specs.States as model
use Rattle.fb_types.proofs.lemmas.events.KeyLaws.{same_key_is}
use Rattle.fb_types.proofs.lemmas.lists.TakeLaws.{found-put}
use Rattle.fb_agenda.specs.Agendas.{IsTimed}
use Rattle.fb_types.specs.declared.run.Event.TheVariants.{Local}
use Rattle.fb_net.specs.declared.outbox.OutgoingMessage.{OutgoingMessage}
use Rattle.fb_net.specs.Outs.{IsLocal}
use Rattle.fb_net.specs.declared.outbox.Out.TheVariants as outs
use Rattle.fb_resource.specs.Posts.{ArePosted, message_of}
pub use Rattle.fb_link.proofs.lemmas.Lists.{next_of}
use Rattle.fb_resource.specs.Waiting.{AllMayWait, TimersAtHome}

pub timer_class : (r n : ℕ) (j : Key) → is_timer_of r n j ≡ true → j.class ≡ 1
timer_class r n j h =
    eqb-true j.class 1 (second_so (eqb j.resource r) (eqb j.class 1) (first_so (eqb j.resource r && eqb j.class 1) (eqb j.a n) h))

pub timer_resource : (r n : ℕ) (j : Key) → is_timer_of r n j ≡ true → j.resource ≡ r
timer_resource r n j h =
    eqb-true j.resource r (first_so (eqb j.resource r) (eqb j.class 1) (first_so (eqb j.resource r && eqb j.class 1) (eqb j.a n) h))

pub timer_instance : (r n : ℕ) (j : Key) → is_timer_of r n j ≡ true → j.a ≡ n
timer_instance r n j h = eqb-true j.a n (second_so (eqb j.resource r && eqb j.class 1) (eqb j.a n) h)

pub port_path : (sys : System) (t : Target) → (port_of sys t).at ≡ path_at sys t.instance
port_path sys t = go t.is_output
  where
    go : (b : Bool) → (if b then event_output sys t.instance t.event else event_input sys t.instance t.event).at ≡ path_at sys t.instance
    go true = refl
    go false = refl

pub meaning_put : (i : Inputs) (old new : Contents) (k : Key) (e : Event) → IsPut old new k e
    → (j : Key) → meaning i new j ≡ cond (same_key k j) (Some (event_of i e)) (meaning i old j)
meaning_put i old new k e put j = ap (option_map (event_of i)) (put j) ∙ go (same_key k j)
  where
    go : (b : Bool) → option_map (event_of i) (cond b (Some e) (waiting old j)) ≡ cond b (Some (event_of i e)) (option_map (event_of i) (waiting old j))
    go true = refl
    go false = refl

-- ---- What waits is in order

pub order_put : (i : Inputs) (tick : ℕ) (old new : Contents) (k : Key) (e : Event) → IsPut old new k e → k.class ≢ 1 → MayWait i tick k e → new.due ≡ old.due
    → IsInOrder i tick old → IsInOrder i tick new
order_put i tick old new k e put class may due order = record { waits = waits; timed = timed; home = home }
  where
    still : (j : Key) (f : Event) → same_key k j ≡ false → waiting new j ≡ Some f → waiting old j ≡ Some f
    still j f other is = sym (put j ∙ ap (λ b. cond b (Some e) (waiting old j)) other) ∙ is

    waits : AllMayWait i tick new
    waits j f is = go (same_key k j) refl
      where
        go : (b : Bool) → same_key k j ≡ b → MayWait i tick j f
        go true same =
            let one : k ≡ j = same_key_is k j same in
            let here : Some e ≡ Some f = sym (put j ∙ ap (λ b. cond b (Some e) (waiting old j)) same) ∙ is in
            let it : e ≡ f = cc in
            subst (λ (z : Event). MayWait i tick j z) it (subst (λ (z : Key). MayWait i tick z e) one may)
        go false other = order.waits j f (still j f other is)

    not_put : (j : Key) → j.class ≡ 1 → same_key k j ≡ false
    not_put j one = go (same_key k j) refl
      where
        go : (b : Bool) → same_key k j ≡ b → same_key k j ≡ false
        go true same = absurd (class (ap (λ (z : Key). z.class) (same_key_is k j same) ∙ one))
        go false other = other

    timed : IsTimed new
    timed j r n f is timer =
        let one : j.class ≡ 1 = timer_class r n j timer in
        rw due (order.timed j r n f (still j f (not_put j one) is) timer)

    home : TimersAtHome i new
    home j f is one = order.home j f (still j f (not_put j one) is) one

-- ---- What was posted

pub posted_local : (i : Inputs) (k : Key) (base mid new : Contents) (before mail : List Message) (x : Posts) (locals : ℕ) (sent : List ℕ) (t : Target) → ArePosted i x base mid before mail locals sent
    → IsPut mid new (local_key k.tick k.resource locals) (Local t)
    → ArePosted i (post (system_of i) k (reactions.Local (port_of (system_of i) t)) x) base new before mail (locals + 1) sent
posted_local i k base mid new before mail x locals sent t posted put = record {
  agenda = λ j.
      meaning_put i mid new key (Local t) put j
      ∙ ap (λ o. cond (same_key key j) (Some e) o) (posted.agenda j)
      ∙ first j (same_key key j) (found j x.raised)
      ∙ ap (λ o. or_else o (meaning i base j)) (sym (found-put j x.raised key e))
      ∙ ap (λ n. or_else (found j (x.raised ++ (local_key k.tick k.resource n, e) ∷ [])) (meaning i base j)) posted.counted;
  mail = posted.mail;
  counted = ap (λ n. n + 1) posted.counted;
  sends = posted.sends;
}
  where
    key : Key
    key = local_key k.tick k.resource locals

    e : model.Event
    e = event_of i (Local t)

    first : (j : Key) (b : Bool) (m : Option model.Event) → cond b (Some e) (or_else m (meaning i base j)) ≡ or_else (cond b (Some e) m) (meaning i base j)
    first j true m = refl
    first j false m = refl

counts_put : (sent : List ℕ) (counts : ℕ → ℕ) (l n : ℕ) → CountsAre sent counts → l < length sent → n ≡ slice_index sent l
    → CountsAre (slice_set sent l (n + 1)) (with_at l (counts l + 1) counts)
counts_put sent counts l n are within is m c read = ⊎_elim here apart (cases_eq m l)
  where
    its : counts l ≡ n
    its = are l n (slice_get-get_or sent l 0 within ∙ ap Some (sym is))

    here : m ≡ l → with_at l (counts l + 1) counts m ≡ c
    here e =
        let at_l : slice_get (slice_set sent l (n + 1)) l ≡ Some c = subst (λ (z : ℕ). slice_get (slice_set sent l (n + 1)) z ≡ Some c) e read in
        let same : c ≡ n + 1 = sym (get_or_from_slice_get (slice_set sent l (n + 1)) l c c at_l) ∙ get_or-set_same sent l (n + 1) c within in
        ap (λ b. cond b (counts l + 1) (counts m)) (eq-eqb m l e) ∙ ap (λ z. z + 1) its ∙ sym same

    apart : m ≢ l → with_at l (counts l + 1) counts m ≡ c
    apart other =
        let inside : m < length sent = omega (arith, slice_get_within (slice_set sent l (n + 1)) m c read, length-set sent l (n + 1)) in
        let kept : get_or (slice_set sent l (n + 1)) m c ≡ get_or sent m c = get_or-set_other sent l m (n + 1) c other in
        let was : slice_get sent m ≡ Some c = slice_get-get_or sent m c inside ∙ ap Some (sym kept ∙ get_or_from_slice_get (slice_set sent l (n + 1)) m c c read) in
        ap (λ b. cond b (counts l + 1) (counts m)) (ne_eqb m l other) ∙ are m c was

pub map_push : {A B : Type 0} (f : A → B) (xs : List A) (y : A) → map f (xs ++ y ∷ []) ≡ map f xs ++ f y ∷ []
map_push f [] y = refl
map_push f (x ∷ xs) y = ap (λ zs. f x ∷ zs) (map_push f xs y)

pub posted_message : (i : Inputs) (k : Key) (base mid : Contents) (before mail new : List Message) (x : Posts) (locals n : ℕ) (sent : List ℕ) (s : OutgoingMessage) → ArePosted i x base mid before mail locals sent
    → IsSendable (system_of i) k.resource s → s.link < length sent → n ≡ slice_index sent s.link
    → new ≡ mail ++ message_of (system_of i) k s n ∷ []
    → ArePosted i (post (system_of i) k (reactions.Sends (port_of (system_of i) s.target) (map (carried_of (system_of i)) s.values)) x) base mid before new locals (slice_set sent s.link (n + 1))
posted_message i k base mid before mail new x locals n sent s posted sendable within is pushed = record {
  agenda = posted.agenda;
  mail =
      ap (map (arriving i)) pushed
      ∙ map_push (arriving i) mail (message_of sys k s n)
      ∙ ap (λ z. z ++ arriving i (message_of sys k s n) ∷ []) posted.mail
      ∙ append_assoc (map (arriving i) before) x.messages (arriving i (message_of sys k s n) ∷ [])
      ∙ ap (λ (y : Posts). map (arriving i) before ++ y.messages) same;
  counted = posted.counted;
  sends = subst (λ (y : Posts). CountsAre (slice_set sent s.link (n + 1)) y.sent) same (counts_put sent x.sent s.link n posted.sends within is);
}
  where
    sys : System
    sys = system_of i

    e : model.Event
    e = event_of i (Arrival (message_of sys k s n))

    -- the posts, by the number, link and path that the program has
    with_message : (number link : ℕ) → Path → Posts
    with_message m l p = record x {
      sent = with_at l (x.sent l + 1) x.sent;
      messages = x.messages ++ (message_key (sys.arrival l k.tick) (sys.resource p) l m, e) ∷ [];
    }

    its : n ≡ x.sent s.link
    its = is ∙ sym (posted.sends s.link (slice_index sent s.link) (slice_get-get_or sent s.link 0 within))

    here : Path
    here = path_at sys s.target.instance

    same : with_message n s.link here ≡ post sys k (reactions.Sends (port_of sys s.target) (map (carried_of sys) s.values)) x
    same =
        ap (λ m. with_message m s.link here) its
        ∙ ap (λ l. with_message (x.sent l) l here) sendable.sending.link
        ∙ ap (λ p. let l = sys.link k.resource (sys.resource p) in with_message (x.sent l) l p) (sym (port_path sys s.target))

-- ---- One after another

pub post_all_then : (sys : System) (k : Key) (os ps : List reactions.Out) (x : Posts) → post_all sys k (os ++ ps) x ≡ post_all sys k ps (post_all sys k os x)
post_all_then sys k [] ps x = refl
post_all_then sys k (o ∷ os) ps x = post_all_then sys k os ps (post sys k o x)

-- ---- What is posted may wait

pub local_waits : (i : Inputs) (k : Key) (n : ℕ) (t : Target) → IsLocal (system_of i) k.resource t → k.resource < length (system_of i).resource_names
    → MayWait i k.tick (local_key k.tick k.resource n) (Local t)
local_waits i k n t is named = record {
  event = record { numbered = is.target; here = ap (system_of i).resource (port_path (system_of i) t) ∙ is.here };
  resource = named;
  later = omega arith;
  typed = tt;
  own = refl;
}

pub message_is : (i : Inputs) (k : Key) (n : ℕ) (s : OutgoingMessage) → IsSendable (system_of i) k.resource s → IsMessage i (message_of (system_of i) k s n)
message_is i k n s is = record {
  event = record { numbered = (is.sending.target, is.sending.values); here = ap (system_of i).resource (port_path (system_of i) s.target) };
  link = is.there;
  typed = is.typed;
}

pub one_local : (i : Inputs) (k : Key) (base mid new : Contents) (before mail : List Message) (x : Posts) (o : Out) (locals locals' : ℕ) (sent : List ℕ) (t : Target)
    → o ≡ outs.Local t → locals' ≡ locals + 1 → ArePosted i x base mid before mail locals sent
    → IsPut mid new (local_key k.tick k.resource locals) (Local t)
    → ArePosted i (post (system_of i) k (out_of (system_of i) o) x) base new before mail locals' sent
one_local i k base mid new before mail x o locals locals' sent t is more posted put =
    let sys = system_of i in
    let one = posted_local i k base mid new before mail x locals sent t posted put in
    let same : post sys k (out_of sys (outs.Local t)) x ≡ post sys k (out_of sys o) x = ap (λ z. post sys k (out_of sys z) x) (sym is) in
    subst (λ n. ArePosted i (post sys k (out_of sys o) x) base new before mail n sent) (sym more) (subst (λ z. ArePosted i z base new before mail (locals + 1) sent) same one)

pub one_message : (i : Inputs) (k : Key) (base mid : Contents) (before mail new : List Message) (x : Posts) (o : Out) (locals : ℕ) (sent sent' : List ℕ) (s : OutgoingMessage)
    → o ≡ outs.Send s → sent' ≡ slice_set sent s.link (slice_index sent s.link + 1) → ArePosted i x base mid before mail locals sent
    → IsSendable (system_of i) k.resource s → s.link < length sent
    → new ≡ mail ++ message_of (system_of i) k s (slice_index sent s.link) ∷ []
    → ArePosted i (post (system_of i) k (out_of (system_of i) o) x) base mid before new locals sent'
one_message i k base mid before mail new x o locals sent sent' s is more posted sendable within pushed =
    let sys = system_of i in
    let one = posted_message i k base mid before mail new x locals (slice_index sent s.link) sent s posted sendable within refl pushed in
    let same : post sys k (out_of sys (outs.Send s)) x ≡ post sys k (out_of sys o) x = ap (λ z. post sys k (out_of sys z) x) (sym is) in
    subst (λ ns. ArePosted i (post sys k (out_of sys o) x) base mid before new locals ns) (sym more)
    (subst (λ z. ArePosted i z base mid before new locals (slice_set sent s.link (slice_index sent s.link + 1))) same one)
